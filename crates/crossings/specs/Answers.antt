-- What a crossing answers, each case of the enum by its numbers, and what the scan finds. Definitions only.
use Rattle.std.specs.Prelude.{◌≡◌, ℕ, zero, suc, ◌≤◌, ◌<◌, Bool, true, false, ◌||◌, List, [], ◌∷◌, ℤ, Float}
use Rattle.std.proofs.Math.Option.{Option, none, some}
use Rattle.rules.specs.Rules.{opened}
use Rattle.crossings.specs.Crossings.{crossing, crossing_refusal}
use Rattle.crossings.specs.declared.Told.{Told}
use Rattle.crossings.specs.declared.Crossing.{Crossing}
use Rattle.crossings.specs.declared.Crossing.TheVariants.{At, Nowhere, Refused}

-- of a refused call its number, and else the point or none
abbrev pub crossing_by : ℕ → Option ℕ → Crossing
crossing_by zero none = Nowhere
crossing_by zero (some k) = At k
crossing_by (suc n) x = Refused (suc n)

-- the first point of segment n of array a whose value is at or above the level
unfoldable pub crossing_as : List ℕ → ℕ → ℕ → Float → Crossing
crossing_as s a n level = crossing_by (crossing_refusal s a n level) (crossing (opened s) a n level)

-- each case by its numbers: the refusal's, 1 for a point and 0 for none, and the point's
abbrev pub told_by : Crossing → Told
told_by (At k) = record { refusal = 0; found = 1; point = k }
told_by Nowhere = record { refusal = 0; found = 0; point = 0 }
told_by (Refused n) = record { refusal = n; found = 0; point = 0 }

-- one of some samples passes a test
abbrev pub some? : (ℤ → Bool) → List ℤ → Bool
some? test [] = false
some? test (z ∷ zs) = test z || some? test zs

-- k is the first of the numbers below n that passes a test, or n where none does
pub record First (test : ℕ → Bool) (n k : ℕ) : Type 0 where
  pub within : k ≤ n
  pub passes : k < n → test k ≡ true
  pub fails : (j : ℕ) → j < k → test j ≡ false
