-- The first point of a segment whose value is at or above a level, and the refusals of that call. Definitions only.
use Rattle.std.specs.Prelude.{ℕ, zero, suc, Bool, cond, List, [], ◌∷◌, ◌++◌, Float}
use Rattle.std.proofs.Math.Option.{Option, none, some}
use Rattle.std.specs.Float.Ieee.{le}
use Rattle.std.specs.Float.Ieee.Scale.{finite}
use Rattle.rules.specs.Wave.{Wave, points}
use Rattle.rules.specs.Rules.{first, rules, opened}
use Rattle.rules.specs.Points.{value, chosen, inside}

-- a value is at or above the level: IEEE's comparison, by which −0 is at 0
unfoldable pub reaches : Float → Float → Bool
reaches level v = le level v

-- the first of the n numbers from i on that passes a test, or none
unfoldable pub first_from : (ℕ → Bool) → ℕ → ℕ → Option ℕ
first_from test i zero = none
first_from test i (suc n) = cond (test i) (some i) (first_from test (suc i) n)

-- the first of the M points of segment n of array a whose value is at or above the level, or none
unfoldable pub crossing : Wave → ℕ → ℕ → Float → Option ℕ
crossing w a n level = first_from (λ k. reaches level (value w a n k)) 0 (points w.head)

-- 9 and 10: as for a point, and 9 also for a level that is infinite or not a number
unfoldable pub crossing_rules : ℕ → ℕ → Float → (ℕ → ℕ) → List (ℕ × List Bool)
crossing_rules a n level h = (9, finite level ∷ chosen a h) ∷ (10, inside n h) ∷ []

unfoldable pub crossing_refusal : List ℕ → ℕ → ℕ → Float → ℕ
crossing_refusal s a n level = first (rules s ++ crossing_rules a n level (opened s).head)
