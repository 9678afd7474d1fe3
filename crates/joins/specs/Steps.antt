-- What is known on the way through a join. Definitions only.
use Rattle.std.specs.Prelude.{◌≡◌, ℕ, ◌+◌, ◌*◌, length, get_or}
use mathlib.Core.List.{List, [], map, flatten}
use Rattle.rules.specs.Numbers.{starts_from}
use Rattle.rules.specs.Rules.{refusal}
use Rattle.copies.specs.Copies.{gather}
use Rattle.joining.specs.Join.{parts_in, by_index, joined_bytes}
use Rattle.joining.proofs.Says.{Together}
use Rattle.joining.proofs.Placing.{stretch}
use Rattle.fronts.specs.declared.Lead.{Lead}
use Rattle.fronts.specs.Fronts.{lead_of}

-- the n parts of s belong together, and the first ends at `end`
pub record Counted (s : List ℕ) (n end : ℕ) : Type 0 where
  pub together : Together (parts_in s)
  pub count : n ≡ length (parts_in s)
  pub ends : end ≡ length (get_or (parts_in s) 0 [])

-- and its lead was read
pub record Gathered (s : List ℕ) (lead : Lead) (n end : ℕ) : Type 0 where
  pub together : Together (parts_in s)
  pub leads : lead ≡ lead_of (get_or (parts_in s) 0 [])
  pub count : n ≡ length (parts_in s)
  pub ends : end ≡ length (get_or (parts_in s) 0 [])

-- where table i starts in a payload
abbrev pub start_by : Lead → ℕ → ℕ
start_by lead i = get_or (starts_from 0 lead.lengths) i 0

-- L of n such parts joined
abbrev pub total_by : Lead → ℕ → ℕ
total_by lead n =
    let l = lead.lengths in
    346 + (get_or l 1 0 + (n * get_or l 3 0 + (get_or l 4 0 + (n * get_or l 6 0 + n * get_or l 7 0))))

-- and their joined block is good
pub record Ready (s : List ℕ) (lead : Lead) (n end total : ℕ) : Type 0 where
  pub gathered : Gathered s lead n end
  pub block : refusal (joined_bytes (parts_in s)) ≡ 0
  pub long : total ≡ total_by lead n

-- the bytes of all parts by index, of one of the ten lengths
abbrev pub table_of : ℕ → List ℕ → List ℕ
table_of i s = flatten (map (stretch i) (by_index (parts_in s)))

-- those of k lengths from the third on, one after another
abbrev pub tables_to : ℕ → List ℕ → List ℕ
tables_to k s = gather (λ j. table_of (3 + j) s) k
