-- One part of a slice, and the rows of parts by their index. Definitions only.
use Rattle.std.specs.Prelude.{◌≡◌, cond, ◌&&◌, ℕ, zero, suc, ◌+◌, ◌-◌, ◌*◌, ◌≤◌, length, get_or, take, drop, ltb}
use mathlib.Core.List.{List, map, flatten}
use Rattle.rules.specs.Numbers.{number, splice}
use Rattle.rules.specs.Rules.{payload_start, refusal}
use Rattle.copies.specs.Copies.{part}
use Rattle.joining.specs.Join.{part_end, parts_in, index_of, by_index}
use Rattle.joining.proofs.Lists.{Every}
use Rattle.joining.proofs.Index.{Once}
use Rattle.parts.specs.declared.Part.{Part}

-- the part that starts at `at`
abbrev pub this : List ℕ → ℕ → List ℕ
this s at = take (part_end (drop at s)) (drop at s)

-- 0, where its payload starts in the slice, where it ends, and its index; or its number and zeros
abbrev pub refused_as : ℕ → Part
refused_as n = record { refusal = n; start = 0; end = 0; index = 0 }

abbrev pub answer : ℕ → ℕ → List ℕ → Part
answer zero at p = record { refusal = 0; start = at + payload_start p; end = at + length p; index = index_of p }
answer (suc n) at p = refused_as (suc n)

unfoldable pub part_as : List ℕ → ℕ → Part
part_as s at = answer (refusal (this s at)) at (this s at)

-- ---- parts that are known to be good, each of L bytes under its header

pub record Sound (order long : ℕ) (p : List ℕ) : Type 0 where
  pub digit : (49 ≤ get_or p 1 0) × (get_or p 1 0 ≤ 57)
  pub whole : length p ≡ payload_start p + long
  pub index : number order (take 4 (drop (payload_start p + 140) p)) ≡ index_of p

pub record Placeable (order long : ℕ) (s : List ℕ) : Type 0 where
  pub once : Once 1 (length (parts_in s)) (parts_in s)
  pub sound : Every (Sound order long) (parts_in s)
  pub wide : 346 ≤ long

-- some bytes of a part's payload; and those of the parts with the indices behind `skip`, `count` of them
abbrev pub row_of : ℕ → ℕ → List ℕ → List ℕ
row_of from size p = part p (payload_start p + from) size

abbrev pub rows_of : ℕ → ℕ → ℕ → ℕ → List ℕ → List ℕ
rows_of from size skip count s = flatten (map (row_of from size) (take count (drop skip (by_index (parts_in s)))))

-- a row of index k at its place among `count` rows from `at`, those of the indices behind `skip`; no other index has a place
abbrev pub placed : ℕ → ℕ → ℕ → ℕ → ℕ → List ℕ → List ℕ → List ℕ
placed at size skip count k row out = cond (ltb skip k && ltb (k - suc skip) count) (splice out (at + (k - suc skip) * size) row) out
