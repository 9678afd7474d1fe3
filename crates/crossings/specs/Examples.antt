-- Worked crossings, as one table: what the definitions work out, and what it has to be.
use Rattle.std.specs.Prelude.{ℕ, ◌^◌, List, [], ◌∷◌, map, length, ℤ, pos, false}
use Rattle.std.proofs.Math.Option.{Option, none, some}
use Rattle.std.specs.Float.{nan, inf, binary64}
use Rattle.std.specs.Float.Ieee.{of_bits}
use Rattle.rules.specs.Examples.{minus, single, double, wave, sequence}
use Rattle.crossings.specs.Crossings.{crossing, crossing_refusal}

-- the point's number, or −1 for none
abbrev pub point_or : Option ℕ → ℤ
point_or none = minus 1
point_or (some k) = pos k

-- where WORD samples with a gain and an offset first reach a level
abbrev pub crosses : ℕ → ℕ → List ℕ → ℕ → ℤ
crosses gain offset samples level = point_or (crossing (wave ((32, 1) ∷ (116, length samples) ∷ (156, gain) ∷ (160, offset) ∷ []) [] samples) 1 1 (of_bits binary64 level))

unfoldable pub examples : List (List ℤ × List ℤ)
examples =
    -- gain 0.5, offset 0.25, samples −3, 4, 2, 9: values −1.75, 1.75, 0.75, 4.25
    (
      map (crosses (single (pos 5) 10) (single (pos 25) 100) (0xfffd ∷ 4 ∷ 2 ∷ 9 ∷ [])) (double (pos 175) 100 ∷ double (pos 176) 100 ∷ double (pos 425) 100 ∷ double (pos 426) 100 ∷ []),
      pos 1 ∷ pos 3 ∷ pos 3 ∷ minus 1 ∷ [],
    )
    -- gain −0.5, samples 3, −4, −20: values −1.75, 1.75, 9.75
    ∷ (
      map (crosses (single (minus 5) 10) (single (pos 25) 100) (3 ∷ 0xfffc ∷ 0xffec ∷ [])) (double (pos 175) 100 ∷ double (pos 176) 100 ∷ double (minus 2) 1 ∷ []),
      pos 1 ∷ pos 2 ∷ pos 0 ∷ [],
    )
    -- gain 0, sample −5: the value is −0, which is at 0
    ∷ (crosses 0 0 (0xfffb ∷ 5 ∷ []) 0 ∷ [], pos 0 ∷ [])
    -- gain 1, offset 2^−60: sample 1 has the value 1
    ∷ (crosses (single (pos 1) 1) (single (pos 1) (2 ^ 60)) (0 ∷ 1 ∷ []) (double (pos 1) 1) ∷ [], pos 1 ∷ [])
    -- refusals of document 01's example with g 2, array 2 absent: levels that are no finite numbers come before the segment
    ∷ (
      map pos (crossing_refusal sequence 1 1 (inf false) ∷ crossing_refusal sequence 1 3 nan ∷ crossing_refusal sequence 2 1 (of_bits binary64 0) ∷ []),
      pos 9 ∷ pos 9 ∷ pos 9 ∷ [],
    )
    ∷ (map pos (crossing_refusal sequence 1 3 (of_bits binary64 0) ∷ crossing_refusal sequence 1 2 (of_bits binary64 0) ∷ []), pos 10 ∷ pos 0 ∷ [])
    ∷ []
