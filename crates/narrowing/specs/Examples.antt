-- Worked examples of a narrowing, as one table: what the definitions work out, and what it should be.
use Rattle.std.specs.Prelude.{ℕ, List, [], ◌∷◌, map, length, drop, ℤ, pos}
use Rattle.rules.specs.Numbers.{signed}
use Rattle.rules.specs.Rules.{stated}
use Rattle.rules.specs.Cut.{cut_bytes}
use Rattle.rules.specs.Examples.{minus, setup, poked, sequence}
use Rattle.narrowing.specs.Narrow.{high, times256, narrow_bytes, narrow_refusal}

unfoldable pub examples : List (List ℤ × List ℤ)
examples =
    -- samples −1, −256, −257, −32,768, 255, 256, 32,767: at or below, not toward 0
    (map (λ (x : ℕ). signed 1 (high x)) (0xffff ∷ 0xff00 ∷ 0xfeff ∷ 0x8000 ∷ 0xff ∷ 0x100 ∷ 0x7fff ∷ []), minus 1 ∷ minus 1 ∷ minus 2 ∷ minus 128 ∷ pos 0 ∷ pos 1 ∷ pos 127 ∷ [])
    -- gains 0.5, 2^−149, 2^−127, −0, −2^−141 and the greatest one below 2^120: 128, 2^−141, 2^−119, −0, −2^−133 and the greatest of all
    ∷ (
      map (λ (n : ℕ). pos (times256 n)) (0x3f00_0000 ∷ 0x0000_0001 ∷ 0x0040_0000 ∷ 0x8000_0000 ∷ 0x8000_0100 ∷ 0x7b7f_ffff ∷ []),
      pos 0x4300_0000 ∷ pos 0x0000_0100 ∷ pos 0x0400_0000 ∷ pos 0x8000_0000 ∷ pos 0x8001_0000 ∷ pos 0x7f7f_ffff ∷ [],
    )
    -- g 2, M 5, WORD, TRIGTIME 32 bytes, L 398: L 388, slice 399, and one byte fewer is 13
    ∷ (pos (narrow_refusal sequence 399) ∷ pos (narrow_refusal sequence 398) ∷ pos (stated (narrow_bytes sequence)) ∷ pos (length (narrow_bytes sequence)) ∷ [], pos 0 ∷ pos 13 ∷ pos 388 ∷ pos 399 ∷ [])
    -- the same with the greatest gain below 2^120, and with 2^120: 19
    ∷ (
      pos (narrow_refusal (poked ((167, 0x7b ∷ 0x7f ∷ 0xff ∷ 0xff ∷ []) ∷ []) sequence) 399) ∷ pos (narrow_refusal (poked ((167, 0x7b ∷ 0x80 ∷ 0 ∷ 0 ∷ []) ∷ []) sequence) 399) ∷ [],
      pos 0 ∷ pos 19 ∷ [],
    )
    -- of its samples 0102, 0304, .. 1314 the high bytes
    ∷ (map pos (drop 389 (narrow_bytes sequence)), map pos (1 ∷ 3 ∷ 5 ∷ 7 ∷ 9 ∷ 11 ∷ 13 ∷ 15 ∷ 17 ∷ 19 ∷ []))
    -- cut by SP 2 and SN 2 in the other order, and narrowed: 0B, 0F, 13 either way
    ∷ (map pos (drop 373 (narrow_bytes (cut_bytes 1 (setup 2 0 0 2) sequence))), map pos (11 ∷ 15 ∷ 19 ∷ []))
    ∷ (map pos (cut_bytes 1 (setup 2 0 0 2) (narrow_bytes sequence)), map pos (narrow_bytes (cut_bytes 1 (setup 2 0 0 2) sequence)))
    ∷ []
