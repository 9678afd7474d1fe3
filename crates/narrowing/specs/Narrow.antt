-- Narrowing WORD to BYTE, and refusal 19. Definitions only.
use Rattle.std.specs.Prelude.{ℕ, zero, suc, ◌/◌, Bool, ◌||◌, length, leb, eqb, pos, Float}
use mathlib.Core.List.{List, [], ◌∷◌, ◌++◌, map, flatten}
use Rattle.std.specs.Float.{binary32}
use Rattle.std.specs.Float.Ieee.{of_bits, to_bits, mul, of_int}
use Rattle.std.specs.Float.Ieee.Scale.{finite}
use Rattle.rules.specs.Wave.{Wave, encode, framed}
use Rattle.rules.specs.Rules.{first, rules, opened}
use Rattle.rules.specs.Cut.{changed}

-- the whole number at or below sample / 256. A wave has its samples as unsigned numbers, so it is the high byte; `floor-of` says it of the signed ones
abbrev pub high : ℕ → ℕ
high x = x / 256

-- 256 times the gain whose bits are n, and its bits; `gain-exact` says that the product is exact
unfoldable pub widened : ℕ → Float
widened n = mul binary32 (of_bits binary32 n) (of_int binary32 (pos 256))

unfoldable pub times256 : ℕ → ℕ
times256 n = to_bits binary32 (widened n)

-- COMM_TYPE and VERTICAL_GAIN
abbrev pub comm_type : (ℕ → ℕ) → ℕ
comm_type h = h 32

abbrev pub gain : (ℕ → ℕ) → ℕ
gain h = h 156

-- the fields changed, given the arrays that are written: COMM_TYPE, WAVE_ARRAY_1, WAVE_ARRAY_2 and VERTICAL_GAIN
abbrev pub narrow_changes : (ℕ → ℕ) → List (List ℕ) → List (List ℕ) → List (ℕ × ℕ)
narrow_changes h one two = (32, 0) ∷ (60, length (flatten one)) ∷ (64, length (flatten two)) ∷ (156, times256 (gain h)) ∷ []

-- a WORD wave as a BYTE wave
unfoldable pub narrowed : Wave → Wave
narrowed w =
    let one = map (map high) w.one in
    let two = map (map high) w.two in
    record { head = changed (narrow_changes w.head one two) w.head; text = w.text; trig = w.trig; ris = w.ris; one = one; two = two }

-- by COMM_TYPE: a BYTE wave stays as it is
abbrev pub narrow_by : ℕ → Wave → Wave
narrow_by zero w = w
narrow_by (suc t) w = narrowed w

unfoldable pub narrow : Wave → Wave
narrow w = narrow_by (comm_type w.head) w

-- the block written: a `#9` header, no new line, and the byte order that it had
unfoldable pub narrow_bytes : List ℕ → List ℕ
narrow_bytes s = framed (encode (narrow (opened s)))

-- 19 GAIN: of a WORD block, 256 times the gain is finite
unfoldable pub gained : (ℕ → ℕ) → List Bool
gained h = (eqb (comm_type h) 0 || finite (widened (gain h))) ∷ []

-- the refusal: 1 to 8 and 20, then 19, then 13 for an output of n bytes
unfoldable pub narrow_refusal : List ℕ → ℕ → ℕ
narrow_refusal s n = first (rules s ++ ((19, gained (opened s).head) ∷ (13, leb (length (narrow_bytes s)) n ∷ []) ∷ []))
