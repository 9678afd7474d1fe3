-- The listing of a block as text: the first line, a line for each point of array 1, and what is printed of other input. Definitions only.
use Rattle.std.specs.Prelude.{ℕ, zero, suc, ◌-◌, cond, length, ltb}
use mathlib.Core.List.{List, [], ◌∷◌, ◌++◌, map, flatten}
use Rattle.std.specs.Float.{binary64}
use Rattle.std.specs.Float.Ieee.{to_bits}
use Rattle.rules.specs.Numbers.{up_from}
use Rattle.rules.specs.Wave.{Wave, order_of, segments, points}
use Rattle.rules.specs.Rules.{refusal, opened}
use Rattle.rules.specs.Points.{value, time, mark, mark_number}
use Rattle.block.specs.Opened.{arrays_of}
use Rattle.digits.specs.Digits.{decimal, hex}

-- ---- lines

-- words with one blank between them, and a new line
abbrev pub line : List (List ℕ) → List ℕ
line [] = 10 ∷ []
line (w ∷ []) = w ++ (10 ∷ [])
line (w ∷ v ∷ ws) = w ++ (32 ∷ line (v ∷ ws))

-- g, M, arrays, COMM_ORDER, COMM_TYPE
unfoldable pub first_line : (ℕ → ℕ) → List ℕ
first_line h = line (decimal (segments h) ∷ decimal (points h) ∷ decimal (arrays_of h) ∷ decimal (order_of h) ∷ decimal (h 32) ∷ [])

-- of point k of segment n of array 1: segment, k, value bits, time bits, and the mark, 0 or 1
unfoldable pub point_line : Wave → ℕ → ℕ → List ℕ
point_line w n k = line (decimal n ∷ decimal k ∷ hex (to_bits binary64 (value w 1 n k)) ∷ hex (to_bits binary64 (time w n k)) ∷ decimal (mark_number (mark w 1 n k)) ∷ [])

-- `refused` and the number; and `too long`
unfoldable pub refused_line : ℕ → List ℕ
refused_line n = line ((114 ∷ 101 ∷ 102 ∷ 117 ∷ 115 ∷ 101 ∷ 100 ∷ []) ∷ decimal n ∷ [])

unfoldable pub too_long : List ℕ
too_long = line ((116 ∷ 111 ∷ 111 ∷ []) ∷ (108 ∷ 111 ∷ 110 ∷ 103 ∷ []) ∷ [])

-- ---- the listing

-- the lines of segment n from point k on
abbrev pub segment_lines : Wave → ℕ → ℕ → List ℕ
segment_lines w n k = flatten (map (point_line w n) (up_from k (points w.head - k)))

-- of an accepted block; of one that is refused by its number
abbrev pub listing_by : ℕ → Wave → List ℕ
listing_by zero w = first_line w.head ++ flatten (map (λ n. segment_lines w n 0) (up_from 1 (segments w.head)))
listing_by (suc r) w = refused_line (suc r)

-- what is printed of an input
unfoldable pub listing : List ℕ → List ℕ
listing s = cond (ltb 65536 (length s)) too_long (listing_by (refusal s) (opened s))
