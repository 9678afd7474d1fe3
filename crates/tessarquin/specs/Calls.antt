-- The calls for a host in C: the number that each returns, and what it leaves in each slice that it was lent. Definitions only.
use Rattle.std.specs.Prelude.{ℕ, zero, suc, ◌+◌, ◌/◌, cond, List, [], ◌∷◌, ◌++◌, map, length, leb, Float}
use Rattle.std.proofs.Math.Option.{Option, none, some}
use Rattle.std.specs.Float.{binary64}
use Rattle.std.specs.Float.Ieee.{to_bits}
use Rattle.rules.specs.Numbers.{all_bytes, up_from, splice}
use Rattle.rules.specs.Wave.{order_of, segments, points, first_point, sparsing, segment_index, subarray_count, lengths_of, starts_of}
use Rattle.rules.specs.Rules.{payload_start, refusal, opened}
use Rattle.rules.specs.Points.{value, time, mark, mark_number, mark_count, point_refusal, walk_refusal}
use Rattle.rules.specs.Cut.{Setup, or_else, count, cut_bytes, cut_refusal, combined, combined_refusal}
use Rattle.crossings.specs.Crossings.{crossing, crossing_refusal}
use Rattle.strips.specs.Strips.{strip_of, strip_refusal}
use Rattle.strips.specs.Answers.{unsigned, signed_bytes}
use Rattle.lines.specs.Reader.{read_setup, read_refusal, or_zeros}
use Rattle.lines.specs.Writer.{setup_line, write_refusal}
use Rattle.joining.specs.Join.{parts_in, joined_bytes, join_refusal}
use Rattle.narrowing.specs.Narrow.{narrow_bytes, narrow_refusal}
use Rattle.block.specs.Opened.{arrays_of}
use Rattle.block.specs.Texts.{text_of, text_start, trace_label, up_to_zero, or_other}

-- 13, after every other check: where bytes do not fit the room that they were lent
abbrev pub or_room : ℕ → List ℕ → ℕ → ℕ
or_room n bs room = or_else n (cond (leb (length bs) room) 0 13)

-- a slice afterwards: the bytes at its start and behind them what it held; all that it held where the call is refused
abbrev pub left_by : ℕ → List ℕ → List ℕ → List ℕ
left_by zero bs slice = splice slice 0 bs
left_by (suc n) bs slice = slice

-- ---- open: g, M, arrays, COMM_ORDER, COMM_TYPE

abbrev pub open_bytes : List ℕ → List ℕ
open_bytes s = let h = (opened s).head in all_bytes 0 8 (segments h ∷ points h ∷ arrays_of h ∷ order_of h ∷ h 32 ∷ [])

unfoldable pub open_number : List ℕ → ℕ → ℕ
open_number s room = or_room (refusal s) (open_bytes s) room

unfoldable pub open_left : List ℕ → List ℕ → List ℕ
open_left s answer = left_by (open_number s (length answer)) (open_bytes s) answer

-- ---- point k of segment n of array a: the value's bits, the time's, and the mark

abbrev pub point_bytes : List ℕ → ℕ → ℕ → ℕ → List ℕ
point_bytes s a n k = all_bytes 0 8 (to_bits binary64 (value (opened s) a n k) ∷ to_bits binary64 (time (opened s) n k) ∷ mark_number (mark (opened s) a n k) ∷ [])

unfoldable pub point_number : List ℕ → ℕ → ℕ → ℕ → ℕ → ℕ
point_number s a n k room = or_room (point_refusal s a n k) (point_bytes s a n k) room

unfoldable pub point_left : List ℕ → ℕ → ℕ → ℕ → List ℕ → List ℕ
point_left s a n k answer = left_by (point_number s a n k (length answer)) (point_bytes s a n k) answer

-- ---- a fill of segment n of array a: the M values' bits, and how many of the M samples have the mark; refused before 13 as a walk over the segment is

abbrev pub value_bits : List ℕ → ℕ → ℕ → List ℕ
value_bits s a n = map (λ k. to_bits binary64 (value (opened s) a n k)) (up_from 0 (points (opened s).head))

abbrev pub fill_bytes : List ℕ → ℕ → ℕ → List ℕ
fill_bytes s a n = all_bytes 0 8 (value_bits s a n ++ (mark_count (opened s) a n ∷ []))

unfoldable pub fill_number : List ℕ → ℕ → ℕ → ℕ → ℕ
fill_number s a n room = or_room (walk_refusal s a n) (fill_bytes s a n) room

unfoldable pub fill_left : List ℕ → ℕ → ℕ → List ℕ → List ℕ
fill_left s a n answer = left_by (fill_number s a n (length answer)) (fill_bytes s a n) answer

-- ---- a crossing of the level in segment n of array a: 1 and the point, or 0 and 0 for none

abbrev pub crossing_numbers : Option ℕ → List ℕ
crossing_numbers (some k) = 1 ∷ k ∷ []
crossing_numbers none = 0 ∷ 0 ∷ []

abbrev pub crossing_bytes : List ℕ → ℕ → ℕ → Float → List ℕ
crossing_bytes s a n level = all_bytes 0 8 (crossing_numbers (crossing (opened s) a n level))

unfoldable pub crossing_number : List ℕ → ℕ → ℕ → Float → ℕ → ℕ
crossing_number s a n level room = or_room (crossing_refusal s a n level) (crossing_bytes s a n level) room

unfoldable pub crossing_left : List ℕ → ℕ → ℕ → Float → List ℕ → List ℕ
crossing_left s a n level answer = left_by (crossing_number s a n level (length answer)) (crossing_bytes s a n level) answer

-- ---- a strip of segment n of array a in w columns: the leasts to one slice, the greatests to the second; the sum, the marks and the peak to the third

abbrev pub least_bytes : List ℕ → ℕ → ℕ → ℕ → List ℕ
least_bytes s a n w = signed_bytes (strip_of (opened s) a n w).leasts

abbrev pub greatest_bytes : List ℕ → ℕ → ℕ → ℕ → List ℕ
greatest_bytes s a n w = signed_bytes (strip_of (opened s) a n w).greatests

abbrev pub strip_answer : List ℕ → ℕ → ℕ → ℕ → List ℕ
strip_answer s a n w = let t = strip_of (opened s) a n w in all_bytes 0 8 (unsigned 8 t.sum ∷ t.marks ∷ t.peak ∷ [])

-- 13 of the first two, which have room for a number in each eight bytes, is in the strip's own number
unfoldable pub strip_number : List ℕ → ℕ → ℕ → ℕ → ℕ → ℕ → ℕ → ℕ
strip_number s a n w low high third = or_room (strip_refusal s a n w (low / 8) (high / 8)) (strip_answer s a n w) third

unfoldable pub least_left : List ℕ → ℕ → ℕ → ℕ → List ℕ → ℕ → ℕ → List ℕ
least_left s a n w least high third = left_by (strip_number s a n w (length least) high third) (least_bytes s a n w) least

unfoldable pub greatest_left : List ℕ → ℕ → ℕ → ℕ → ℕ → List ℕ → ℕ → List ℕ
greatest_left s a n w low greatest third = left_by (strip_number s a n w low (length greatest) third) (greatest_bytes s a n w) greatest

unfoldable pub strip_answer_left : List ℕ → ℕ → ℕ → ℕ → ℕ → ℕ → List ℕ → List ℕ
strip_answer_left s a n w low high answer = left_by (strip_number s a n w low high (length answer)) (strip_answer s a n w) answer

-- ---- a cut in the order q: the block to one slice, c and the block's length to the other

abbrev pub setup : ℕ → ℕ → ℕ → ℕ → Setup
setup sp np fp sn = record { sp = sp; np = np; fp = fp; sn = sn }

abbrev pub cut_answer : List ℕ → Setup → ℕ → List ℕ
cut_answer s c q = all_bytes 0 8 (count c (points (opened s).head) ∷ length (cut_bytes q c s) ∷ [])

-- 13 of the one slice is in the cut's own number
unfoldable pub cut_number : List ℕ → Setup → ℕ → ℕ → ℕ → ℕ
cut_number s c q room second = or_room (cut_refusal q c s room) (cut_answer s c q) second

unfoldable pub cut_left : List ℕ → Setup → ℕ → List ℕ → ℕ → List ℕ
cut_left s c q out second = left_by (cut_number s c q (length out) second) (cut_bytes q c s) out

unfoldable pub cut_answer_left : List ℕ → Setup → ℕ → ℕ → List ℕ → List ℕ
cut_answer_left s c q room answer = left_by (cut_number s c q room (length answer)) (cut_answer s c q) answer

-- ---- the one cut for the cut a, and then the cut b, which answered c: SP, NP, FP and SN

abbrev pub setup_numbers : Setup → List ℕ
setup_numbers c = c.sp ∷ c.np ∷ c.fp ∷ c.sn ∷ []

abbrev pub combined_bytes : Setup → Setup → ℕ → List ℕ
combined_bytes a b c = all_bytes 0 8 (setup_numbers (combined a b c))

unfoldable pub combined_number : Setup → Setup → ℕ → ℕ → ℕ
combined_number a b c room = or_room (combined_refusal a b) (combined_bytes a b c) room

unfoldable pub combined_left : Setup → Setup → ℕ → List ℕ → List ℕ
combined_left a b c answer = left_by (combined_number a b c (length answer)) (combined_bytes a b c) answer

-- ---- a setup read from the line t: SP, NP, FP and SN

abbrev pub setup_read_bytes : List ℕ → List ℕ
setup_read_bytes t = all_bytes 0 8 (setup_numbers (or_zeros (read_setup t)))

unfoldable pub setup_read_number : List ℕ → ℕ → ℕ
setup_read_number t room = or_room (read_refusal t) (setup_read_bytes t) room

unfoldable pub setup_read_left : List ℕ → List ℕ → List ℕ
setup_read_left t answer = left_by (setup_read_number t (length answer)) (setup_read_bytes t) answer

-- ---- the normal line of the setup c: the line to one slice, its length to the other

abbrev pub setup_write_answer : Setup → List ℕ
setup_write_answer c = all_bytes 0 8 (length (setup_line c) ∷ [])

-- of the one slice 15 takes the place of 13
unfoldable pub setup_write_number : Setup → ℕ → ℕ → ℕ
setup_write_number c room second = or_room (write_refusal c room) (setup_write_answer c) second

unfoldable pub setup_write_left : Setup → List ℕ → ℕ → List ℕ
setup_write_left c out second = left_by (setup_write_number c (length out) second) (setup_line c) out

unfoldable pub setup_write_answer_left : Setup → ℕ → List ℕ → List ℕ
setup_write_answer_left c room answer = left_by (setup_write_number c room (length answer)) (setup_write_answer c) answer

-- ---- a join of the parts s: the block to one slice, n and the block's length to the other

abbrev pub join_answer : List ℕ → List ℕ
join_answer s = all_bytes 0 8 (length (parts_in s) ∷ length (joined_bytes (parts_in s)) ∷ [])

-- 13 of the one slice is in the join's own number
unfoldable pub join_number : List ℕ → ℕ → ℕ → ℕ
join_number s room second = or_room (join_refusal s room) (join_answer s) second

unfoldable pub join_left : List ℕ → List ℕ → ℕ → List ℕ
join_left s out second = left_by (join_number s (length out) second) (joined_bytes (parts_in s)) out

unfoldable pub join_answer_left : List ℕ → ℕ → List ℕ → List ℕ
join_answer_left s room answer = left_by (join_number s room (length answer)) (join_answer s) answer

-- ---- a narrowing: the block to one slice, its length to the other

abbrev pub narrow_answer : List ℕ → List ℕ
narrow_answer s = all_bytes 0 8 (length (narrow_bytes s) ∷ [])

-- 13 of the one slice is in the narrowing's own number
unfoldable pub narrow_number : List ℕ → ℕ → ℕ → ℕ
narrow_number s room second = or_room (narrow_refusal s room) (narrow_answer s) second

unfoldable pub narrow_left : List ℕ → List ℕ → ℕ → List ℕ
narrow_left s out second = left_by (narrow_number s (length out) second) (narrow_bytes s) out

unfoldable pub narrow_answer_left : List ℕ → ℕ → List ℕ → List ℕ
narrow_answer_left s room answer = left_by (narrow_number s room (length answer)) (narrow_answer s) answer

-- ---- the layout: where the payload starts, F, S, SEGMENT_INDEX, SUBARRAY_COUNT, the ten lengths, and where each part starts in the payload

abbrev pub layout_bytes : List ℕ → List ℕ
layout_bytes s =
    let h = (opened s).head in
    all_bytes 0 8 (payload_start s ∷ first_point h ∷ sparsing h ∷ segment_index h ∷ subarray_count h ∷ lengths_of h ++ starts_of h)

unfoldable pub layout_number : List ℕ → ℕ → ℕ
layout_number s room = or_room (refusal s) (layout_bytes s) room

unfoldable pub layout_left : List ℕ → List ℕ → List ℕ
layout_left s answer = left_by (layout_number s (length answer)) (layout_bytes s) answer

-- ---- the user text: where it starts in the block, and how many bytes it has

abbrev pub text_bytes : List ℕ → List ℕ
text_bytes s = all_bytes 0 8 (text_start s ∷ length (text_of s) ∷ [])

unfoldable pub text_number : List ℕ → ℕ → ℕ
text_number s room = or_room (refusal s) (text_bytes s) room

unfoldable pub text_left : List ℕ → List ℕ → List ℕ
text_left s answer = left_by (text_number s (length answer)) (text_bytes s) answer

-- ---- the label: 0 and where it stands in the block, or 1 and the fallback whole where TRACE_LABEL is empty

abbrev pub label_bytes : List ℕ → List ℕ → List ℕ
label_bytes s fallback =
    let l = up_to_zero (trace_label (opened s)) in
    all_bytes 0 8 (or_other l (0 ∷ (payload_start s + 96) ∷ length l ∷ []) (1 ∷ 0 ∷ length fallback ∷ []))

unfoldable pub label_number : List ℕ → List ℕ → ℕ → ℕ
label_number s fallback room = or_room (refusal s) (label_bytes s fallback) room

unfoldable pub label_left : List ℕ → List ℕ → List ℕ → List ℕ
label_left s fallback answer = left_by (label_number s fallback (length answer)) (label_bytes s fallback) answer
