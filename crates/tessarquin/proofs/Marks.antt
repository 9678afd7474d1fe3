-- Where `tessarquin_fill` returned 0, the number behind its M values is how many of the M points have the mark that `tessarquin_point` leaves for them
-- (`fill_marks`).
use mathlib.Core.Path.{◌≡◌, refl, sym, ap, ◌∙◌}
use mathlib.Core.List.{List, [], ◌∷◌, map}
use Prim.Native.Nat.{ℕ, ◌*◌, ◌≤◌, ◌<◌}
use native.Mathlib.Omega.{arith}
use lib.Ieee.{binary64, to_bits}
use lib.ListN.{length, take, drop}
use Rattle.rules.specs.Numbers.{Bytes, number, total, up_from, splice}
use Rattle.rules.specs.Wave.{points}
use Rattle.rules.specs.Rules.{opened}
use Rattle.rules.specs.Points.{value, time, mark, mark_number, mark_count, point_refusal, walk_refusal}
use Rattle.rules.proofs.Marks.{mark_le, mark_count-points}
use Rattle.rules.proofs.Opened.{shape_opened}
use Rattle.block.specs.Opened.{opened_as}
use Rattle.points.proofs.Refusals.{walk_accepts, walk_points}
use Rattle.points.proofs.Fillings.{map_up, marks-small}
use Rattle.tessarquin.specs.Calls.{point_bytes, point_number, point_left, value_bits, fill_bytes, fill_number, fill_left}
use Rattle.tessarquin.proofs.Writing.{last_read}
use Rattle.tessarquin.proofs.Slices.{point_length, number_enough, own_answered}
use Rattle.tessarquin.proofs.Filling.{length-values}
use Rattle.tessarquin.proofs.Learnt.{PointCall, FillCall}
use Rattle.tessarquin.proofs.Places.{third_in}

-- the number behind m values
abbrev pub mark_count_in : ℕ → List ℕ → ℕ
mark_count_in m left = number 0 (take 8 (drop (m * 8) left))

-- a point's mark, where `tessarquin_point` is lent room for its three numbers
module _ (s : List ℕ) (a n k : ℕ) (e : point_refusal s a n k ≡ 0) (answer : List ℕ) (m : ℕ) (left : List ℕ) (call : PointCall s a n k answer m left) (h : 24 ≤ length answer) where
  point_returns : m ≡ 0
  unfolding point_number
  point_returns =
      call.3.0 ∙ number_enough (point_refusal s a n k) (point_bytes s a n k) (length answer) (omega (arith, point_length s a n k)) ∙ e

  mark-read : third_in left ≡ mark_number (mark (opened s) a n k)
  unfolding point_number point_left
  mark-read =
      ap third_in (own_answered (point_refusal s a n k) (point_bytes s a n k) answer m left call.3 point_returns).1
      ∙ last_read (to_bits binary64 (value (opened s) a n k) ∷ to_bits binary64 (time (opened s) n k) ∷ []) (mark_number (mark (opened s) a n k)) 16 answer refl (omega (arith, mark_le (mark (opened s) a n k)))

module _ (s : List ℕ) (b : Bytes s) (a n : ℕ) (answer : List ℕ) (m : ℕ) (left : List ℕ) (call : FillCall s a n answer m left) (z : m ≡ 0) where
  filled : (walk_refusal s a n ≡ 0) × (left ≡ splice answer 0 (fill_bytes s a n))
  unfolding fill_number fill_left
  filled = own_answered (walk_refusal s a n) (fill_bytes s a n) answer m left call.3 z

  count-read : mark_count_in (points (opened s).head) left ≡ mark_count (opened s) a n
  count-read =
      let some = (shape_opened s b (walk_accepts s a n filled.0)).some in
      let small = marks-small s b (opened_as s) a n (record { opens = refl; answers = walk_points s a n filled.0 0 some }) (mark_count (opened s) a n) refl in
      ap (mark_count_in (points (opened s).head)) filled.1
      ∙ last_read (value_bits s a n) (mark_count (opened s) a n) (points (opened s).head * 8) answer (ap (λ (x : ℕ). x * 8) (length-values s a n)) (omega (arith, small))

  -- a call for each of the M points, lent 24 bytes or more, returns 0, and their marks add up to the count
  pub fill_marks : (answers : ℕ → List ℕ) (ms : ℕ → ℕ) (lefts : ℕ → List ℕ)
      → ((k : ℕ) → k < points (opened s).head → PointCall s a n k (answers k) (ms k) (lefts k) × (24 ≤ length (answers k)))
      → ((k : ℕ) → k < points (opened s).head → ms k ≡ 0) × (mark_count_in (points (opened s).head) left ≡ total (map (λ (k : ℕ). third_in (lefts k)) (up_from 0 (points (opened s).head))))
  fill_marks answers ms lefts calls =
      let asked : (k : ℕ) → k < points (opened s).head → point_refusal s a n k ≡ 0 = walk_points s a n filled.0 in (
        λ k h. point_returns s a n k (asked k h) (answers k) (ms k) (lefts k) (calls k h).0 (calls k h).1,
        count-read ∙ mark_count-points (opened s) a n
            ∙ ap total (map_up (λ (k : ℕ). mark_number (mark (opened s) a n k)) (λ (k : ℕ). third_in (lefts k)) 0 (points (opened s).head) (λ k _ l.
            let h : k < points (opened s).head = omega arith in
            sym (mark-read s a n k (asked k h) (answers k) (ms k) (lefts k) (calls k h).0 (calls k h).1))),
      )
