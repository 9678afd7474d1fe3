-- The same of the calls for C, the two numbers read from the bytes of the answer (`crossing-read`): where `tessarquin_crossing` returned 0 and told of a point,
-- `tessarquin_point` leaves for it the bits of a value at or above the level (`crossed_there`), and for each one before it those of a value below
-- (`below-before`); where it told of none, for each one (`below_all`). And another accepted header changes nothing (`crossing-same`).
use mathlib.Core.Path.{◌≡◌, refl, sym, ap, ◌∙◌}
use mathlib.Core.Bool.{Bool, true, false}
use mathlib.Core.List.{List, [], ◌∷◌}
use mathlib.Core.Option.{Option, none, some}
use Prim.Native.Nat.{ℕ, ◌+◌, ◌*◌, ◌^◌, ◌≤◌, ◌<◌}
use native.Mathlib.Nat.{le-mul_of_pos_right}
use native.Mathlib.Omega.{arith}
use lib.Ieee.{Float, binary64, to_bits}
use lib.ListN.{length, get_or, take}
use Rattle.rules.specs.Numbers.{Bytes, Below, bytes, all_bytes, splice}
use Rattle.rules.specs.Wave.{points}
use Rattle.rules.specs.Rules.{opened}
use Rattle.rules.specs.Points.{value, time, mark, mark_number, point_refusal}
use Rattle.rules.proofs.Headers.{SameAnswers}
use Rattle.block.specs.declared.Opened.{Opened}
use Rattle.block.specs.Opened.{opened_as}
use Rattle.block.proofs.Answers.{number_is}
use Rattle.points.specs.Steps.{Lent}
use Rattle.points.proofs.Refusals.{points_are}
use Rattle.points.proofs.Values.{accepts, slice_small}
use Rattle.points.proofs.Fillings.{samples-room}
use Rattle.crossings.specs.Crossings.{reaches, crossing, crossing_refusal}
use Rattle.crossings.proofs.Crossings.{Crosses, not_yet, crossing-at, crossing_none, asked}
use Rattle.crossings.proofs.Calls.{same-refusal}
use Rattle.tessarquin.specs.Calls.{or_room, left_by, point_bytes, point_number, point_left, crossing_numbers, crossing_bytes, crossing_number, crossing_left}
use Rattle.tessarquin.proofs.Slices.{point_length, number_enough, own_answered}
use Rattle.tessarquin.proofs.Writing.{one_number, numbers-before, pair_read}
use Rattle.tessarquin.proofs.Learnt.{PointCall, CrossingCall}
use Rattle.tessarquin.proofs.Places.{first_in, second_in}

-- ---- what a call that returned 0 told

told_below : (x : Option ℕ) → ((k : ℕ) → x ≡ some k → k < 256 ^ 8) → Below (256 ^ 8) (crossing_numbers x)
told_below none h = (omega arith, (omega arith, tt))
told_below (some k) h = (omega arith, (h k refl, tt))

read : (x : Option ℕ) (slice : List ℕ) → Below (256 ^ 8) (crossing_numbers x) → let l = splice slice 0 (all_bytes 0 8 (crossing_numbers x)) in first_in l ∷ second_in l ∷ [] ≡ crossing_numbers x
read none slice h = let r = pair_read 0 0 slice h in λ i. r.0 i ∷ r.1 i ∷ []
read (some k) slice h = let r = pair_read 1 k slice h in λ i. r.0 i ∷ r.1 i ∷ []

point_of : (x : Option ℕ) (k : ℕ) → 1 ∷ k ∷ [] ≡ crossing_numbers x → x ≡ some k
point_of none k e = absurd (omega (arith, ap (λ (l : List ℕ). get_or l 0 0) e))
point_of (some j) k e = ap some (sym (ap (λ (l : List ℕ). get_or l 1 0) e))

none_of : (x : Option ℕ) (k : ℕ) → 0 ∷ k ∷ [] ≡ crossing_numbers x → x ≡ none
none_of none k e = refl
none_of (some j) k e = absurd (omega (arith, ap (λ (l : List ℕ). get_or l 0 0) e))

module _ (s : List ℕ) (b : Bytes s) (a n : ℕ) (level : Float) (answer : List ℕ) (m : ℕ) (left : List ℕ) (call : CrossingCall s a n level answer m left) (z : m ≡ 0) where
  answered : (crossing_refusal s a n level ≡ 0) × (left ≡ splice answer 0 (crossing_bytes s a n level))
  unfolding crossing_number crossing_left
  answered = own_answered (crossing_refusal s a n level) (crossing_bytes s a n level) answer m left call.3 z

  points_asked : (j : ℕ) → j < points (opened s).head → point_refusal s a n j ≡ 0
  points_asked = asked s a n level answered.0

  -- a point's number fits eight bytes
  small : (k : ℕ) → crossing (opened s) a n level ≡ some k → k < 256 ^ 8
  small k e =
      let c = (crossing-at (opened s) a n level k).0 e in
      let l : Lent s (opened_as s) a n 0 = record { opens = refl; answers = points_asked 0 (omega (arith, c.inside)) } in
      let o : Opened = opened_as s in
      let more : o.points ≤ o.points * (o.kind + 1) = le-mul_of_pos_right o.points (omega arith) in
      let r = points_are s o refl (number_is s o refl ∙ accepts s b o a n 0 l) in
      omega (arith, c.inside, r, samples-room s b o a n l, slice_small s b o a n 0 l, more)

  pub crossing-read : first_in left ∷ second_in left ∷ [] ≡ crossing_numbers (crossing (opened s) a n level)
  crossing-read =
      ap (λ (l : List ℕ). first_in l ∷ second_in l ∷ []) answered.1 ∙ read (crossing (opened s) a n level) answer (told_below (crossing (opened s) a n level) small)

  -- ---- the points

  -- `tessarquin_point`, lent 24 bytes or more, returned u and left y: it is not refused, and y starts with the bits of a value of which t says whether it is at or
  -- above the level
  pub record Leaves (u : ℕ) (y : List ℕ) (t : Bool) : Type 0 where
    pub value : Float
    pub taken : u ≡ 0
    pub bits : take 8 y ≡ bytes 0 8 (to_bits binary64 value)
    pub compared : reaches level value ≡ t

  leaves : (k : ℕ) (q : List ℕ) (u : ℕ) (y : List ℕ) → point_refusal s a n k ≡ 0 → PointCall s a n k q u y → 24 ≤ length q → (t : Bool) → reaches level (value (opened s) a n k) ≡ t → Leaves u y t
  unfolding point_number point_left
  leaves k q u y e point h t r =
      let w : u ≡ 0 = point.3.0 ∙ number_enough (point_refusal s a n k) (point_bytes s a n k) (length q) (omega (arith, point_length s a n k)) ∙ e in
      let v : ℕ = to_bits binary64 (value (opened s) a n k) in
      record {
        value = value (opened s) a n k;
        taken = w;
        bits =
            ap (take 8) (own_answered (point_refusal s a n k) (point_bytes s a n k) q u y point.3 w).1
            ∙ numbers-before (v ∷ []) (to_bits binary64 (time (opened s) n k) ∷ mark_number (mark (opened s) a n k) ∷ []) q 8 refl ∙ sym (one_number v);
        compared = r;
      }

  module _ (found : first_in left ≡ 1) where
    crosses : Crosses (opened s) a n level (second_in left)
    crosses = (crossing-at (opened s) a n level (second_in left)).0 (point_of (crossing (opened s) a n level) (second_in left) (ap (λ (x : ℕ). x ∷ second_in left ∷ []) (sym found) ∙ crossing-read))

    pub crossed_there : (q : List ℕ) (u : ℕ) (y : List ℕ) → PointCall s a n (second_in left) q u y → 24 ≤ length q → Leaves u y true
    crossed_there q u y point h = leaves (second_in left) q u y (points_asked (second_in left) crosses.inside) point h true crosses.above

    pub below-before : (j : ℕ) → j < second_in left → (q : List ℕ) (u : ℕ) (y : List ℕ) → PointCall s a n j q u y → 24 ≤ length q → Leaves u y false
    below-before j l q u y point h = leaves j q u y (points_asked j (omega (arith, crosses.inside))) point h false (not_yet (opened s) a n level (second_in left) crosses j l)

  pub below_all : first_in left ≡ 0 → (j : ℕ) → j < points (opened s).head → (q : List ℕ) (u : ℕ) (y : List ℕ) → PointCall s a n j q u y → 24 ≤ length q → Leaves u y false
  below_all empty j l q u y point h =
      leaves j q u y (points_asked j l) point h false
      ((crossing_none (opened s) a n level).0 (none_of (crossing (opened s) a n level) (second_in left) (ap (λ (x : ℕ). x ∷ second_in left ∷ []) (sym empty) ∙ crossing-read)) j l)

-- the same payload under two accepted headers: the same number, and the same bytes left
pub crossing-same : (s t : List ℕ) → SameAnswers s t → (a n : ℕ) (level : Float) (answer : List ℕ) (m k : ℕ) (x y : List ℕ) → CrossingCall s a n level answer m x → CrossingCall t a n level answer k y → (k ≡ m) × (y ≡ x)
unfolding crossing_number crossing_left
crossing-same s t e a n level answer m k x y p q =
    let r = same-refusal s t e a n level in
    let w = e.same-wave in
    let o : crossing_number t a n level (length answer) ≡ crossing_number s a n level (length answer) = λ i. or_room (r i) (all_bytes 0 8 (crossing_numbers (crossing (w i) a n level))) (length answer) in
    (q.3.0 ∙ o ∙ sym p.3.0, q.3.1 ∙ (λ i. left_by (o i) (all_bytes 0 8 (crossing_numbers (crossing (w i) a n level))) answer) ∙ sym p.3.1)
