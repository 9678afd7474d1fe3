-- The same payload under another accepted header: each call for C returns the same number, and leaves the same bytes in the slices that it was lent
-- (`open_same`, `point_same`, `fill_same`, `cut-same`), but for the number that says where in the block (`layout_same`, `text_same`, `label_same`). That
-- number moves with the start of the payload (`text-moves`, `label_moves`).
use mathlib.Core.Path.{◌≡◌, refl, sym, ap, ◌∙◌}
use mathlib.Core.Bool.{cond}
use mathlib.Core.List.{List, [], ◌∷◌, ◌++◌, map}
use Prim.Native.Nat.{ℕ, zero, suc, ◌+◌, ◌^◌, ◌<◌}
use native.Mathlib.Omega.{arith}
use lib.Dec.{leb, eqb}
use lib.ListN.{length, get_or, take, drop}
use lib.Ieee.{binary64, to_bits}
use Rattle.rules.specs.Numbers.{Bytes, all_bytes, up_from, splice}
use Rattle.rules.specs.Wave.{Wave, order_of, segments, points, first_point, sparsing, segment_index, subarray_count, lengths_of, starts_of}
use Rattle.rules.specs.Rules.{payload_start, refusal, opened}
use Rattle.rules.specs.Points.{value, mark_number, mark_count}
use Rattle.rules.specs.Cut.{Setup, or_else, count}
use Rattle.rules.proofs.Headers.{SameAnswers}
use Rattle.block.specs.Opened.{arrays_of}
use Rattle.block.specs.Texts.{of_accepted, text_of, text_start, trace_label, up_to_zero}
use Rattle.tessarquin.specs.Calls.{or_room, left_by, open_bytes, open_number, open_left, point_bytes, point_number, point_left, fill_bytes, fill_number, fill_left, cut_answer, cut_number, cut_left, cut_answer_left, layout_bytes, layout_number, layout_left, text_bytes, text_number, text_left, label_bytes, label_number, label_left}
use Rattle.tessarquin.proofs.Writing.{numbers-before, numbers-behind}
use Rattle.tessarquin.proofs.Slices.{layout_length, pair-length, label_length, own_answered}
use Rattle.tessarquin.proofs.Learnt.{OpenCall, PointCall, FillCall, CutCall, LayoutCall, TextCall, LabelCall}
use Rattle.tessarquin.proofs.Places.{first_in, second_in, label_numbers, text-read, label_read}

-- a number by 13's rule, and what it leaves, by paths of what they are made of
same_number : {m n : ℕ} {x y : List ℕ} (room : ℕ) → m ≡ n → x ≡ y → or_room m x room ≡ or_room n y room
same_number room p q = λ i. or_room (p i) (q i) room

same_left : {m n : ℕ} {x y : List ℕ} (slice : List ℕ) → m ≡ n → x ≡ y → left_by m x slice ≡ left_by n y slice
same_left slice p q = λ i. left_by (p i) (q i) slice

module _ (s t : List ℕ) (e : SameAnswers s t) where
  open_bytes_lem : open_bytes t ≡ open_bytes s
  open_bytes_lem = let w = e.same-wave in λ i. all_bytes 0 8 (segments (w i).head ∷ points (w i).head ∷ arrays_of (w i).head ∷ order_of (w i).head ∷ (w i).head 32 ∷ [])

  pub open_same : (answer : List ℕ) (m n : ℕ) (x y : List ℕ) → OpenCall s answer m x → OpenCall t answer n y → (n ≡ m) × (y ≡ x)
  unfolding open_number open_left
  open_same answer m n x y p q =
      let k = same_number (length answer) e.same_number open_bytes_lem in (q.3.0 ∙ k ∙ sym p.3.0, q.3.1 ∙ same_left answer k open_bytes_lem ∙ sym p.3.1)

  point_bytes_lem : (a n k : ℕ) → point_bytes t a n k ≡ point_bytes s a n k
  point_bytes_lem a n k = let p = e.same_point a n k in λ i. all_bytes 0 8 (to_bits binary64 (p.1 i) ∷ to_bits binary64 (p.2 i) ∷ mark_number (p.3 i) ∷ [])

  pub point_same : (array segment k : ℕ) (answer : List ℕ) (m n : ℕ) (x y : List ℕ) → PointCall s array segment k answer m x → PointCall t array segment k answer n y → (n ≡ m) × (y ≡ x)
  unfolding point_number point_left
  point_same array segment k answer m n x y p q =
      let b = point_bytes_lem array segment k in
      let r = same_number (length answer) (e.same_point array segment k).0 b in
      (q.3.0 ∙ r ∙ sym p.3.0, q.3.1 ∙ same_left answer r b ∙ sym p.3.1)

  fill_bytes_lem : (a n : ℕ) → fill_bytes t a n ≡ fill_bytes s a n
  fill_bytes_lem a n = let w = e.same-wave in λ i. all_bytes 0 8 (map (λ k. to_bits binary64 (value (w i) a n k)) (up_from 0 (points (w i).head)) ++ (mark_count (w i) a n ∷ []))

  pub fill_same : (array segment : ℕ) (answer : List ℕ) (m n : ℕ) (x y : List ℕ) → FillCall s array segment answer m x → FillCall t array segment answer n y → (n ≡ m) × (y ≡ x)
  unfolding fill_number fill_left
  fill_same array segment answer m n x y p q =
      let b = fill_bytes_lem array segment in
      let r = same_number (length answer) (e.same_walk array segment) b in
      (q.3.0 ∙ r ∙ sym p.3.0, q.3.1 ∙ same_left answer r b ∙ sym p.3.1)

  cut-answer : (c : Setup) (q : ℕ) → cut_answer t c q ≡ cut_answer s c q
  cut-answer c q =
      let m : points (opened t).head ≡ points (opened s).head = ap (λ (w : Wave). points w.head) e.same-wave in
      let b = (e.same-cut q c 0).1 in λ i. all_bytes 0 8 (count c (m i) ∷ length (b i) ∷ [])

  -- the number, the slice of the block and the slice of c and the length
  pub cut-same : (c : Setup) (order : ℕ) (out answer : List ℕ) (m n : ℕ) (x y u v : List ℕ) → CutCall s c order out answer m x u → CutCall t c order out answer n y v → (n ≡ m) × (y ≡ x) × (v ≡ u)
  unfolding cut_number cut_left cut_answer_left
  cut-same c order out answer m n x y u v p q =
      let r = e.same-cut order c (length out) in
      let k = same_number (length answer) r.0 (cut-answer c order) in
      (q.4.0 ∙ k ∙ sym p.4.0, q.4.1.0 ∙ same_left out k r.1 ∙ sym p.4.1.0, q.4.1.1 ∙ same_left answer k (cut-answer c order) ∙ sym p.4.1.1)

-- ---- where the parts of the block stand

-- answers of the same length are refused alike, and agree in what is taken of them where the bytes do
same-room : (m n room : ℕ) (x y : List ℕ) → n ≡ m → length y ≡ length x → or_room n y room ≡ or_room m x room
same-room m n room x y e l = λ i. or_else (e i) (cond (leb (l i) room) 0 13)

same_in : (f : List ℕ → List ℕ) (m n : ℕ) (x y slice : List ℕ) → n ≡ m → f (splice slice 0 y) ≡ f (splice slice 0 x) → f (left_by n y slice) ≡ f (left_by m x slice)
same_in f m n x y slice e h = ap (λ (k : ℕ). f (left_by k y slice)) e ∙ go m
  where
    go : (m : ℕ) → f (left_by m y slice) ≡ f (left_by m x slice)
    go zero = h
    go (suc m) = refl

-- numbers that differ in the first alone, or in the second alone
behind-first : (a b : ℕ) (ns slice : List ℕ) → drop 8 (splice slice 0 (all_bytes 0 8 (b ∷ ns))) ≡ drop 8 (splice slice 0 (all_bytes 0 8 (a ∷ ns)))
behind-first a b ns slice = numbers-behind (b ∷ []) ns slice 8 refl ∙ sym (numbers-behind (a ∷ []) ns slice 8 refl)

around_second : (l slice : List ℕ) (p q n : ℕ) → let u = splice slice 0 (all_bytes 0 8 (label_numbers l p n)) in let v = splice slice 0 (all_bytes 0 8 (label_numbers l q n)) in (take 8 v ≡ take 8 u) × (drop 16 v ≡ drop 16 u)
around_second [] slice p q n = (refl, refl)
around_second (x ∷ l) slice p q n =
    let k : ℕ = length (x ∷ l) in (
      numbers-before (0 ∷ []) (q ∷ k ∷ []) slice 8 refl ∙ sym (numbers-before (0 ∷ []) (p ∷ k ∷ []) slice 8 refl),
      numbers-behind (0 ∷ q ∷ []) (k ∷ []) slice 16 refl ∙ sym (numbers-behind (0 ∷ p ∷ []) (k ∷ []) slice 16 refl),
    )

-- the second moves with p where the first is 0, and else stays
second-moves : (l : List ℕ) (p q n : ℕ) → let u = label_numbers l (p + 96) n in get_or (label_numbers l (q + 96) n) 1 0 + cond (eqb (get_or u 0 0) 0) p 0 ≡ get_or u 1 0 + cond (eqb (get_or u 0 0) 0) q 0
second-moves [] p q n = refl
second-moves (x ∷ l) p q n = omega arith

module _ (s t : List ℕ) (e : SameAnswers s t) where
  -- all numbers but the first, and what stands behind them
  pub layout_same : (answer : List ℕ) (m n : ℕ) (x y : List ℕ) → LayoutCall s answer m x → LayoutCall t answer n y → (n ≡ m) × (drop 8 y ≡ drop 8 x)
  unfolding layout_number layout_left
  layout_same answer m n x y p q =
      let k = same-room (refusal s) (refusal t) (length answer) (layout_bytes s) (layout_bytes t) e.same_number (layout_length t ∙ sym (layout_length s)) in
      let w = e.same-wave in
      let ns : Wave → List ℕ = λ w. first_point w.head ∷ sparsing w.head ∷ segment_index w.head ∷ subarray_count w.head ∷ lengths_of w.head ++ starts_of w.head in (
        q.3.0 ∙ k ∙ sym p.3.0,
        ap (drop 8) q.3.1
            ∙ same_in (drop 8) (layout_number s (length answer)) (layout_number t (length answer)) (layout_bytes s) (layout_bytes t) answer k
            (ap (λ (w : Wave). drop 8 (splice answer 0 (all_bytes 0 8 (payload_start t ∷ ns w)))) w ∙ behind-first (payload_start s) (payload_start t) (ns (opened s)) answer)
            ∙ sym (ap (drop 8) p.3.1),
      )

  text-bytes : text_of t ≡ text_of s
  unfolding text_of
  text-bytes = λ i. of_accepted (e.same_number i) (e.same-wave i).text []

  -- the length, and what stands behind it
  pub text_same : (answer : List ℕ) (m n : ℕ) (x y : List ℕ) → TextCall s answer m x → TextCall t answer n y → (n ≡ m) × (drop 8 y ≡ drop 8 x)
  unfolding text_number text_left
  text_same answer m n x y p q =
      let l : length (text_bytes t) ≡ length (text_bytes s) = pair-length (text_start t) (length (text_of t)) ∙ sym (pair-length (text_start s) (length (text_of s))) in
      let k = same-room (refusal s) (refusal t) (length answer) (text_bytes s) (text_bytes t) e.same_number l in (
        q.3.0 ∙ k ∙ sym p.3.0,
        ap (drop 8) q.3.1
            ∙ same_in (drop 8) (text_number s (length answer)) (text_number t (length answer)) (text_bytes s) (text_bytes t) answer k
            (ap (λ (l : List ℕ). drop 8 (splice answer 0 (all_bytes 0 8 (text_start t ∷ length l ∷ [])))) text-bytes ∙ behind-first (text_start s) (text_start t) (length (text_of s) ∷ []) answer)
            ∙ sym (ap (drop 8) p.3.1),
      )

  -- whether it is the block's own, the length, and what stands behind it
  pub label_same : (fallback answer : List ℕ) (m n : ℕ) (x y : List ℕ) → LabelCall s fallback answer m x → LabelCall t fallback answer n y → (n ≡ m) × (take 8 y ≡ take 8 x) × (drop 16 y ≡ drop 16 x)
  unfolding label_number label_left
  label_same fallback answer m n x y p q =
      let k = same-room (refusal s) (refusal t) (length answer) (label_bytes s fallback) (label_bytes t fallback) e.same_number (label_length t fallback ∙ sym (label_length s fallback)) in
      let a = around_second (up_to_zero (trace_label (opened s))) answer (payload_start s + 96) (payload_start t + 96) (length fallback) in
      let written : Wave → List ℕ = λ w. splice answer 0 (all_bytes 0 8 (label_numbers (up_to_zero (trace_label w)) (payload_start t + 96) (length fallback))) in
      let kept : (f : List ℕ → List ℕ) → f (written (opened s)) ≡ f (splice answer 0 (label_bytes s fallback)) → f y ≡ f x = λ f h.
      ap f q.4.1
      ∙ same_in f (label_number s fallback (length answer)) (label_number t fallback (length answer)) (label_bytes s fallback) (label_bytes t fallback) answer k
      (ap (λ (w : Wave). f (written w)) e.same-wave ∙ h)
      ∙ sym (ap f p.4.1) in
      (q.4.0 ∙ k ∙ sym p.4.0, kept (take 8) a.0, kept (drop 16) a.1)

  module _ (bs : Bytes s) (bt : Bytes t) (answer : List ℕ) (m n : ℕ) (x y : List ℕ) (z : m ≡ 0) where
    -- the user text is as far behind the start of the payload
    pub text-moves : TextCall s answer m x → TextCall t answer n y → first_in y + payload_start s ≡ first_in x + payload_start t
    unfolding text_number text_left text_start
    text-moves p q =
        let accepts : refusal s ≡ 0 = (own_answered (refusal s) (text_bytes s) answer m x p.3 z).0 in
        let far : Wave → ℕ = λ w. get_or (starts_of w.head) 1 0 in
        let there : first_in x ≡ payload_start s + far (opened s) = (text-read s bs answer m x p z).0 ∙ ap (λ (k : ℕ). of_accepted k (payload_start s + far (opened s)) 0) accepts in
        let here : first_in y ≡ payload_start t + far (opened s) = (text-read t bt answer n y q ((text_same answer m n x y p q).0 ∙ z)).0 ∙ (λ i. of_accepted ((e.same_number ∙ accepts) i) (payload_start t + far (e.same-wave i)) 0) in
        omega (arith, there, here)

    -- so is the label of the block's own, and where it is the fallback both numbers are 0
    pub label_moves : (fallback : List ℕ) → length fallback < 256 ^ 8 → LabelCall s fallback answer m x → LabelCall t fallback answer n y
        → second_in y + cond (eqb (first_in x) 0) (payload_start s) 0 ≡ second_in x + cond (eqb (first_in x) 0) (payload_start t) 0
    label_moves fallback h p q =
        let l : List ℕ = up_to_zero (trace_label (opened s)) in
        let u = label_read s bs fallback h answer m x p z in
        let v = label_read t bt fallback h answer n y q ((label_same fallback answer m n x y p q).0 ∙ z) in
        let here : second_in y ≡ get_or (label_numbers l (payload_start t + 96) (length fallback)) 1 0 =
        v.1 ∙ ap (λ (w : Wave). get_or (label_numbers (up_to_zero (trace_label w)) (payload_start t + 96) (length fallback)) 1 0) e.same-wave in
        (λ i. here i + cond (eqb (u.0 i) 0) (payload_start s) 0) ∙ second-moves l (payload_start s) (payload_start t) (length fallback) ∙ sym (λ i. u.1 i + cond (eqb (u.0 i) 0) (payload_start t) 0)
