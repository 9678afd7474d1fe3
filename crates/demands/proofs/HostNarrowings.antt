-- The same of the calls for C, the length read from the bytes of the answer: what a call of `tessarquin_narrow` that returned 0 wrote (`narrow_done`), six bytes
-- more than the block's are room enough (`never_13`), and another accepted header changes nothing (`narrow-same`); `tessarquin_point` returns the same number
-- on the narrowed block, and leaves the same time (`narrowed-points`); narrowing and cutting change places (`narrow_cut`, `narrow-cut_bytes`); and narrowing
-- what was narrowed writes the same (`narrow_again`).
use mathlib.Core.Path.{◌≡◌, refl, sym, ap, ◌∙◌, subst}
use mathlib.Core.Logic.{◌↔◌, inl}
use mathlib.Core.List.{List, [], ◌∷◌, ◌++◌, flatten, append_assoc}
use Prim.Native.Nat.{ℕ, ◌+◌, ◌≤◌}
use native.Mathlib.Omega.{arith}
use lib.Ieee.{Float, binary64, to_bits}
use lib.ListN.{length, take, drop}
use lib.Seq.{take_at}
use Rattle.rules.specs.Numbers.{Bytes, bytes, all_bytes, splice}
use Rattle.rules.specs.Rules.{opened}
use Rattle.rules.specs.Points.{value, time, mark, mark_number, point_refusal}
use Rattle.rules.specs.Cut.{Setup, cut_bytes, cut_refusal}
use Rattle.rules.proofs.Headers.{SameAnswers}
use Rattle.rules.proofs.Numbers.{length-bytes}
use Rattle.rules.proofs.Demands.{cut-says, cut-bytes}
use Rattle.narrowing.specs.Narrow.{comm_type, narrow_bytes, narrow_refusal}
use Rattle.narrowing.proofs.Accepted.{before_room, narrow-says, says-narrow, narrow-bytes, length-fits, room_enough, same-narrow}
use Rattle.narrowing.proofs.Falls.{Fallen, point_same, time-same, byte_same, point_falls}
use Rattle.narrowing.proofs.Exchange.{NarrowThenCut, CutThenNarrow, exchange, exchange_accepted, narrow_twice}
use Rattle.tessarquin.specs.Calls.{or_room, left_by, point_bytes, point_number, point_left, narrow_answer, narrow_number, narrow_left, narrow_answer_left}
use Rattle.tessarquin.proofs.Slices.{point_length, number_enough, own_answered}
use Rattle.tessarquin.proofs.Writing.{front, numbers-behind}
use Rattle.tessarquin.proofs.Narrowing.{answer-length}
use Rattle.tessarquin.proofs.Learnt.{PointCall, CutCall, NarrowCall}
use Rattle.tessarquin.proofs.Demands.{length_in}
use Rattle.tessarquin.proofs.Demands as host
use Rattle.demands.proofs.Lengths.{long_in, Wrote, own_none, wrote_by}

-- ---- what a call returned and left

module _ (s out answer : List ℕ) (m : ℕ) (left second : List ℕ) (call : NarrowCall s out answer m left second) where
  -- with room for the length, the number is the narrowing's own
  own : 8 ≤ length answer → m ≡ narrow_refusal s (length out)
  unfolding narrow_number
  own h = call.4.0 ∙ number_enough (narrow_refusal s (length out)) (narrow_answer s) (length answer) (omega (arith, answer-length s))

  -- lent six bytes more than the block has, and eight for the length, a narrowing is never refused by 13: its number is that of the rules before it
  pub never_13 : Bytes s → length s + 6 ≤ length out → 8 ≤ length answer → (m ≡ before_room s) × (m ≡ 13 → ⊥)
  never_13 b h k = let r = room_enough s b (length out) h in (own k ∙ r.0, λ z. r.1 (sym (own k) ∙ z))

-- a call that returned 0: 1 to 8, 20, 19 and 13 are kept, and it wrote the block that the definition of a narrowing gives
pub narrow_done : (s : List ℕ) → Bytes s → (out answer : List ℕ) (m : ℕ) (left second : List ℕ) → NarrowCall s out answer m left second → m ≡ 0
    → (narrow_refusal s (length out) ≡ 0) × Wrote (narrow_bytes s) out answer left second
unfolding narrow_number narrow_left narrow_answer_left
narrow_done s b out answer m left second call z =
    let e = own_none (narrow_refusal s (length out)) (narrow_answer s) answer m call.4.0 z in
    (e, wrote_by (narrow_refusal s (length out)) (narrow_bytes s) out answer m left second call.4.0 call.4.1.0 call.4.1.1 z (omega (arith, length-fits s b (narrow-says s (length out) e).block)))

-- the same payload under two accepted headers: the same number, and the same bytes left in both slices
pub narrow-same : (s t : List ℕ) → SameAnswers s t → (out answer : List ℕ) (m n : ℕ) (x y u v : List ℕ) → NarrowCall s out answer m x u → NarrowCall t out answer n y v → (n ≡ m) × (y ≡ x) × (v ≡ u)
unfolding narrow_number narrow_left narrow_answer_left
narrow-same s t e out answer m n x y u v p q =
    let r = same-narrow s t e (length out) in
    let k : narrow_number t (length out) (length answer) ≡ narrow_number s (length out) (length answer) = λ i. or_room (r.0 i) (all_bytes 0 8 (length (r.1 i) ∷ [])) (length answer) in (
      q.4.0 ∙ k ∙ sym p.4.0,
      q.4.1.0 ∙ (λ i. left_by (k i) (r.1 i) out) ∙ sym p.4.1.0,
      q.4.1.1 ∙ (λ i. left_by (k i) (all_bytes 0 8 (length (r.1 i) ∷ [])) answer) ∙ sym p.4.1.1,
    )

-- ---- the points

-- What `tessarquin_point` returns and leaves, u and x on the narrowed block t, v and y on the block s, lent 24 bytes or more: the same number; where it is 0 the
-- same bits of the time, of a BYTE block all the same, and of a WORD block a value that falls as `Fallen` says
pub record NarrowedPoint (s t : List ℕ) (a n k : ℕ) (u v : ℕ) (x y : List ℕ) : Type 0 where
  pub same_number : u ≡ v
  pub same-time : v ≡ 0 → take 8 (drop 8 x) ≡ take 8 (drop 8 y)
  pub of_bytes : comm_type (opened s).head ≡ 0 → v ≡ 0 → take 24 x ≡ take 24 y
  pub falls : comm_type (opened s).head ≡ 1 → v ≡ 0 → Fallen s t a n k

-- the second of the three numbers of a point
time_in : (s : List ℕ) (a n k : ℕ) (slice : List ℕ) → take 8 (drop 8 (splice slice 0 (point_bytes s a n k))) ≡ bytes 0 8 (to_bits binary64 (time (opened s) n k))
time_in s a n k slice =
    let v : ℕ = to_bits binary64 (value (opened s) a n k) in
    let t : ℕ = to_bits binary64 (time (opened s) n k) in
    let m : ℕ = mark_number (mark (opened s) a n k) in
    let rest : List ℕ = drop 24 slice in
    ap (take 8) (numbers-behind (v ∷ []) (t ∷ m ∷ []) slice 8 refl)
    ∙ ap (λ (l : List ℕ). take 8 (l ++ rest)) (numbers-two t m)
    ∙ ap (take 8) (append_assoc (bytes 0 8 t) (all_bytes 0 8 (m ∷ [])) rest)
    ∙ take_at (bytes 0 8 t) (all_bytes 0 8 (m ∷ []) ++ rest) 8 (length-bytes 0 8 t)
  where
    numbers-two : (t m : ℕ) → all_bytes 0 8 (t ∷ m ∷ []) ≡ bytes 0 8 t ++ all_bytes 0 8 (m ∷ [])
    numbers-two t m = unfold flatten in refl

pub narrowed-points : (s : List ℕ) → Bytes s → (out answer : List ℕ) (m : ℕ) (left second : List ℕ) → NarrowCall s out answer m left second → m ≡ 0
    → let t = take (long_in second) left in (a n k : ℕ) (p q : List ℕ) (u v : ℕ) (x y : List ℕ) → PointCall t a n k p u x → PointCall s a n k q v y → 24 ≤ length p → 24 ≤ length q → NarrowedPoint s t a n k u v x y
narrowed-points s b out answer m left second call z =
    let d = narrow_done s b out answer m left second call z in
    subst
    (λ (t : List ℕ). (a n k : ℕ) (p q : List ℕ) (u v : ℕ) (x y : List ℕ) → PointCall t a n k p u x → PointCall s a n k q v y → 24 ≤ length p → 24 ≤ length q → NarrowedPoint s t a n k u v x y)
    (sym d.1.block) (of (length out) d.0)
  where
    of : (r : ℕ) → narrow_refusal s r ≡ 0
        → (a n k : ℕ) (p q : List ℕ) (u v : ℕ) (x y : List ℕ) → PointCall (narrow_bytes s) a n k p u x → PointCall s a n k q v y → 24 ≤ length p → 24 ≤ length q → NarrowedPoint s (narrow_bytes s) a n k u v x y
    of r e a n k p q u v x y new old hp hq = unfold point_number point_left in
        let t : List ℕ = narrow_bytes s in
        let un : u ≡ point_refusal t a n k = new.3.0 ∙ number_enough (point_refusal t a n k) (point_bytes t a n k) (length p) (omega (arith, point_length t a n k)) in
        let vn : v ≡ point_refusal s a n k = old.3.0 ∙ number_enough (point_refusal s a n k) (point_bytes s a n k) (length q) (omega (arith, point_length s a n k)) in
        let same : u ≡ v = un ∙ point_same s b r e a n k ∙ sym vn in
        let there : v ≡ 0 → (point_refusal t a n k ≡ 0) × (x ≡ splice p 0 (point_bytes t a n k)) = λ w. own_answered (point_refusal t a n k) (point_bytes t a n k) p u x new.3 (same ∙ w) in
        let here : v ≡ 0 → (point_refusal s a n k ≡ 0) × (y ≡ splice q 0 (point_bytes s a n k)) = λ w. own_answered (point_refusal s a n k) (point_bytes s a n k) q v y old.3 w in
        record {
          same_number = same;
          same-time = λ w.
              ap (λ (l : List ℕ). take 8 (drop 8 l)) (there w).1 ∙ time_in t a n k p ∙ ap (λ (f : Float). bytes 0 8 (to_bits binary64 f)) (time-same s b r e n k)
              ∙ sym (ap (λ (l : List ℕ). take 8 (drop 8 l)) (here w).1 ∙ time_in s a n k q);
          of_bytes = λ c w.
              ap (take 24) (there w).1 ∙ front (point_bytes t a n k) p 24 (point_length t a n k)
              ∙ (λ i. let g = byte_same s b r e c i in all_bytes 0 8 (to_bits binary64 (value g a n k) ∷ to_bits binary64 (time g n k) ∷ mark_number (mark g a n k) ∷ []))
              ∙ sym (ap (take 24) (here w).1 ∙ front (point_bytes s a n k) q 24 (point_length s a n k));
          falls = λ word w. point_falls s b r e word a n k (sym vn ∙ w);
        }

-- ---- narrowing and cutting

-- two last calls, a cut and a narrowing, wrote the same block; and where their outputs held the same, they left the same
pub record SameBlock (out₂ out₄ : List ℕ) (l₂ r₂ l₄ r₄ : List ℕ) : Type 0 where
  pub same_length : long_in r₄ ≡ length_in r₂
  pub same_block : take (long_in r₄) l₄ ≡ take (length_in r₂) l₂
  pub same_slice : out₄ ≡ out₂ → l₄ ≡ l₂

-- s narrowed and then cut, and s cut and then narrowed, by the same setup and into the same order
module _ (s : List ℕ) (b : Bytes s) (c : Setup) (q : ℕ) (out₁ out₂ out₃ out₄ answer₁ answer₂ answer₃ answer₄ : List ℕ) (m₁ m₂ m₃ m₄ : ℕ) (l₁ l₂ l₃ l₄ r₁ r₂ r₃ r₄ : List ℕ)
    (one : NarrowCall s out₁ answer₁ m₁ l₁ r₁) (two : CutCall (take (long_in r₁) l₁) c q out₂ answer₂ m₂ l₂ r₂)
    (three : CutCall s c q out₃ answer₃ m₃ l₃ r₃) (four : NarrowCall (take (length_in r₃) l₃) out₄ answer₄ m₄ l₄ r₄)
  where
    -- what is written first are bytes
    bytes_one : m₁ ≡ 0 → Bytes (take (long_in r₁) l₁)
    bytes_one z = let d = narrow_done s b out₁ answer₁ m₁ l₁ r₁ one z in subst Bytes (sym d.1.block) (narrow-bytes s b (narrow-says s (length out₁) d.0).block)

    bytes_three : m₃ ≡ 0 → Bytes (take (length_in r₃) l₃)
    bytes_three z =
        let d = host.done s b c q out₃ answer₃ m₃ l₃ r₃ three z in
        let t = cut-says s q c (length out₃) d.0 in
        subst Bytes (sym d.1.block) (cut-bytes s b t.block q c t.allows)

    narrow-first : (m₁ ≡ 0) × (m₂ ≡ 0) → NarrowThenCut s q c (length out₁) (length out₂)
    narrow-first z =
        let d = narrow_done s b out₁ answer₁ m₁ l₁ r₁ one z.0 in
        (d.0, ap (λ (x : List ℕ). cut_refusal q c x (length out₂)) (sym d.1.block) ∙ (host.done (take (long_in r₁) l₁) (bytes_one z.0) c q out₂ answer₂ m₂ l₂ r₂ two z.1).0)

    cut-first : (m₃ ≡ 0) × (m₄ ≡ 0) → CutThenNarrow s q c (length out₃) (length out₄)
    cut-first z =
        let d = host.done s b c q out₃ answer₃ m₃ l₃ r₃ three z.0 in
        (d.0, ap (λ (x : List ℕ). narrow_refusal x (length out₄)) (sym d.1.block) ∙ (narrow_done (take (length_in r₃) l₃) (bytes_three z.0) out₄ answer₄ m₄ l₄ r₄ four z.1).0)

    -- all four returned 0: the same bytes
    pub narrow-cut_bytes : (m₁ ≡ 0) × (m₂ ≡ 0) → (m₃ ≡ 0) × (m₄ ≡ 0) → SameBlock out₂ out₄ l₂ r₂ l₄ r₄
    narrow-cut_bytes x y =
        let t : List ℕ = take (long_in r₁) l₁ in
        let u : List ℕ = take (length_in r₃) l₃ in
        let d = (host.done t (bytes_one x.0) c q out₂ answer₂ m₂ l₂ r₂ two x.1).1 in
        let f = (narrow_done u (bytes_three y.0) out₄ answer₄ m₄ l₄ r₄ four y.1).1 in
        let block : narrow_bytes u ≡ cut_bytes q c t =
        ap narrow_bytes (host.done s b c q out₃ answer₃ m₃ l₃ r₃ three y.0).1.block
        ∙ sym (exchange s b q c (length out₁) (length out₂) (inl (narrow-first x)))
        ∙ sym (ap (cut_bytes q c) (narrow_done s b out₁ answer₁ m₁ l₁ r₁ one x.0).1.block) in
        record {
          same_length = f.long ∙ ap length block ∙ sym d.long;
          same_block = f.block ∙ block ∙ sym d.block;
          same_slice = λ h. f.filled ∙ (λ i. splice (h i) 0 (block i)) ∙ sym d.filled;
        }

    -- lent room for what is written first, as much as the other at the end, and room for the answers, the two calls of one way return 0 exactly where those of the
    -- other do
    pub narrow_cut : length (narrow_bytes s) ≤ length out₁ → length (cut_bytes q c s) ≤ length out₃ → length out₂ ≡ length out₄ → 8 ≤ length answer₁ → 16 ≤ length answer₂ → 16 ≤ length answer₃ → 8 ≤ length answer₄
        → ((m₁ ≡ 0) × (m₂ ≡ 0)) ↔ ((m₃ ≡ 0) × (m₄ ≡ 0))
    narrow_cut h k same a₁ a₂ a₃ a₄ =
        let r = exchange_accepted s b q c (length out₁) (length out₃) (length out₂) h k in (
          λ z.
              let p = subst (CutThenNarrow s q c (length out₃)) same (r.0 (narrow-first z)) in
              let y : m₃ ≡ 0 = host.own s c q out₃ answer₃ m₃ l₃ r₃ three a₃ ∙ p.0 in
              (y, own (take (length_in r₃) l₃) out₄ answer₄ m₄ l₄ r₄ four a₄ ∙ ap (λ (x : List ℕ). narrow_refusal x (length out₄)) (host.done s b c q out₃ answer₃ m₃ l₃ r₃ three y).1.block ∙ p.1),
          λ z.
              let p = r.1 (subst (CutThenNarrow s q c (length out₃)) (sym same) (cut-first z)) in
              let y : m₁ ≡ 0 = own s out₁ answer₁ m₁ l₁ r₁ one a₁ ∙ p.0 in
              (y, host.own (take (long_in r₁) l₁) c q out₂ answer₂ m₂ l₂ r₂ two a₂ ∙ ap (λ (x : List ℕ). cut_refusal q c x (length out₂)) (narrow_done s b out₁ answer₁ m₁ l₁ r₁ one y).1.block ∙ p.1),
        )

-- ---- twice

-- a call for what a call wrote, lent room for it and for its length, returns 0, and leaves the same length and the same block; slices that held the same hold the same
pub narrow_again : (s : List ℕ) → Bytes s → (out₁ out₂ answer₁ answer₂ : List ℕ) (m₁ m₂ : ℕ) (l₁ l₂ r₁ r₂ : List ℕ) → NarrowCall s out₁ answer₁ m₁ l₁ r₁ → m₁ ≡ 0
    → NarrowCall (take (long_in r₁) l₁) out₂ answer₂ m₂ l₂ r₂ → long_in r₁ ≤ length out₂ → 8 ≤ length answer₂
    → (m₂ ≡ 0) × (long_in r₂ ≡ long_in r₁) × (take (long_in r₂) l₂ ≡ take (long_in r₁) l₁) × (out₂ ≡ out₁ → answer₂ ≡ answer₁ → (l₂ ≡ l₁) × (r₂ ≡ r₁))
narrow_again s b out₁ out₂ answer₁ answer₂ m₁ m₂ l₁ l₂ r₁ r₂ one z two room a =
    let d = narrow_done s b out₁ answer₁ m₁ l₁ r₁ one z in
    let t : List ℕ = take (long_in r₁) l₁ in
    let bytes-t : Bytes t = subst Bytes (sym d.1.block) (narrow-bytes s b (narrow-says s (length out₁) d.0).block) in
    let again = narrow_twice s b (length out₁) d.0 in
    let block : narrow_bytes t ≡ narrow_bytes s = ap narrow_bytes d.1.block ∙ again.1 in
    let n = narrow-says (narrow_bytes s) (length out₁) again.0 in
    let y : m₂ ≡ 0 =
    own t out₂ answer₂ m₂ l₂ r₂ two a ∙ ap (λ (x : List ℕ). narrow_refusal x (length out₂)) d.1.block
    ∙ says-narrow (narrow_bytes s) (length out₂) (record { block = n.block; gains = n.gains; room = subst (λ (k : ℕ). k ≤ length out₂) (d.1.long ∙ sym (ap length again.1)) room }) in
    let f = (narrow_done t bytes-t out₂ answer₂ m₂ l₂ r₂ two y).1 in (
      y,
      f.long ∙ ap length block ∙ sym d.1.long,
      f.block ∙ block ∙ sym d.1.block,
      λ h k. (f.filled ∙ (λ i. splice (h i) 0 (block i)) ∙ sym d.1.filled, f.told ∙ (λ i. splice (k i) 0 (all_bytes 0 8 (length (block i) ∷ []))) ∙ sym d.1.told),
    )
