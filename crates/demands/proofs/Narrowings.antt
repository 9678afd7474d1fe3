-- What a call of `narrow` that answered 0 wrote: a good block, read as the narrowed wave (`narrow-written`), whose points are answered where they were and at
-- their times, with exact values that fall by the old gain times the remainder of the sample (`narrowed-points`). Narrowing and cutting change places
-- (`narrow_cut`), and narrowing what was narrowed writes the same (`narrow_again`).
use mathlib.Core.Path.{◌≡◌, sym, ap, ◌∙◌, subst, subst₂}
use mathlib.Core.Logic.{◌↔◌, inl}
use mathlib.Core.Bool.{Bool}
use mathlib.Core.List.{List}
use Prim.Native.Nat.{ℕ, zero, suc, ◌≤◌}
use lib.ListN.{length, take}
use lib.Dec.{T}
use lib.IntN.{pos, neg_ℤ}
use lib.Ieee.{Float, le}
use Rattle.rules.specs.Numbers.{Bytes, splice}
use Rattle.rules.specs.Rules.{refusal, opened}
use Rattle.rules.specs.Points.{value, time, mark, point_refusal}
use Rattle.rules.specs.Cut.{Setup, cut_bytes, cut_refusal}
use Rattle.narrowing.specs.Narrow.{comm_type, narrow, narrow_bytes, narrow_refusal}
use Rattle.narrowing.proofs.Accepted.{narrow-says, says-narrow, narrow_accepted}
use Rattle.narrowing.proofs.Falls.{old_gain, Fallen, point_same, time-same, byte_same, point_falls}
use Rattle.narrowing.proofs.Exchange.{NarrowThenCut, CutThenNarrow, exchange, exchange_accepted, narrow_twice}
use Rattle.points.specs.declared.answers.Point.{Point}
use Rattle.points.specs.Points.{point_by, point_as}
use Rattle.points.proofs.Learnt.{PointCall}
use Rattle.points.proofs.Bounds.{point_number, point_answer}
use Rattle.cuts.specs.declared.Written.{Written}
use Rattle.cuts.proofs.Calls.{CutCall}
use Rattle.cuts.proofs.Calls as cuts
use Rattle.narrows.specs.declared.Narrowed.{Narrowed}
use Rattle.narrows.proofs.Calls.{NarrowCall, called, number, taken, said, filled, wrote}

-- the block that a call wrote is accepted, and read as the narrowed wave
pub narrow-written : (s : List ℕ) → Bytes s → (out : List ℕ) (w : Narrowed) (left : List ℕ) → NarrowCall s out w left → w.refusal ≡ 0
    → let t = take w.length left in (refusal t ≡ 0) × (opened t ≡ narrow (opened s))
narrow-written s b out w left call z =
    let c = called s out w left call in
    subst (λ (t : List ℕ). (refusal t ≡ 0) × (opened t ≡ narrow (opened s))) (sym (wrote s out w left c z)) (narrow_accepted s b (length out) (taken s out w left c z))

-- ---- the points

-- What `point` answers, u on the narrowed block t and v on the block s: the same number and the same time; of a BYTE block all the same; of a WORD block an
-- exact value that falls as `Fallen` says, and a value that goes no higher where the gain is not below 0, and no lower where it is not above
pub record NarrowedPoint (s t : List ℕ) (a n k : ℕ) (u v : Point) : Type 0 where
  pub same_number : u.refusal ≡ v.refusal
  pub same-time : u.time ≡ v.time
  pub of_bytes : comm_type (opened s).head ≡ 0 → u ≡ v
  pub falls : comm_type (opened s).head ≡ 1 → v.refusal ≡ 0 → Fallen s t a n k
  pub no_higher : comm_type (opened s).head ≡ 1 → v.refusal ≡ 0 → (g : ℕ) → old_gain s ≡ pos g → T (le u.value v.value)
  pub no_lower : comm_type (opened s).head ≡ 1 → v.refusal ≡ 0 → (g : ℕ) → old_gain s ≡ neg_ℤ (pos g) → T (le v.value u.value)

module _ (s : List ℕ) (b : Bytes s) (m : ℕ) (e : narrow_refusal s m ≡ 0) (a n k : ℕ) where
  times : (point_as (narrow_bytes s) a n k).time ≡ (point_as s a n k).time
  unfolding point_as
  times =
      ap (λ (r : ℕ). (point_by r (value (opened (narrow_bytes s)) a n k) (time (opened (narrow_bytes s)) n k) (mark (opened (narrow_bytes s)) a n k)).time) (point_same s b m e a n k)
      ∙ go (point_refusal s a n k) (value (opened (narrow_bytes s)) a n k) (value (opened s) a n k) (mark (opened (narrow_bytes s)) a n k) (mark (opened s) a n k)
    where
      go : (r : ℕ) (x y : Float) (p q : Bool) → (point_by r x (time (opened (narrow_bytes s)) n k) p).time ≡ (point_by r y (time (opened s) n k) q).time
      go zero x y p q = time-same s b m e n k
      go (suc r) x y p q = λ i. (point_by (suc r) x (time (opened s) n k) p).time

  bytes_same : comm_type (opened s).head ≡ 0 → point_as (narrow_bytes s) a n k ≡ point_as s a n k
  unfolding point_as
  bytes_same z = λ i. let w = byte_same s b m e z i in point_by (point_same s b m e a n k i) (value w a n k) (time w n k) (mark w a n k)

  -- the values answered
  module _ (q : point_refusal s a n k ≡ 0) where
    value_new : (point_as (narrow_bytes s) a n k).value ≡ value (opened (narrow_bytes s)) a n k
    value_new = ap (λ (p : Point). p.value) (point_answer (narrow_bytes s) a n k (point_same s b m e a n k ∙ q))

    value_old : (point_as s a n k).value ≡ value (opened s) a n k
    value_old = ap (λ (p : Point). p.value) (point_answer s a n k q)

  narrowed_as : NarrowedPoint s (narrow_bytes s) a n k (point_as (narrow_bytes s) a n k) (point_as s a n k)
  narrowed_as = record {
    same_number = point_number (narrow_bytes s) a n k ∙ point_same s b m e a n k ∙ sym (point_number s a n k);
    same-time = times;
    of_bytes = bytes_same;
    falls = λ word z. point_falls s b m e word a n k (sym (point_number s a n k) ∙ z);
    no_higher = λ word z g p. let q = sym (point_number s a n k) ∙ z in subst₂ (λ (x y : Float). T (le x y)) (sym (value_new q)) (sym (value_old q)) ((point_falls s b m e word a n k q).no_higher g p);
    no_lower = λ word z g p. let q = sym (point_number s a n k) ∙ z in subst₂ (λ (x y : Float). T (le x y)) (sym (value_old q)) (sym (value_new q)) ((point_falls s b m e word a n k q).no_lower g p);
  }

pub narrowed-points : (s : List ℕ) → Bytes s → (out : List ℕ) (w : Narrowed) (left : List ℕ) → NarrowCall s out w left → w.refusal ≡ 0
    → let t = take w.length left in (a n k : ℕ) (u v : Point) → PointCall t a n k u → PointCall s a n k v → NarrowedPoint s t a n k u v
narrowed-points s b out w left call z =
    let c = called s out w left call in
    subst (λ (t : List ℕ). (a n k : ℕ) (u v : Point) → PointCall t a n k u → PointCall s a n k v → NarrowedPoint s t a n k u v) (sym (wrote s out w left c z))
    (λ a n k u v x y. subst₂ (NarrowedPoint s (narrow_bytes s) a n k) (sym x.2) (sym y.2) (narrowed_as s b (length out) (taken s out w left c z) a n k))

-- ---- narrowing and cutting

-- two last calls, a cut and a narrowing, wrote the same block; and where their outputs held the same, they left the same
pub record SameBlock (out₂ out₄ : List ℕ) (v₂ : Written) (w₄ : Narrowed) (l₂ l₄ : List ℕ) : Type 0 where
  pub same_length : w₄.length ≡ v₂.length
  pub same_block : take w₄.length l₄ ≡ take v₂.length l₂
  pub same_slice : out₄ ≡ out₂ → l₄ ≡ l₂

-- s narrowed and then cut, and s cut and then narrowed, by the same setup and into the same order: lent room for what is written first, and as much as the
-- other at the end, the two calls of one way answer 0 exactly where those of the other do, and then the last calls wrote the same
module _ (s : List ℕ) (b : Bytes s) (c : Setup) (q : ℕ) (out₁ out₂ out₃ out₄ : List ℕ) (w₁ w₄ : Narrowed) (v₂ v₃ : Written) (l₁ l₂ l₃ l₄ : List ℕ)
    (one : NarrowCall s out₁ w₁ l₁) (two : CutCall (take w₁.length l₁) c q out₂ v₂ l₂) (three : CutCall s c q out₃ v₃ l₃) (four : NarrowCall (take v₃.length l₃) out₄ w₄ l₄)
  where
    narrow-first : (w₁.refusal ≡ 0) × (v₂.refusal ≡ 0) → NarrowThenCut s q c (length out₁) (length out₂)
    narrow-first z =
        let a = called s out₁ w₁ l₁ one in
        let t : List ℕ = take w₁.length l₁ in
        (taken s out₁ w₁ l₁ a z.0, ap (λ (x : List ℕ). cut_refusal q c x (length out₂)) (sym (wrote s out₁ w₁ l₁ a z.0)) ∙ cuts.taken t c q out₂ v₂ l₂ (cuts.called t c q out₂ v₂ l₂ two) z.1)

    first-narrow : NarrowThenCut s q c (length out₁) (length out₂) → (w₁.refusal ≡ 0) × (v₂.refusal ≡ 0)
    first-narrow p =
        let a = called s out₁ w₁ l₁ one in
        let t : List ℕ = take w₁.length l₁ in
        let z : w₁.refusal ≡ 0 = number s out₁ w₁ l₁ a ∙ p.0 in
        (z, cuts.number t c q out₂ v₂ l₂ (cuts.called t c q out₂ v₂ l₂ two) ∙ ap (λ (x : List ℕ). cut_refusal q c x (length out₂)) (wrote s out₁ w₁ l₁ a z) ∙ p.1)

    cut-first : (v₃.refusal ≡ 0) × (w₄.refusal ≡ 0) → CutThenNarrow s q c (length out₃) (length out₄)
    cut-first z =
        let a = cuts.called s c q out₃ v₃ l₃ three in
        let u : List ℕ = take v₃.length l₃ in
        (cuts.taken s c q out₃ v₃ l₃ a z.0, ap (λ (x : List ℕ). narrow_refusal x (length out₄)) (sym (cuts.wrote s c q out₃ v₃ l₃ a z.0)) ∙ taken u out₄ w₄ l₄ (called u out₄ w₄ l₄ four) z.1)

    first-cut : CutThenNarrow s q c (length out₃) (length out₄) → (v₃.refusal ≡ 0) × (w₄.refusal ≡ 0)
    first-cut p =
        let a = cuts.called s c q out₃ v₃ l₃ three in
        let u : List ℕ = take v₃.length l₃ in
        let z : v₃.refusal ≡ 0 = cuts.number s c q out₃ v₃ l₃ a ∙ p.0 in
        (z, number u out₄ w₄ l₄ (called u out₄ w₄ l₄ four) ∙ ap (λ (x : List ℕ). narrow_refusal x (length out₄)) (cuts.wrote s c q out₃ v₃ l₃ a z) ∙ p.1)

    -- all four answered 0: the same bytes
    pub narrow-cut_bytes : (w₁.refusal ≡ 0) × (v₂.refusal ≡ 0) → (v₃.refusal ≡ 0) × (w₄.refusal ≡ 0) → SameBlock out₂ out₄ v₂ w₄ l₂ l₄
    narrow-cut_bytes x y =
        let t : List ℕ = take w₁.length l₁ in
        let u : List ℕ = take v₃.length l₃ in
        let d = cuts.called t c q out₂ v₂ l₂ two in
        let f = called u out₄ w₄ l₄ four in
        let block : narrow_bytes u ≡ cut_bytes q c t =
        ap narrow_bytes (cuts.wrote s c q out₃ v₃ l₃ (cuts.called s c q out₃ v₃ l₃ three) y.0)
        ∙ sym (exchange s b q c (length out₁) (length out₂) (inl (narrow-first x)))
        ∙ sym (ap (cut_bytes q c) (wrote s out₁ w₁ l₁ (called s out₁ w₁ l₁ one) x.0)) in
        record {
          same_length = ap (λ (r : Narrowed). r.length) (said u out₄ w₄ l₄ f y.1) ∙ ap length block ∙ sym (ap (λ (r : Written). r.length) (cuts.said t c q out₂ v₂ l₂ d x.1));
          same_block = wrote u out₄ w₄ l₄ f y.1 ∙ block ∙ sym (cuts.wrote t c q out₂ v₂ l₂ d x.1);
          same_slice = λ h. filled u out₄ w₄ l₄ f y.1 ∙ (λ i. splice (h i) 0 (block i)) ∙ sym (cuts.filled t c q out₂ v₂ l₂ d x.1);
        }

    pub narrow_cut : length (narrow_bytes s) ≤ length out₁ → length (cut_bytes q c s) ≤ length out₃ → length out₂ ≡ length out₄
        → ((w₁.refusal ≡ 0) × (v₂.refusal ≡ 0)) ↔ ((v₃.refusal ≡ 0) × (w₄.refusal ≡ 0))
    narrow_cut h k same =
        let r = exchange_accepted s b q c (length out₁) (length out₃) (length out₂) h k in (
          λ z. first-cut (subst (CutThenNarrow s q c (length out₃)) same (r.0 (narrow-first z))),
          λ z. first-narrow (r.1 (subst (CutThenNarrow s q c (length out₃)) (sym same) (cut-first z))),
        )

-- ---- twice

-- a call for what a call wrote, lent room for it, answers the same and writes the same; where the outputs held the same, they hold the same
pub narrow_again : (s : List ℕ) → Bytes s → (out₁ out₂ : List ℕ) (w₁ w₂ : Narrowed) (l₁ l₂ : List ℕ) → NarrowCall s out₁ w₁ l₁ → w₁.refusal ≡ 0
    → NarrowCall (take w₁.length l₁) out₂ w₂ l₂ → w₁.length ≤ length out₂ → (w₂ ≡ w₁) × (take w₂.length l₂ ≡ take w₁.length l₁) × (out₂ ≡ out₁ → l₂ ≡ l₁)
narrow_again s b out₁ out₂ w₁ w₂ l₁ l₂ one z two room =
    let a = called s out₁ w₁ l₁ one in
    let t : List ℕ = take w₁.length l₁ in
    let d = called t out₂ w₂ l₂ two in
    let e = taken s out₁ w₁ l₁ a z in
    let is : t ≡ narrow_bytes s = wrote s out₁ w₁ l₁ a z in
    let again = narrow_twice s b (length out₁) e in
    let block : narrow_bytes t ≡ narrow_bytes s = ap narrow_bytes is ∙ again.1 in
    let y : w₂.refusal ≡ 0 =
    number t out₂ w₂ l₂ d ∙ ap (λ (x : List ℕ). narrow_refusal x (length out₂)) is
    ∙ says-narrow (narrow_bytes s) (length out₂) (let n = narrow-says (narrow_bytes s) (length out₁) again.0 in record {
      block = n.block;
      gains = n.gains;
      room = subst₂ (λ (x y : ℕ). x ≤ y) (ap (λ (r : Narrowed). r.length) (said s out₁ w₁ l₁ a z) ∙ sym (ap length again.1)) (λ i. length out₂) room;
    }) in (
      said t out₂ w₂ l₂ d y ∙ (λ i. record { refusal = 0; length = length (block i) }) ∙ sym (said s out₁ w₁ l₁ a z),
      wrote t out₂ w₂ l₂ d y ∙ block ∙ sym is,
      λ h. filled t out₂ w₂ l₂ d y ∙ (λ i. splice (h i) 0 (block i)) ∙ sym (filled s out₁ w₁ l₁ a z),
    )
