-- A value is the exact one, rounded once: so two values are in the order of the exact ones (`rounds_order`). A point's value is one of them (`point_rounds`), so
-- this holds for two points, of one block or two (`value-order`).
use mathlib.Core.Path.{◌≡◌, sym, ap, ◌∙◌, subst₂}
use Prim.Native.Nat.{ℕ, ◌^◌}
use mathlib.Core.List.{List}
use lib.Dec.{T}
use lib.IntN.{ℤ, pos, ◌+ℤ◌}
use lib.Pow.{pow_pos}
use lib.Ieee.{Float, binary32, binary64, le, of_bits}
use lib.Ieee.Bits.{of_bits-fits}
use Rattle.rules.specs.Numbers.{Bytes}
use Rattle.rules.specs.Wave.{Wave}
use Rattle.rules.specs.Rules.{opened}
use Rattle.rules.specs.Points.{sample, value_of, value, exact_value, point_refusal}
use Rattle.rules.proofs.Facts.{Measured}
use Rattle.rules.proofs.Near.{Rounds, value_rounds}
use Rattle.rules.proofs.Opened.{good-opened}
use Rattle.rules.proofs.Asked.{point_says, single-sound, sample-small, raw_below}
use Rattle.rules.proofs.Order.{more_at_most, round_order}

-- a value whose exact one is no greater than another's by d units is no greater
pub rounds_order : (gain offset gain2 offset2 : Float) (x y : ℤ) → Rounds gain offset x → Rounds gain2 offset2 y → (d : ℕ)
    → exact_value gain offset x +ℤ pos d ≡ exact_value gain2 offset2 y → T (le (value_of gain offset x) (value_of gain2 offset2 y))
rounds_order gain offset gain2 offset2 x y u v d q =
    subst₂ (λ (i j : Float). T (le i j)) (sym u.is) (sym v.is)
    (round_order binary64 u.sign v.sign u.size v.size (2 ^ 149) (pow_pos 149) (more_at_most u.sign v.sign u.size v.size d (ap (λ (i : ℤ). i +ℤ pos d) (sym u.exact) ∙ q ∙ v.exact)))

-- the exact value of point k of segment n of array a, in units of 2^−149
abbrev pub exact_at : Wave → ℕ → ℕ → ℕ → ℤ
exact_at w a n k = exact_value (of_bits binary32 (w.head 156)) (of_bits binary32 (w.head 160)) (sample w a n k)

pub point_rounds : (s : List ℕ) → Bytes s → (a n k : ℕ) → point_refusal s a n k ≡ 0 → Rounds (of_bits binary32 ((opened s).head 156)) (of_bits binary32 ((opened s).head 160)) (sample (opened s) a n k)
unfolding sample
point_rounds s b a n k e =
    let h : ℕ → ℕ = (opened s).head in
    let good = good-opened s b (point_says s a n k e).0 in
    let m : Measured (opened s) = good.floats in
    value_rounds (of_bits binary32 (h 156)) (of_bits binary32 (h 160)) (sample (opened s) a n k) (of_bits-fits binary32 (h 156)) (of_bits-fits binary32 (h 160)) (single-sound (h 156) m.gain) (single-sound (h 160) m.offset)
    (sample-small (h 32) _ good.kind (raw_below s b a n k e))

-- and a point's value likewise
pub value-order : (s t : List ℕ) → Bytes s → Bytes t → (a n k x g j : ℕ) → point_refusal s a n k ≡ 0 → point_refusal t x g j ≡ 0
    → (d : ℕ) → exact_at (opened s) a n k +ℤ pos d ≡ exact_at (opened t) x g j → T (le (value (opened s) a n k) (value (opened t) x g j))
unfolding value
value-order s t b c a n k x g j e f d q =
    let gain : List ℕ → Float = λ u. of_bits binary32 ((opened u).head 156) in
    let offset : List ℕ → Float = λ u. of_bits binary32 ((opened u).head 160) in
    rounds_order (gain s) (offset s) (gain t) (offset t) (sample (opened s) a n k) (sample (opened t) x g j) (point_rounds s b a n k e) (point_rounds t c x g j f) d q
