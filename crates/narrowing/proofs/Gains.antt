-- 256 times a gain: it is exact wherever it is finite (`gain_exact`), and it is finite exactly where it is below 2^128 (`gain_range`).
use mathlib.Core.Path.{◌≡◌, refl, sym, ap, ap₂, ◌∙◌, subst}
use Prim.Native.Nat.{ℕ, suc, ◌+◌, ◌-◌, ◌*◌, ◌/◌, ◌%◌, ◌^◌, ◌≤◌, ◌<◌, compare}
use native.Mathlib.Nat.{le_trans, le_of_eq, lt_of_lt_of_le, sub-add_cancel, mul-one, mul_assoc, mul-le-mul_right, mul-lt-mul_of_pos_right, mul-div_cancel, le-div_iff_mul-le, div-div-eq-div-mul}
use native.Mathlib.Omega.{arith}
use mathlib.Core.Bool.{Bool, true, false, cond, false≢true}
use lib.Dec.{T, ltb, lit<, lit≤}
use lib.IntN.{ℤ, pos, nat_abs, ◌*ℤ◌}
use lib.Pow.{pow-add, pow_pos}
use lib.Ieee.{Float, nan, inf, fin, Format, binary32, prec, emax, low, unlike, size, odd, units as smallest, round, mul, of_int, fits, of_bits}
use lib.Ieee.Digits.{size-le}
use lib.Ieee.Fits.{round_is, mul-fits}
use lib.Ieee.Bits.{of_bits-to_bits, of_bits-fits, to_bits-lt}
use lib.Ieee.Exact.{HasValue, round_exact}
use lib.Ieee.Back.{round_whole}
use lib.Ieee.Nearest.{closest, nearest-ge}
use lib.Ieee.Scale.{finite}
use borrow.Author.Tests.{ltb-true, ltb-false, le-ltb}
use Rattle.rules.specs.Rules.{finite32}
use Rattle.rules.specs.Points.{signed_by, units}
use Rattle.rules.proofs.Signs.{abs_signed, times}
use Rattle.rules.proofs.Sums.{mul_at, Scaled, scaled, scaled_value}
use Rattle.rules.proofs.Near.{units_of}
use Rattle.narrowing.specs.Narrow.{widened, times256}

-- ---- a fraction of 2^(emax + 1) or more rounds to an infinity

units-over : (f : Format) (s : Bool) (q k : ℕ) → 2 ^ (low f + suc (emax f)) ≤ q * 2 ^ k → smallest f s q k ≡ inf s
unfolding smallest
units-over f s q k h = ap (λ (t : Bool). cond t (odd (suc (prec f)) s q k (low f)) (inf s)) (le-ltb (q * 2 ^ k) (2 ^ (low f + suc (emax f))) h)

round_over : (f : Format) (s : Bool) (num den : ℕ) → 2 ^ (low f + suc (emax f)) ≤ num * 2 ^ low f / den → size (num * 2 ^ low f / den) - prec f ≤ low f + suc (emax f) → round f s num den ≡ inf s
round_over f s num den over few =
    let n : ℕ = num * 2 ^ low f in
    let k : ℕ = size (n / den) - prec f in
    let u : ℕ = den * 2 ^ k in
    let e : 2 ^ (low f + suc (emax f) - k) * 2 ^ k ≡ 2 ^ (low f + suc (emax f)) = sym (pow-add 2 (low f + suc (emax f) - k) k) ∙ ap (λ (x : ℕ). 2 ^ x) (sub-add_cancel few) in
    let q : 2 ^ (low f + suc (emax f) - k) ≤ n / u =
    subst (λ (x : ℕ). 2 ^ (low f + suc (emax f) - k) ≤ x) (div-div-eq-div-mul n den (2 ^ k)) ((le-div_iff_mul-le (pow_pos k)).1 (le_trans (le_of_eq e) over)) in
    round_is f s num den
    ∙ units-over f s (closest n u) k (le_trans (le_of_eq (sym e)) (mul-le-mul_right (2 ^ k) (le_trans q (nearest-ge (n / u) (compare (n % u * 2) u)))))

-- ---- the product, by the gain's sign and its size in units of 2^−149

unlike_false : (s : Bool) → unlike s false ≡ s
unlike_false true = refl
unlike_false false = refl

module _ (s : Bool) (m : ℕ) (e : ℤ) (h : Scaled binary32 m e) where
  product : mul binary32 (fin s m e) (of_int binary32 (pos 256)) ≡ round binary32 s (m * 2 ^ h.g * 256) (2 ^ 149)
  unfolding of_int
  product =
      mul_at binary32 (fin s m e) (of_int binary32 (pos 256)) s false (m * 2 ^ h.g) (2 ^ 149) 256 1 (pow_pos 149) (lit< tt) (scaled_value binary32 s m e h) (round_whole binary32 false 256 (lit≤ tt))
      ∙ ap₂ {C = Float} (λ t d. round binary32 t (m * 2 ^ h.g * 256) d) (unlike_false s) (mul-one (2 ^ 149))

  shifted : m * 2 ^ (h.g + 8) ≡ m * 2 ^ h.g * 256
  shifted = ap (λ (x : ℕ). m * x) (pow-add 2 h.g 8) ∙ sym (mul_assoc m (2 ^ h.g) 256)

  within : m * 2 ^ h.g * 256 < 2 ^ 277 → HasValue (mul binary32 (fin s m e) (of_int binary32 (pos 256))) s (m * 2 ^ h.g * 256) (2 ^ 149)
  within l =
      subst (λ (x : Float). HasValue x s (m * 2 ^ h.g * 256) (2 ^ 149)) (sym product)
      (round_exact binary32 s (m * 2 ^ h.g * 256) (2 ^ 149) m (h.g + 8) (pow_pos 149) h.few (subst (λ (x : ℕ). x < 2 ^ 277) (sym shifted) l) (ap (λ (x : ℕ). x * 2 ^ 149) (sym shifted)))

  beyond : 2 ^ 277 ≤ m * 2 ^ h.g * 256 → mul binary32 (fin s m e) (of_int binary32 (pos 256)) ≡ inf s
  beyond l =
      let n : ℕ = m * 2 ^ h.g * 256 in
      let same : n * 2 ^ 149 / 2 ^ 149 ≡ n = mul-div_cancel n (pow_pos 149) in
      let most : n < 2 ^ 285 = lt_of_lt_of_le (mul-lt-mul_of_pos_right h.under (lit< tt)) (lit≤ tt) in
      product
      ∙ round_over binary32 s n (2 ^ 149) (subst (λ (x : ℕ). 2 ^ 277 ≤ x) (sym same) l)
      (subst (λ (x : ℕ). size x - 24 ≤ 277) (sym same) (less (size n) (size-le n 285 most)))
    where
      less : (z : ℕ) → z ≤ 285 → z - 24 ≤ 277
      less z h = omega arith

-- ---- the product's bits

product_fits : (n : ℕ) → T (fits binary32 (widened n))
unfolding widened
product_fits n = mul-fits binary32 (of_bits binary32 n) (of_int binary32 (pos 256))

-- they are read as the product, and fit 32 bits
pub read-times256 : (n : ℕ) → of_bits binary32 (times256 n) ≡ widened n
unfolding times256
read-times256 n = of_bits-to_bits binary32 (widened n) (product_fits n)

pub times256-long : (n : ℕ) → times256 n < 256 ^ 4
unfolding times256
times256-long n = to_bits-lt binary32 (widened n) (product_fits n)

-- ---- a finite gain

-- its sign, its size in units of 2^−149, and the product by them
record Sizes (n : ℕ) : Type 0 where
  sign : Bool
  size : ℕ
  before : HasValue (of_bits binary32 n) sign size (2 ^ 149)
  below : size * 256 < 2 ^ 277 → HasValue (widened n) sign (size * 256) (2 ^ 149)
  above : 2 ^ 277 ≤ size * 256 → widened n ≡ inf sign

sizes : (n : ℕ) → finite32 n ≡ true → Sizes n
unfolding finite32 widened
sizes n f = go (of_bits binary32 n) refl (of_bits-fits binary32 n) (subst T (sym f) tt)
  where
    go : (x : Float) → of_bits binary32 n ≡ x → T (fits binary32 x) → T (finite x) → Sizes n
    go nan e p t = absurd t
    go (inf s) e p t = absurd t
    go (fin s m k) e p t =
        let h : Scaled binary32 m k = scaled binary32 s m k p in
        let x : widened n ≡ mul binary32 (fin s m k) (of_int binary32 (pos 256)) = ap (λ (y : Float). mul binary32 y (of_int binary32 (pos 256))) e in
        record {
          sign = s;
          size = m * 2 ^ h.g;
          before = subst (λ (y : Float). HasValue y s (m * 2 ^ h.g) (2 ^ 149)) (sym e) (scaled_value binary32 s m k h);
          below = λ l. subst (λ (y : Float). HasValue y s (m * 2 ^ h.g * 256) (2 ^ 149)) (sym x) (within s m k h l);
          above = λ l. x ∙ beyond s m k h l;
        }

-- it is finite exactly where it is below 2^128, which is 2^277 units
pub gain_range : (n : ℕ) → finite32 n ≡ true → finite (widened n) ≡ ltb (nat_abs (units 149 (of_bits binary32 n)) * 256) (2 ^ 277)
gain_range n f = go (sizes n f)
  where
    has-finite : (x : Float) (s : Bool) (a c : ℕ) → HasValue x s a c → finite x ≡ true
    has-finite nan s a c v = absurd v
    has-finite (inf t) s a c v = absurd v
    has-finite (fin t m e) s a c v = refl

    go : Sizes n → finite (widened n) ≡ ltb (nat_abs (units 149 (of_bits binary32 n)) * 256) (2 ^ 277)
    go z = by (ltb (z.size * 256) (2 ^ 277)) refl ∙ ap (λ (x : ℕ). ltb (x * 256) (2 ^ 277)) (sym (ap nat_abs (units_of (of_bits binary32 n) z.sign z.size 149 z.before) ∙ abs_signed z.sign z.size))
      where
        by : (t : Bool) → ltb (z.size * 256) (2 ^ 277) ≡ t → finite (widened n) ≡ ltb (z.size * 256) (2 ^ 277)
        by true e = has-finite (widened n) z.sign (z.size * 256) (2 ^ 149) (z.below (ltb-true (z.size * 256) (2 ^ 277) e)) ∙ sym e
        by false e = ap finite (z.above (ltb-false (z.size * 256) (2 ^ 277) e)) ∙ sym e

-- Where it is finite it is exact: the gain has a sign and a size in units of 2^−149, and the bits written have that sign and 256 times the size
pub record Exact (n : ℕ) : Type 0 where
  pub sign : Bool
  pub size : ℕ
  pub before : HasValue (of_bits binary32 n) sign size (2 ^ 149)
  pub behind : HasValue (of_bits binary32 (times256 n)) sign (size * 256) (2 ^ 149)

module _ (n : ℕ) (f : finite32 n ≡ true) (g : finite (widened n) ≡ true) where
  pub gain_exact : Exact n
  gain_exact = go (sizes n f)
    where
      go : Sizes n → Exact n
      go z = by (ltb (z.size * 256) (2 ^ 277)) refl
        where
          by : (t : Bool) → ltb (z.size * 256) (2 ^ 277) ≡ t → Exact n
          by true e = record {
            sign = z.sign;
            size = z.size;
            before = z.before;
            behind = subst (λ (x : Float). HasValue x z.sign (z.size * 256) (2 ^ 149)) (sym (read-times256 n)) (z.below (ltb-true (z.size * 256) (2 ^ 277) e));
          }
          by false e = absurd (false≢true (sym (ap finite (z.above (ltb-false (z.size * 256) (2 ^ 277) e))) ∙ g))

  -- in whole numbers
  pub gain-units : units 149 (of_bits binary32 (times256 n)) ≡ units 149 (of_bits binary32 n) *ℤ pos 256
  gain-units =
      let z : Exact n = gain_exact in
      units_of (of_bits binary32 (times256 n)) z.sign (z.size * 256) 149 z.behind
      ∙ ap (λ (s : Bool). signed_by s (z.size * 256)) (sym (unlike_false z.sign))
      ∙ sym (times z.sign false z.size 256)
      ∙ ap (λ (x : ℤ). x *ℤ pos 256) (sym (units_of (of_bits binary32 n) z.sign z.size 149 z.before))

  -- and the block's rule 8 holds of it
  pub gain-finite : finite32 (times256 n) ≡ true
  unfolding finite32
  gain-finite = ap finite (read-times256 n) ∙ g
