-- 256 times a gain by its bit pattern: eight doublings of the pattern without its sign (`pattern_times256`), where it is below that of 2^120, which is
-- exactly where the product is finite (`pattern_range`).
use mathlib.Core.Path.{◌≡◌, refl, sym, ap, ap₂, ◌∙◌, subst}
use Prim.Native.Nat.{ℕ, zero, suc, ◌+◌, ◌-◌, ◌*◌, ◌/◌, ◌%◌, ◌^◌, ◌≤◌, ◌<◌}
use native.Mathlib.Nat.{le_trans, lt_of_lt_of_le, mod-lt, mul-one, mul_assoc, mul-div_cancel, mul-le-mul_right, mul-lt-mul_of_pos_right, eq_of_mul-eq-mul_right}
use native.Mathlib.Numerals.{add-one}
use native.Mathlib.Omega.{arith}
use mathlib.Core.Bool.{Bool, true, false, not, cond}
use lib.Dec.{T, leb, ltb, eqb, lit<}
use lib.IntN.{nat_abs}
use lib.Pow.{pow-add, pow_pos, pow_mono}
use lib.Ieee.{Float, nan, inf, fin, binary32, down, size, odd, is_nan, of_fields, of_bits, to_bits}
use lib.Ieee.Fits.{down_pos}
use lib.Ieee.Bits.{to_bits-of_bits}
use lib.Ieee.Exact.{HasValue, odd_sign}
use lib.Ieee.Scale.{finite}
use borrow.Author.Tests.{ltb-true, ltb-false, lt-ltb, le-ltb, le-leb, lt-leb, ne_eqb}
use Rattle.rules.specs.Rules.{finite32}
use Rattle.rules.specs.Points.{units}
use Rattle.rules.proofs.Signs.{abs_signed}
use Rattle.rules.proofs.Near.{units_of}
use Rattle.numbers.proofs.Patterns.{finite-bits}
use Rattle.narrowing.specs.Narrow.{widened, times256}
use Rattle.narrowing.proofs.Gains.{Exact, read-times256, gain_range, gain_exact}
use Rattle.narrows.specs.Steps.{doubled, grown}

-- ---- the size of a pattern without its sign, in units of 2^−149: its digits where the exponent's field is 0, and shifted with a digit before them else

abbrev by_fields : ℕ → ℕ → ℕ
by_fields zero t = t
by_fields (suc x) t = (8388608 + t) * 2 ^ x

abbrev pattern_units : ℕ → ℕ
pattern_units p = by_fields (p / 8388608) (p % 8388608)

pow_next : (k : ℕ) → 2 ^ suc k ≡ 2 ^ k * 2
pow_next k = ap (λ (n : ℕ). 2 ^ n) (sym (add-one k)) ∙ pow-add 2 k 1

units_small : (p : ℕ) → p < 8388608 → pattern_units p ≡ p
units_small p h =
    let x : p / 8388608 ≡ 0 = omega arith in
    let t : p % 8388608 ≡ p = omega arith in
    ap₂ by_fields x t

units-doubled : (p : ℕ) → pattern_units (doubled p) ≡ pattern_units p * 2
units-doubled p = go (ltb p 8388608) refl
  where
    shifted : (d : Bool) → p < 8388608 → ltb (p * 2) 8388608 ≡ d → pattern_units (p * 2) ≡ p * 2
    shifted true h e = units_small (p * 2) (ltb-true (p * 2) 8388608 e)
    shifted false h e =
        let l : 8388608 ≤ p * 2 = ltb-false (p * 2) 8388608 e in
        let x : p * 2 / 8388608 ≡ 1 = omega arith in
        let t : 8388608 + p * 2 % 8388608 ≡ p * 2 = omega arith in
        ap (λ (n : ℕ). by_fields n (p * 2 % 8388608)) x ∙ mul-one (8388608 + p * 2 % 8388608) ∙ t

    go : (d : Bool) → ltb p 8388608 ≡ d → pattern_units (cond (ltb p 8388608) (p * 2) (p + 8388608)) ≡ pattern_units p * 2
    go true e =
        let h : p < 8388608 = ltb-true p 8388608 e in
        ap (λ (d : Bool). pattern_units (cond d (p * 2) (p + 8388608))) e ∙ shifted (ltb (p * 2) 8388608) h refl ∙ ap (λ (n : ℕ). n * 2) (sym (units_small p h))
    go false e =
        let h : 8388608 ≤ p = ltb-false p 8388608 e in
        let y : ℕ = p / 8388608 - 1 in
        let x : p / 8388608 ≡ suc y = omega arith in
        let x' : (p + 8388608) / 8388608 ≡ suc (suc y) = omega arith in
        let t : (p + 8388608) % 8388608 ≡ p % 8388608 = omega arith in
        ap (λ (d : Bool). pattern_units (cond d (p * 2) (p + 8388608))) e
        ∙ ap₂ by_fields x' t
        ∙ ap (λ (n : ℕ). (8388608 + p % 8388608) * n) (pow_next y)
        ∙ sym (mul_assoc (8388608 + p % 8388608) (2 ^ y) 2)
        ∙ ap (λ (n : ℕ). by_fields n (p % 8388608) * 2) (sym x)

units-grown : (k p : ℕ) → pattern_units (grown k p) ≡ pattern_units p * 2 ^ k
units-grown zero p = sym (mul-one (pattern_units p))
units-grown (suc k) p =
    units-doubled (grown k p) ∙ ap (λ (n : ℕ). n * 2) (units-grown k p) ∙ mul_assoc (pattern_units p) (2 ^ k) 2 ∙ ap (λ (n : ℕ). pattern_units p * n) (sym (pow_next k))

-- a doubling adds at most one to the exponent's field
pub grown-most : (k p : ℕ) → grown k p ≤ p + k * 8388608
grown-most zero p = omega arith
grown-most (suc k) p = go (ltb (grown k p) 8388608) refl (grown-most k p)
  where
    go : (d : Bool) → ltb (grown k p) 8388608 ≡ d → grown k p ≤ p + k * 8388608 → cond (ltb (grown k p) 8388608) (grown k p * 2) (grown k p + 8388608) ≤ p + suc k * 8388608
    go true e h = let l : grown k p < 8388608 = ltb-true (grown k p) 8388608 e in rw e (omega arith)
    go false e h = rw e (omega arith)

-- a pattern is below that of 2^e, which is one of the exponent's field alone, exactly where its size is
units-below : (e p : ℕ) → ltb (pattern_units p) (2 ^ (23 + e)) ≡ ltb p (suc e * 8388608)
units-below e p = go (p / 8388608) refl (ltb p (suc e * 8388608)) refl
  where
    go : (x : ℕ) → p / 8388608 ≡ x → (d : Bool) → ltb p (suc e * 8388608) ≡ d → ltb (by_fields (p / 8388608) (p % 8388608)) (2 ^ (23 + e)) ≡ ltb p (suc e * 8388608)
    go zero q d k =
        let mono : 2 ^ 23 ≤ 2 ^ (23 + e) = pow_mono {i = 23} {j = 23 + e} (omega arith) in
        let small : p % 8388608 < 2 ^ (23 + e) = lt_of_lt_of_le (mod-lt p (omega arith)) mono in
        ap (λ (n : ℕ). ltb (by_fields n (p % 8388608)) (2 ^ (23 + e))) q ∙ lt-ltb (p % 8388608) (2 ^ (23 + e)) small ∙ sym (lt-ltb p (suc e * 8388608) (omega arith))
    go (suc y) q true k =
        let l : p < suc e * 8388608 = ltb-true p (suc e * 8388608) k in
        let less : y + 1 ≤ e = omega arith in
        let top : (8388608 + p % 8388608) * 2 ^ y < 16777216 * 2 ^ y = mul-lt-mul_of_pos_right (omega arith) (pow_pos y) in
        let sum : 2 ^ (24 + y) ≡ 16777216 * 2 ^ y = pow-add 2 24 y in
        let mono : 2 ^ (24 + y) ≤ 2 ^ (23 + e) = pow_mono (omega arith) in
        ap (λ (n : ℕ). ltb (by_fields n (p % 8388608)) (2 ^ (23 + e))) q ∙ lt-ltb ((8388608 + p % 8388608) * 2 ^ y) (2 ^ (23 + e)) (lt_of_lt_of_le top (subst (λ (n : ℕ). n ≤ 2 ^ (23 + e)) sum mono)) ∙ sym k
    go (suc y) q false k =
        let l : suc e * 8388608 ≤ p = ltb-false p (suc e * 8388608) k in
        let more : e ≤ y = omega arith in
        let sum : 2 ^ (23 + y) ≡ 8388608 * 2 ^ y = pow-add 2 23 y in
        let mono : 2 ^ (23 + e) ≤ 2 ^ (23 + y) = pow_mono (omega arith) in
        let least : 8388608 * 2 ^ y ≤ (8388608 + p % 8388608) * 2 ^ y = mul-le-mul_right (2 ^ y) (omega arith) in
        ap (λ (n : ℕ). ltb (by_fields n (p % 8388608)) (2 ^ (23 + e))) q ∙ le-ltb ((8388608 + p % 8388608) * 2 ^ y) (2 ^ (23 + e)) (le_trans (subst (λ (n : ℕ). 2 ^ (23 + e) ≤ n) sum mono) least) ∙ sym k

-- ---- a pattern of a finite float has that size, and the float's bits are made of sign and size alone

pattern_value : (n : ℕ) → n % 2147483648 < 2139095040 → HasValue (of_bits binary32 n) (leb 2147483648 n) (pattern_units (n % 2147483648)) (2 ^ 149)
unfolding of_bits of_fields
pattern_value n h =
    let digits : n % 8388608 ≡ n % 2147483648 % 8388608 = omega arith in
    subst (λ (t : ℕ). HasValue (of_fields binary32 (leb 2147483648 n) (n % 2147483648 / 8388608) (n % 8388608)) (leb 2147483648 n) (by_fields (n % 2147483648 / 8388608) t) (2 ^ 149)) digits
    (go (n % 2147483648 / 8388608) (omega arith))
  where
    go : (x : ℕ) → x < 255 → HasValue (of_fields binary32 (leb 2147483648 n) x (n % 8388608)) (leb 2147483648 n) (by_fields x (n % 8388608)) (2 ^ 149)
    go zero l = subst (λ (a : ℕ). HasValue (odd 24 (leb 2147483648 n) (n % 8388608) 0 149) (leb 2147483648 n) a (2 ^ 149)) (mul-one (n % 8388608)) (odd_sign 24 (leb 2147483648 n) (n % 8388608) 0 149)
    go (suc x) l =
        subst (λ (d : Bool). HasValue (cond d (cond (eqb (n % 8388608) 0) (inf (leb 2147483648 n)) nan) (odd 24 (leb 2147483648 n) (8388608 + n % 8388608) x 149)) (leb 2147483648 n) ((8388608 + n % 8388608) * 2 ^ x) (2 ^ 149))
        (sym (ne_eqb (suc x) 255 (λ e. omega arith))) (odd_sign 24 (leb 2147483648 n) (8388608 + n % 8388608) x 149)

bits_by : Bool → ℕ → ℕ
bits_by s a = cond s 2147483648 0 + (size a - 24) * 8388608 + a / 2 ^ (size a - 24)

bits_of : (x : Float) (s : Bool) (a : ℕ) → HasValue x s a (2 ^ 149) → to_bits binary32 x ≡ bits_by s a
unfolding to_bits bits_by
bits_of nan s a v = absurd v
bits_of (inf t) s a v = absurd v
bits_of (fin t m e) s a v = ap₂ {C = ℕ} (λ u k. cond u 2147483648 0 + (size k - 24) * 8388608 + k / 2 ^ (size k - 24)) v.0 (ap (λ (k : ℕ). k / down e) v.1 ∙ mul-div_cancel a (down_pos e))

-- one number has one sign and one size
unique : (x : Float) (s t : Bool) (a b c : ℕ) → HasValue x s a c → HasValue x t b c → (s ≡ t) × (a ≡ b)
unique nan s t a b c v w = absurd v
unique (inf u) s t a b c v w = absurd v
unique (fin u m e) s t a b c v w = (sym v.0 ∙ w.0, eq_of_mul-eq-mul_right (down e) (down_pos e) a b (sym v.1 ∙ w.1))

real : (x : Float) (s : Bool) (a c : ℕ) → HasValue x s a c → T (not (is_nan x))
unfolding is_nan
real nan s a c v = v
real (inf t) s a c v = tt
real (fin t m e) s a c v = tt

-- a pattern by its sign and the rest
module _ (p : ℕ) (h : p < 2139095040) where
  abbrev signed_pattern : Bool → ℕ
  signed_pattern s = cond s 2147483648 0 + p

  pattern_back : (s : Bool) → bits_by s (pattern_units p) ≡ cond s 2147483648 0 + p
  pattern_back s =
      sym (bits_of (of_bits binary32 (signed_pattern s)) s (pattern_units p) (value s))
      ∙ to_bits-of_bits binary32 (signed_pattern s) (below s) (real (of_bits binary32 (signed_pattern s)) s (pattern_units p) (2 ^ 149) (value s))
    where
      below : (s : Bool) → cond s 2147483648 0 + p < 4294967296
      below true = omega arith
      below false = omega arith

      rest : (s : Bool) → (cond s 2147483648 0 + p) % 2147483648 ≡ p
      rest true = omega arith
      rest false = omega arith

      sign : (s : Bool) → leb 2147483648 (cond s 2147483648 0 + p) ≡ s
      sign true = le-leb 2147483648 (2147483648 + p) (omega arith)
      sign false = lt-leb 2147483648 (0 + p) (omega arith)

      value : (s : Bool) → HasValue (of_bits binary32 (cond s 2147483648 0 + p)) s (pattern_units p) (2 ^ 149)
      value s =
          subst (λ (t : Bool). HasValue (of_bits binary32 (signed_pattern s)) t (pattern_units p) (2 ^ 149)) (sign s)
          (subst (λ (q : ℕ). HasValue (of_bits binary32 (signed_pattern s)) (leb 2147483648 (signed_pattern s)) (pattern_units q) (2 ^ 149)) (rest s)
          (pattern_value (signed_pattern s) (subst (λ (q : ℕ). q < 2139095040) (sym (rest s)) h)))

-- ---- the gain

module _ (n : ℕ) (f : finite32 n ≡ true) where
  own : n % 2147483648 < 2139095040
  unfolding finite32
  own = ltb-true (n % 2147483648) 2139095040 (finite-bits binary32 n ∙ f)

  -- 256 times it is finite exactly where it is below 2^120 in size
  pub pattern_range : finite (widened n) ≡ ltb (n % 2147483648) 2071986176
  pattern_range =
      let u : ℕ = pattern_units (n % 2147483648) in
      let size : nat_abs (units 149 (of_bits binary32 n)) ≡ u = ap nat_abs (units_of (of_bits binary32 n) (leb 2147483648 n) u 149 (pattern_value n own)) ∙ abs_signed (leb 2147483648 n) u in
      gain_range n f ∙ ap (λ (k : ℕ). ltb (k * 256) (2 ^ 277)) size ∙ by-256 u (ltb u (2 ^ 269)) refl ∙ units-below 246 (n % 2147483648)
    where
      by-256 : (u : ℕ) (d : Bool) → ltb u (2 ^ 269) ≡ d → ltb (u * 256) (2 ^ 277) ≡ ltb u (2 ^ 269)
      by-256 u true e = lt-ltb (u * 256) (2 ^ 277) (mul-lt-mul_of_pos_right (ltb-true u (2 ^ 269) e) (lit< tt)) ∙ sym e
      by-256 u false e = le-ltb (u * 256) (2 ^ 277) (mul-le-mul_right 256 (ltb-false u (2 ^ 269) e)) ∙ sym e

  -- and then its bits are the sign and eight doublings of the rest
  pub pattern_times256 : finite (widened n) ≡ true → times256 n ≡ cond (leb 2147483648 n) 2147483648 0 + grown 8 (n % 2147483648)
  unfolding times256
  pattern_times256 g =
      let p : ℕ = n % 2147483648 in
      let x : Exact n = gain_exact n f g in
      let product : HasValue (widened n) x.sign (x.size * 256) (2 ^ 149) = subst (λ (y : Float). HasValue y x.sign (x.size * 256) (2 ^ 149)) (read-times256 n) x.behind in
      let same = unique (of_bits binary32 n) x.sign (leb 2147483648 n) x.size (pattern_units p) (2 ^ 149) x.before (pattern_value n own) in
      let small : p < 2071986176 = ltb-true p 2071986176 (sym pattern_range ∙ g) in
      bits_of (widened n) x.sign (x.size * 256) product
      ∙ ap₂ {C = ℕ} (λ s a. bits_by s (a * 256)) same.0 same.1
      ∙ ap (bits_by (leb 2147483648 n)) (sym (units-grown 8 p))
      ∙ pattern_back (grown 8 p) (omega (arith, grown-most 8 p)) (leb 2147483648 n)
