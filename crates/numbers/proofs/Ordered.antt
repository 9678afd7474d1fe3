-- The patterns of the non-negative finite floats, those below `ones f * hid f`, stand in the order of their floats: `ordered-bits`, in either format.
use mathlib.Core.Path.{◌≡◌, sym, ap, ◌∙◌, subst}
use mathlib.Core.Logic.{inl, inr}
use Prim.Native.Nat.{ℕ, zero, suc, ◌+◌, ◌-◌, ◌*◌, ◌/◌, ◌%◌, ◌^◌, ◌<◌, ◌≤◌, suc-le-suc}
use native.Mathlib.Nat.{le_trans, le_of_eq, le_of_lt, le-suc, le-add_right, le_of_suc-le-suc, not-suc-le-zero, lt_irrefl, lt_of_lt_of_le, eq-or-lt_of_le, mul_comm, mul_assoc, mul-le-mul, mul-le-mul_right, pow-succ', div-lt_iff_lt-mul, mod-lt, mod-eq_of_lt, mod-add-div}
use native.Mathlib.Omega.{arith}
use mathlib.Core.Bool.{Bool, true, false, cond, true≢false}
use borrow.Author.Tests.{lt-ltb, le-ltb, lt-leb}
use lib.Dec.{T, eqb, ltb, eqb→eq}
use lib.Pow.{pow_pos, pow_mono}
use lib.Ieee.{Float, nan, inf, fin, Format, prec, low, up, down, odd, hid, ones, top, of_fields, of_bits, lt}
use lib.Ieee.Exact.{HasValue, odd_sign}
use lib.Ieee.Nearest.{div_mono}
use lib.Ieee.Order.{transfer}
use lib.Ieee.Scale.{finite}
use Rattle.numbers.proofs.Patterns.{finite-bits}

-- ---- the size of a float, in units of the format's smallest value, by the exponent's field and the digits below h

abbrev magnitude : ℕ → ℕ → ℕ → ℕ
magnitude h zero t = t * 2 ^ 0
magnitude h (suc k) t = (h + t) * 2 ^ k

at_most_twice : (h t : ℕ) → t < h → h + t ≤ h * 2
at_most_twice h t l = omega arith

magnitude_under : (h x t : ℕ) → t < h → magnitude h x t ≤ h * 2 ^ x
magnitude_under h zero t l = mul-le-mul_right (2 ^ 0) (le_of_lt l)
magnitude_under h (suc k) t l =
    le_trans (mul-le-mul_right (2 ^ k) (at_most_twice h t l)) (le_of_eq (mul_assoc h 2 (2 ^ k) ∙ ap (λ (p : ℕ). h * p) (sym (pow-succ' 2 k))))

magnitude_from : (h x y u : ℕ) → x < y → h * 2 ^ x ≤ magnitude h y u
magnitude_from h x zero u l = absurd (not-suc-le-zero l)
magnitude_from h x (suc k) u l = mul-le-mul (le-add_right h u) (pow_mono (le_of_suc-le-suc l))

magnitude_digits : (h x t u : ℕ) → t ≤ u → magnitude h x t ≤ magnitude h x u
magnitude_digits h zero t u l = mul-le-mul_right (2 ^ 0) l
magnitude_digits h (suc k) t u l = mul-le-mul_right (2 ^ k) (more h t u l)
  where
    more : (h t u : ℕ) → t ≤ u → h + t ≤ h + u
    more h t u l = omega arith

same_field : (a b t u p q : ℕ) → t + p ≡ a → u + q ≡ b → p ≡ q → a ≤ b → t ≤ u
same_field a b t u p q s r e l = omega arith

-- the larger pattern has the larger field, or the same field and no smaller digits
magnitude_mono : (h a b : ℕ) → 0 < h → a ≤ b → magnitude h (a / h) (a % h) ≤ magnitude h (b / h) (b % h)
magnitude_mono h a b H l = elim (eq-or-lt_of_le (div_mono a h b h H H (mul-le-mul_right h l))) [
  | inl e ↦
      subst (λ (x : ℕ). magnitude h x (a % h) ≤ magnitude h (b / h) (b % h)) (sym e)
      (magnitude_digits h (b / h) (a % h) (b % h)
      (same_field a b (a % h) (b % h) (h * (a / h)) (h * (b / h)) (mod-add-div a h) (mod-add-div b h) (ap (λ (x : ℕ). h * x) e) l))
  | inr s ↦ le_trans (magnitude_under h (a / h) (a % h) (mod-lt a H)) (magnitude_from h (a / h) (b / h) (b % h) s)
]

-- ---- the value of a pattern

fields_value : (f : Format) (x t : ℕ) → x < ones f → HasValue (of_fields f false x t) false (magnitude (hid f) x t) (2 ^ low f)
unfolding of_fields
fields_value f zero t l = odd_sign (prec f) false t 0 (low f)
fields_value f (suc k) t l = go (eqb (suc k) (ones f)) (eqb→eq (suc k) (ones f))
  where
    go : (b : Bool) → (T b → suc k ≡ ones f)
        → HasValue (cond b (cond (eqb t 0) (inf false) nan) (odd (prec f) false (hid f + t) k (low f))) false ((hid f + t) * 2 ^ k) (2 ^ low f)
    go false e = odd_sign (prec f) false (hid f + t) k (low f)
    go true e = absurd (lt_irrefl (ones f) (subst (λ (z : ℕ). z < ones f) (e tt) l))

below-sign : (h o n : ℕ) → n < o * h → n < h * suc o
below-sign h o n l = lt_of_lt_of_le l (le_trans (mul-le-mul_right h (le-suc o)) (le_of_eq (mul_comm (suc o) h)))

unsigned : (f : Format) (n : ℕ) → n < top f → of_bits f n ≡ of_fields f false (n / hid f) (n % hid f)
unfolding of_bits
unsigned f n l =
    ap (λ (s : Bool). of_fields f s (n % top f / hid f) (n % hid f)) (lt-leb (top f) n l)
    ∙ ap (λ (m : ℕ). of_fields f false (m / hid f) (n % hid f)) (mod-eq_of_lt l)

bits-value : (f : Format) (n : ℕ) → n < ones f * hid f → HasValue (of_bits f n) false (magnitude (hid f) (n / hid f) (n % hid f)) (2 ^ low f)
bits-value f n l =
    subst (λ (x : Float). HasValue x false (magnitude (hid f) (n / hid f) (n % hid f)) (2 ^ low f)) (sym (unsigned f n (below-sign (hid f) (ones f) n l)))
    (fields_value f (n / hid f) (n % hid f) ((div-lt_iff_lt-mul (pow_pos (prec f - 1))).1 l))

-- ---- two values that are not negative, over one denominator

not_less : (x y : Float) (a b c : ℕ) → 0 < c → HasValue x false a c → HasValue y false b c → a ≤ b → lt y x ≡ false
unfolding lt
not_less nan y a b c C p q l = absurd p
not_less (inf s) y a b c C p q l = absurd p
not_less (fin true m e) y a b c C p q l = absurd (true≢false p.0)
not_less (fin false m e) nan a b c C p q l = absurd q
not_less (fin false m e) (inf t) a b c C p q l = absurd q
not_less (fin false m e) (fin true n d) a b c C p q l = absurd (true≢false q.0)
not_less (fin false m e) (fin false n d) a b c C p q l =
    le-ltb (n * up d * down e) (m * up e * down d) (transfer (m * up e) (n * up d) (down e) (down d) a b c c C C p.1 q.1 (mul-le-mul_right c l))

pub finite-below : (f : Format) (n : ℕ) → n < ones f * hid f → finite (of_bits f n) ≡ true
finite-below f n l =
    sym (finite-bits f n)
    ∙ ap (λ (m : ℕ). ltb m (ones f * hid f)) (mod-eq_of_lt (below-sign (hid f) (ones f) n l))
    ∙ lt-ltb n (ones f * hid f) l

-- the float of the larger pattern is not less than that of the smaller one
pub ordered-bits : (f : Format) (a b : ℕ) → a ≤ b → b < ones f * hid f → lt (of_bits f b) (of_bits f a) ≡ false
ordered-bits f a b l s =
    not_less (of_bits f a) (of_bits f b) (magnitude (hid f) (a / hid f) (a % hid f)) (magnitude (hid f) (b / hid f) (b % hid f)) (2 ^ low f) (pow_pos (low f))
    (bits-value f a (le_trans (suc-le-suc l) s)) (bits-value f b s) (magnitude_mono (hid f) a b (pow_pos (prec f - 1)) l)
