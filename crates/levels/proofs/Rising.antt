-- In the order of ranks no value is less than the one before it (`value_rises`): each is its exact value, rounded once. So where a sample reaches a level, those
-- of higher rank do (`reaches_rises`). And the gain's sign, as a comparison with 0 tells it (`direction`).
use mathlib.Core.Path.{◌≡◌, refl, sym, ap, ◌∙◌, subst}
use Prim.Native.Nat.{ℕ, ◌+◌, ◌-◌, ◌*◌, ◌/◌, ◌^◌, ◌≤◌, ◌<◌}
use native.Mathlib.Nat.{le_trans, add-sub_of_le, mul-one, zero-mul, zero-div}
use native.Mathlib.Omega.{arith}
use mathlib.Core.Bool.{Bool, true, false}
use lib.Dec.{T, ltb, lit≤}
use lib.IntN.{ℤ, pos, nat_abs, ◌+ℤ◌, ◌-ℤ◌, ◌*ℤ◌}
use lib.Signed.{nat_abs-le}
use lib.Ieee.{Float, nan, inf, fin, binary32, up, down, unlike, of_bits, of_fields, odd, lt, le, fits}
use lib.Ieee.Scale.{finite}
use borrow.Author.Tests.{ltb-true, ltb-false}
use Rattle.rules.specs.Points.{signed_by, units, value_of, exact_value}
use Rattle.rules.proofs.Signs.{abs_signed, times}
use Rattle.rules.proofs.Products.{times_sum, add_part}
use Rattle.rules.proofs.Near.{Rounds, value_near, value_rounds}
use Rattle.rules.proofs.Order.{le_on}
use Rattle.rules.proofs.Rounds.{rounds_order}
use Rattle.scale.proofs.Finite.{whole-finite}
use Rattle.levels.specs.Levels.{ranked, Rises}
use Rattle.levels.proofs.Ranks.{rank_fits, rank_step}

-- ---- the gain's sign, by which values fall as samples rise, or rise with them; a gain of 0 has either

abbrev pub Direction : Bool → Float → Type 0
Direction falling gain = units 149 gain ≡ signed_by falling (nat_abs (units 149 gain))

signed_again : (s : Bool) (n : ℕ) → signed_by s n ≡ signed_by s (nat_abs (signed_by s n))
signed_again s n = ap (signed_by s) (sym (abs_signed s n))

-- 0.0 as a float of the code
zero_is : of_bits binary32 0 ≡ fin false 0 (pos 0)
unfolding of_bits of_fields odd
zero_is = refl

no_less : (a d : ℕ) → ltb a (0 * d) ≡ true → ⊥
no_less a d e = omega (arith, ltb-true a (0 * d) e, zero-mul d)

by_zero : (gain : Float) → T (finite gain) → (b : Bool) → lt gain (fin false 0 (pos 0)) ≡ b → Direction b gain
unfolding lt units
by_zero nan p b e = absurd p
by_zero (inf s) p b e = absurd p
by_zero (fin true m e) p true q = signed_again true (m * up e * 2 ^ 149 / down e)
by_zero (fin false m e) p false q = signed_again false (m * up e * 2 ^ 149 / down e)
by_zero (fin false m e) p true q = absurd (no_less (m * up e * 1) (down e) q)
by_zero (fin true m e) p false q =
    let h : m * up e * 1 ≡ 0 = omega (arith, ltb-false 0 (m * up e * 1 + 0 * down e) q) in
    let n : m * up e * 2 ^ 149 / down e ≡ 0 =
    ap (λ (k : ℕ). k * 2 ^ 149 / down e) (sym (mul-one (m * up e)) ∙ h) ∙ ap (λ (k : ℕ). k / down e) (zero-mul (2 ^ 149)) ∙ zero-div (down e) in
    ap (λ (k : ℕ). signed_by true k) n ∙ sym (ap (λ (k : ℕ). pos (nat_abs (signed_by true k))) n)

pub direction : (gain : Float) → T (finite gain) → (b : Bool) → lt gain (of_bits binary32 0) ≡ b → Direction b gain
direction gain p b e = by_zero gain p b (ap (lt gain) (sym zero_is) ∙ e)

-- ---- the value, in the order of ranks

module _ (gain offset : Float) (p : T (fits binary32 gain)) (q : T (fits binary32 offset)) (h : T (finite gain)) (k : T (finite offset)) (f : Bool) (way : Direction f gain) where
  abbrev size : ℕ
  size = nat_abs (units 149 gain)

  -- d ranks on, the exact value is d times the gain's size more
  exact_step : (i d : ℕ) → i + d < 65536 → exact_value gain offset (ranked f i) +ℤ pos (size * d) ≡ exact_value gain offset (ranked f (i + d))
  exact_step i d l =
      let x : ℤ = ranked f i in
      let u : ℤ = units 149 gain in
      let more : u *ℤ signed_by f d ≡ pos (size * d) = ap (λ (z : ℤ). z *ℤ signed_by f d) way ∙ times f f size d ∙ even f (size * d) in
      add_part (u *ℤ x) (pos (size * d)) (units 149 offset)
      ∙ ap (λ (z : ℤ). z -ℤ units 149 offset) (ap (λ (z : ℤ). u *ℤ x +ℤ z) (sym more) ∙ sym (times_sum u x (signed_by f d)) ∙ ap (λ (z : ℤ). u *ℤ z) (sym (rank_step f i d l)))
    where
      even : (s : Bool) (n : ℕ) → signed_by (unlike s s) n ≡ pos n
      even true n = refl
      even false n = refl

  small : (j : ℕ) → j < 65536 → nat_abs (ranked f j) ≤ 2 ^ 28
  small j l = le_trans (nat_abs-le (ranked f j) (rank_fits f j l)) (lit≤ tt)

  rounded : (j : ℕ) → j < 65536 → Rounds gain offset (ranked f j)
  rounded j l = value_rounds gain offset (ranked f j) p q h k (small j l)

  pub value_rises : (i j : ℕ) → i ≤ j → j < 65536 → T (le (value_of gain offset (ranked f i)) (value_of gain offset (ranked f j)))
  value_rises i j l m =
      let e : i + (j - i) ≡ j = add-sub_of_le l in
      subst (λ (n : ℕ). T (le (value_of gain offset (ranked f i)) (value_of gain offset (ranked f n)))) e
      (rounds_order gain offset gain offset (ranked f i) (ranked f (i + (j - i))) (rounded i (omega arith)) (rounded (i + (j - i)) (omega arith)) (size * (j - i)) (exact_step i (j - i) (omega arith)))

  value-finite : (j : ℕ) → j < 65536 → T (finite (value_of gain offset (ranked f j)))
  value-finite j l = whole-finite 149 (value_of gain offset (ranked f j)) (value_near gain offset (ranked f j) p q h k (small j l)).is_whole

  -- where a sample reaches the level, those of higher rank do
  pub reaches_rises : (level : Float) → T (finite level) → Rises (λ j. le level (value_of gain offset (ranked f j))) 65536
  reaches_rises level r i j l m t =
      le_on level (value_of gain offset (ranked f i)) (value_of gain offset (ranked f j)) r (value-finite i (omega arith)) (value-finite j m) t (value_rises i j l m)
