-- The order of whole numbers, as the test `le_z` that computes, is a total one; and the size of a sum (`nat_abs_sum`).
use mathlib.Core.Path.{◌≡◌, ap}
use Prim.Native.Nat.{ℕ, suc, ◌+◌, ◌-◌, ◌≤◌, ◌<◌}
use native.Mathlib.Nat.{le_antisymm, le_refl}
use native.Mathlib.Omega.{arith}
use mathlib.Core.Bool.{Bool, true, false, not, cond}
use lib.Dec.{T, ltb, leb→le, le→leb, nleb→lt, ltb→lt}
use lib.IntN.{ℤ, pos, negsuc, nat_abs, sub_ℕ, ◌+ℤ◌}
use lib.Signed.{le_z}

pub le_ℤ_refl : (a : ℤ) → T (le_z a a)
le_ℤ_refl (pos a) = le→leb a a (le_refl a)
le_ℤ_refl (negsuc a) = le→leb a a (le_refl a)

pub le_ℤ_trans : (a b c : ℤ) → T (le_z a b) → T (le_z b c) → T (le_z a c)
le_ℤ_trans (pos a) (pos b) (pos c) h k = omega (arith, leb→le, le→leb)
le_ℤ_trans (pos a) (pos b) (negsuc c) h k = k
le_ℤ_trans (pos a) (negsuc b) c h k = absurd h
le_ℤ_trans (negsuc a) (pos b) (pos c) h k = tt
le_ℤ_trans (negsuc a) (pos b) (negsuc c) h k = absurd k
le_ℤ_trans (negsuc a) (negsuc b) (pos c) h k = tt
le_ℤ_trans (negsuc a) (negsuc b) (negsuc c) h k = omega (arith, leb→le, le→leb)

pub le_ℤ_antisymm : (a b : ℤ) → T (le_z a b) → T (le_z b a) → a ≡ b
le_ℤ_antisymm (pos a) (pos b) h k = ap pos (le_antisymm (leb→le a b h) (leb→le b a k))
le_ℤ_antisymm (pos a) (negsuc b) h k = absurd h
le_ℤ_antisymm (negsuc a) (pos b) h k = absurd k
le_ℤ_antisymm (negsuc a) (negsuc b) h k = ap negsuc (le_antisymm (leb→le a b k) (leb→le b a h))

pub le_ℤ_total : (a b : ℤ) → T (not (le_z a b)) → T (le_z b a)
le_ℤ_total (pos a) (pos b) h = omega (arith, nleb→lt, le→leb)
le_ℤ_total (pos a) (negsuc b) h = tt
le_ℤ_total (negsuc a) (pos b) h = absurd h
le_ℤ_total (negsuc a) (negsuc b) h = omega (arith, nleb→lt, le→leb)

-- ---- the size of a sum

apart : (a b : ℕ) → nat_abs (sub_ℕ a b) ≤ a + b
apart a b = go (ltb a b) (ltb→lt a b)
  where
    go : (t : Bool) → (T t → a < b) → nat_abs (cond t (negsuc (b - suc a)) (pos (a - b))) ≤ a + b
    go true h = let l : a < b = h tt in omega arith
    go false h = omega arith

pub nat_abs_sum : (a b : ℤ) → nat_abs (a +ℤ b) ≤ nat_abs a + nat_abs b
nat_abs_sum (pos a) (pos b) = le_refl (a + b)
nat_abs_sum (pos a) (negsuc b) = apart a (suc b)
nat_abs_sum (negsuc a) (pos b) = omega (arith, apart b (suc a))
nat_abs_sum (negsuc a) (negsuc b) = omega arith
