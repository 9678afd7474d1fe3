-- The library's lesser and greater of two are the columns' (`lesser_is`, `greater_is`), of numbers read as 16 bits too (`lesser_read`,
-- `greater_read`), in either order (`greater_turned`); and its number of a test is a mark (`mark_is`).
use mathlib.Core.Path.{◌≡◌, refl, sym, ap, ap₂, ◌∙◌, subst}
use mathlib.Core.Logic.{inl, inr}
use Prim.Native.Nat.{ℕ}
use native.Mathlib.Omega.{arith}
use mathlib.Core.Bool.{Bool, true, false, not, cond}
use lib.Dec.{T, ltb, leb}
use lib.IntN.{ℤ, pos, negsuc}
use lib.Signed.{lt_z, le_z}
use mir.Syntax.{w16}
use mir.Val.{SFits, bool_byte, to_z, of_z}
use mir.ValLaws.{to_z-of_z}
use Rattle.std.proofs.lemmas.Bool.Decides.{nat_tests}
use Rattle.std.specs.Int.{int_min, int_max}
use Rattle.rules.specs.Points.{mark_number}
use Rattle.columns.specs.Columns.{lesser, greater}
use Rattle.columns.proofs.Extremes.{picks_greater, ge_ℤ}

over : (m n : ℕ) → ltb n m ≡ not (leb m n)
over m n = grind (arith, nat_tests)

over_ℤ : (x y : ℤ) → lt_z y x ≡ not (le_z x y)
over_ℤ (pos m) (pos n) = over m n
over_ℤ (pos m) (negsuc n) = refl
over_ℤ (negsuc m) (pos n) = refl
over_ℤ (negsuc m) (negsuc n) = over n m

turned : (b : Bool) (x y : ℤ) → cond (not b) x y ≡ cond b y x
turned true x y = refl
turned false x y = refl

pub lesser_is : (x y : ℤ) → int_min x y ≡ lesser x y
unfolding lesser
lesser_is x y = ap (λ (b : Bool). cond b y x) (over_ℤ x y) ∙ turned (le_z x y) y x

pub greater_is : (x y : ℤ) → int_max x y ≡ greater x y
unfolding greater
greater_is x y = ap (λ (b : Bool). cond b x y) (over_ℤ x y) ∙ turned (le_z x y) x y

-- the greater of two is the greater the other way round
pub greater_turned : (x y : ℤ) → greater x y ≡ greater y x
greater_turned x y = picks_greater.both (greater x y) (greater y x) (above x y) (above y x)
  where
    above : (x y : ℤ) → T (ge_ℤ (greater x y) (greater y x))
    above x y =
        let p = picks_greater in
        elim (p.one y x) [
          | inl e ↦ subst (λ (z : ℤ). T (ge_ℤ (greater x y) z)) (sym e) (p.right x y)
          | inr e ↦ subst (λ (z : ℤ). T (ge_ℤ (greater x y) z)) (sym e) (p.left x y)
        ]

-- a number of 16 bits is read as itself
abbrev pub read : ℤ → ℤ
read z = to_z w16 (of_z w16 z)

-- the one picked of two that are read
module _ (x y r : ℤ) (fx : SFits w16 x) (fy : SFits w16 y) (fr : SFits w16 r) where
  picked : (op : ℤ → ℤ → ℤ) → r ≡ op (read x) (read y) → read r ≡ op x y
  picked op e = to_z-of_z w16 r fr ∙ e ∙ ap₂ op (to_z-of_z w16 x fx) (to_z-of_z w16 y fy)

  pub lesser_read : r ≡ int_min (read x) (read y) → read r ≡ lesser x y
  lesser_read e = picked lesser (e ∙ lesser_is (read x) (read y))

  pub greater_read : r ≡ int_max (read x) (read y) → read r ≡ greater x y
  greater_read e = picked greater (e ∙ greater_is (read x) (read y))

-- and the number of a test is its mark
pub mark_is : (b : Bool) → bool_byte b ≡ mark_number b
mark_is true = refl
mark_is false = refl
