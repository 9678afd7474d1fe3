-- Marks of samples: two numbers pass for the same exactly where they are (`equal_refl`, `equal-same`), a sample is at the rail by its bits (`rail_bits`), and a count of marks goes on
-- behind what is counted (`marks_next`, `marks_more`, `marks-one`).
use mathlib.Core.Path.{◌≡◌, refl, sym, ap, ap₂, subst, ◌∙◌}
use mathlib.Core.Bool.{Bool, true, false, ◌||◌, false≢true}
use mathlib.Core.List.{List, [], ◌∷◌, map}
use Prim.Native.Nat.{ℕ, ◌+◌, ◌<◌}
use native.Mathlib.Nat.{add-zero}
use native.Mathlib.Numerals.{add-one}
use lib.Dec.{eqb}
use lib.IntN.{ℤ, pos, negsuc}
use lib.ListN.{length, take, get_or}
use lib.Seq.{take-suc}
use borrow.Author.Tests.{eqb-true, eqb-false, eq-eqb}
use mir.Syntax.{Width}
use mir.Val.{SFits, to_z, of_z}
use mir.ValLaws.{to_z-of_z}
use Rattle.rules.specs.Numbers.{lowest, highest, equal, up_from}
use Rattle.rules.specs.Points.{at_rail, mark_number, mark_count_of}
use Rattle.rules.proofs.Marks.{marks_append}
use Rattle.fills.proofs.Writes.{map_add}

-- ---- numbers by their bits

pub equal_refl : (x : ℤ) → equal x x ≡ true
equal_refl (pos n) = eq-eqb n n refl
equal_refl (negsuc n) = eq-eqb n n refl

pub equal-same : (x y : ℤ) → equal x y ≡ true → x ≡ y
equal-same (pos m) (pos n) e = ap pos (eqb-true m n e)
equal-same (pos m) (negsuc n) e = absurd (false≢true e)
equal-same (negsuc m) (pos n) e = absurd (false≢true e)
equal-same (negsuc m) (negsuc n) e = ap negsuc (eqb-true m n e)

bits-equal : (w : Width) (x y : ℤ) → SFits w x → SFits w y → eqb (of_z w x) (of_z w y) ≡ equal x y
bits-equal w x y f g = go (eqb (of_z w x) (of_z w y)) refl (equal x y) refl
  where
    go : (a : Bool) → eqb (of_z w x) (of_z w y) ≡ a → (b : Bool) → equal x y ≡ b → a ≡ b
    go true p true q = refl
    go false p false q = refl
    go true p false q =
        let e : x ≡ y = sym (to_z-of_z w x f) ∙ ap (to_z w) (eqb-true (of_z w x) (of_z w y) p) ∙ to_z-of_z w y g in
        sym (subst (λ (z : ℤ). equal x z ≡ true) e (equal_refl x)) ∙ q
    go false p true q = absurd (eqb-false (of_z w x) (of_z w y) p (ap (of_z w) (equal-same x y q)))

-- a sample's bits are those of one of the two numbers of its type
pub rail_bits : (w : Width) (size : ℕ) (z low high : ℤ) → SFits w z → SFits w low → SFits w high → low ≡ lowest size → high ≡ highest size
    → eqb (of_z w z) (of_z w low) || eqb (of_z w z) (of_z w high) ≡ at_rail size z
unfolding at_rail
rail_bits w size z low high f g h e d =
    ap₂ {C = Bool} (λ x y. x || y) (bits-equal w z low f g) (bits-equal w z high f h) ∙ (λ i. equal z (e i) || equal z (d i))

-- ---- counts

-- of one sample more
pub marks_next : (size : ℕ) (xs : List ℤ) (k : ℕ) → k < length xs → mark_count_of size (take k xs) + mark_number (at_rail size (get_or xs k (pos 0))) ≡ mark_count_of size (take (k + 1) xs)
unfolding mark_count_of
marks_next size xs k h =
    ap (λ (n : ℕ). mark_count_of size (take k xs) + n) (sym (add-zero (mark_number (at_rail size (get_or xs k (pos 0))))))
    ∙ sym (marks_append size (take k xs) (get_or xs k (pos 0) ∷ []))
    ∙ ap (mark_count_of size) (sym (take-suc xs k (pos 0) h) ∙ ap (λ (n : ℕ). take n xs) (sym (add-one k)))

-- of samples f one behind the other
module _ (size : ℕ) (f : ℕ → ℤ) where
  -- m of i samples, and r of n more, from the one numbered j; and of one more
  pub marks_more : (a i n j m r : ℕ) (xs : List ℤ) → j ≡ a + i → m ≡ mark_count_of size (map f (up_from a i)) → xs ≡ map f (up_from j n) → r ≡ mark_count_of size xs → m + r ≡ mark_count_of size (map f (up_from a (i + n)))
  marks_more a i n j m r xs e p q h =
      ap₂ {C = ℕ} (λ x y. x + y) p (h ∙ ap (mark_count_of size) (q ∙ ap (λ (k : ℕ). map f (up_from k n)) e))
      ∙ sym (marks_append size (map f (up_from a i)) (map f (up_from (a + i) n)))
      ∙ ap (mark_count_of size) (sym (map_add f a i n))

  pub marks-one : (a i j m r : ℕ) (z : ℤ) → j ≡ a + i → m ≡ mark_count_of size (map f (up_from a i)) → z ≡ f j → r ≡ mark_number (at_rail size z) → m + r ≡ mark_count_of size (map f (up_from a (i + 1)))
  unfolding up_from mark_count_of
  marks-one a i j m r z e p q h = marks_more a i 1 j m r (z ∷ []) e p (ap (λ (x : ℤ). x ∷ []) q) (h ∙ sym (add-zero (mark_number (at_rail size z))))
