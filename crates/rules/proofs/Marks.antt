-- Marks: the numbers at the rail (`rails`), the marks of samples in two runs (`marks_append`), no more marks than samples (`marks_few`), and those of a
-- segment by its points (`mark_count-points`).
use mathlib.Core.Path.{◌≡◌, refl, sym, ap, ◌∙◌}
use Prim.Native.Nat.{ℕ, ◌+◌, ◌≤◌}
use native.Mathlib.Nat.{zero-add, add_assoc}
use native.Mathlib.Omega.{arith}
use mathlib.Core.Bool.{Bool, true, false, ◌||◌}
use mathlib.Core.List.{List, [], ◌∷◌, ◌++◌, map}
use lib.ListN.{length, length-map}
use lib.IntN.{ℤ, pos, negsuc}
use Rattle.rules.specs.Numbers.{equal, total, up_from}
use Rattle.rules.specs.Wave.{Wave, size_of, points}
use Rattle.rules.specs.Points.{sample, at_rail, mark, mark_number, mark_count_of, mark_count}
use Rattle.rules.proofs.Thin.{length-up_from}

-- −128 and 127 of a byte, −32,768 and 32,767 of a word, and no others
pub rails : (x : ℤ) → (at_rail 1 x ≡ equal x (negsuc 127) || equal x (pos 127)) × (at_rail 2 x ≡ equal x (negsuc 32767) || equal x (pos 32767))
unfolding at_rail
rails x = (refl, refl)

pub mark_le : (b : Bool) → mark_number b ≤ 1
mark_le true = omega arith
mark_le false = omega arith

module _ (size : ℕ) where
  pub marks_append : (xs ys : List ℤ) → mark_count_of size (xs ++ ys) ≡ mark_count_of size xs + mark_count_of size ys
  unfolding mark_count_of
  marks_append [] ys = sym (zero-add (mark_count_of size ys))
  marks_append (x ∷ xs) ys =
      ap (λ (n : ℕ). mark_number (at_rail size x) + n) (marks_append xs ys) ∙ sym (add_assoc (mark_number (at_rail size x)) (mark_count_of size xs) (mark_count_of size ys))

  marks_le : (xs : List ℤ) → mark_count_of size xs ≤ length xs
  unfolding mark_count_of
  marks_le [] = omega arith
  marks_le (x ∷ xs) = omega (arith, marks_le xs, mark_le (at_rail size x))

  -- of samples f one behind the other there are no more than samples
  pub marks_few : (f : ℕ → ℤ) (a n : ℕ) → mark_count_of size (map f (up_from a n)) ≤ n
  marks_few f a n = omega (arith, marks_le (map f (up_from a n)), length-map (up_from a n) f, length-up_from a n)

-- the count of a segment is the number of its points that have the mark
points_marked : (w : Wave) (a n : ℕ) (ks : List ℕ) → mark_count_of (size_of w.head) (map (sample w a n) ks) ≡ total (map (λ (k : ℕ). mark_number (mark w a n k)) ks)
unfolding mark_count_of mark
points_marked w a n [] = refl
points_marked w a n (k ∷ ks) = ap (λ (m : ℕ). mark_number (at_rail (size_of w.head) (sample w a n k)) + m) (points_marked w a n ks)

pub mark_count-points : (w : Wave) (a n : ℕ) → mark_count w a n ≡ total (map (λ (k : ℕ). mark_number (mark w a n k)) (up_from 0 (points w.head)))
unfolding mark_count
mark_count-points w a n = points_marked w a n (up_from 0 (points w.head))

-- and no more than there are
pub mark_count_le : (w : Wave) (a n : ℕ) → mark_count w a n ≤ points w.head
unfolding mark_count
mark_count_le w a n = marks_few (size_of w.head) (sample w a n) 0 (points w.head)
