-- The sum of some whole numbers: piece by piece (`sum_append`), and bounded by how many there are (`sum-small`).
use mathlib.Core.Path.{◌≡◌, sym, ap, ◌∙◌}
use Prim.Native.Nat.{ℕ, suc, ◌*◌, ◌≤◌, ◌<◌}
use native.Mathlib.Nat.{suc-mul}
use native.Mathlib.Omega.{arith}
use mathlib.Core.List.{List, [], ◌∷◌, ◌++◌}
use lib.ListN.{length, get_or}
use lib.IntN.{ℤ, pos, nat_abs, ◌+ℤ◌, +ℤ_idl, +ℤ_assoc}
use Rattle.columns.specs.Columns.{sum_of}
use Rattle.columns.proofs.Order.{nat_abs_sum}

pub sum_append : (xs ys : List ℤ) → sum_of (xs ++ ys) ≡ sum_of xs +ℤ sum_of ys
unfolding sum_of
sum_append [] ys = sym (+ℤ_idl (sum_of ys))
sum_append (x ∷ xs) ys = ap (λ (z : ℤ). x +ℤ z) (sum_append xs ys) ∙ sym (+ℤ_assoc x (sum_of xs) (sum_of ys))

pub sum-small : (B : ℕ) (xs : List ℤ) → ((k : ℕ) → k < length xs → nat_abs (get_or xs k (pos 0)) ≤ B) → nat_abs (sum_of xs) ≤ length xs * B
unfolding sum_of
sum-small B [] h = omega arith
sum-small B (x ∷ xs) h = omega (arith, nat_abs_sum x (sum_of xs), h 0 (omega arith), sum-small B xs (λ k l. h (suc k) (omega arith)), suc-mul (length xs) B)
