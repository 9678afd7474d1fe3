-- Samples one behind the other: their least, their greatest and their sum; and the columns that a segment is drawn in. Definitions only.
use Rattle.std.specs.Prelude.{ℕ, suc, ◌-◌, ◌*◌, ◌/◌, ◌≤◌, ◌<◌, cond, List, [], ◌∷◌, map, ℤ, pos, ◌+ℤ◌}
use Rattle.std.specs.Int.Signed.{le_z}
use Rattle.rules.specs.Numbers.{up_from}

-- ---- whole numbers

-- the lesser of two, and the greater
unfoldable pub lesser : ℤ → ℤ → ℤ
lesser x y = cond (le_z x y) x y

unfoldable pub greater : ℤ → ℤ → ℤ
greater x y = cond (le_z x y) y x

-- several joined by an operation on two, and so the least and the greatest of some
unfoldable pub joined : (ℤ → ℤ → ℤ) → List ℤ → ℤ
joined op [] = pos 0
joined op (x ∷ []) = x
joined op (x ∷ y ∷ ys) = op x (joined op (y ∷ ys))

abbrev pub least : List ℤ → ℤ
least xs = joined lesser xs

abbrev pub greatest : List ℤ → ℤ
greatest xs = joined greater xs

-- their sum
unfoldable pub sum_of : List ℤ → ℤ
sum_of [] = pos 0
sum_of (x ∷ xs) = x +ℤ sum_of xs

-- neighbouring pairs joined
unfoldable pub pairs : (ℤ → ℤ → ℤ) → List ℤ → List ℤ
pairs op [] = []
pairs op (x ∷ []) = x ∷ []
pairs op (x ∷ y ∷ ys) = op x y ∷ pairs op ys

-- ---- columns

-- the samples f of the points from a up to but not including b
abbrev pub run : (ℕ → ℤ) → ℕ → ℕ → List ℤ
run f a b = map f (up_from a (b - a))

-- floor(q·m/w): where column q of w starts among m points, and where the one before it ends
unfoldable pub start : ℕ → ℕ → ℕ → ℕ
start m w q = q * m / w

-- point k is in column q
pub record InColumn (m w k q : ℕ) : Type 0 where
  pub column : q < w
  pub from : start m w q ≤ k
  pub to : k < start m w (suc q)

-- the samples of column q; and the least of each of the w columns, or the greatest
abbrev pub column : (ℕ → ℤ) → ℕ → ℕ → ℕ → List ℤ
column f m w q = run f (start m w q) (start m w (suc q))

abbrev pub columns : (ℤ → ℤ → ℤ) → (ℕ → ℤ) → ℕ → ℕ → List ℤ
columns op f m w = map (λ q. joined op (column f m w q)) (up_from 0 w)
