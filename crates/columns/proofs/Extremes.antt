-- The least and the greatest of some whole numbers, both by one law: `lesser` and `greater` pick one of two that stands before, or behind, the other.
-- So `joined` is the number that stands first of all (`joined_is`, `joined-first`), it may be taken piece by piece (`joined_append`, `joined-flatten`), and a
-- number that stands behind it changes nothing (`joined-bound`).
use mathlib.Core.Path.{◌≡◌, refl, sym, ap, ◌∙◌, subst}
use mathlib.Core.Logic.{◌⊎◌, inl, inr}
use Prim.Native.Nat.{ℕ, zero, suc, ◌<◌}
use native.Mathlib.Omega.{arith}
use mathlib.Core.Bool.{Bool, true, false, not, cond}
use mathlib.Core.List.{List, [], ◌∷◌, ◌++◌, map, flatten, append-nil}
use lib.ListN.{length, get_or, length-append}
use lib.Dec.{T}
use lib.IntN.{ℤ, pos}
use lib.Signed.{le_z}
use Rattle.columns.specs.Columns.{lesser, greater, joined}
use Rattle.columns.proofs.Order.{le_ℤ_refl, le_ℤ_trans, le_ℤ_antisymm, le_ℤ_total}

-- an operation that picks, of two numbers, the one that stands before the other in an order R
pub record Picks (op : ℤ → ℤ → ℤ) (R : ℤ → ℤ → Bool) : Type 0 where
  pub same : (x : ℤ) → T (R x x)
  pub through : (x y z : ℤ) → T (R x y) → T (R y z) → T (R x z)
  pub both : (x y : ℤ) → T (R x y) → T (R y x) → x ≡ y
  pub one : (x y : ℤ) → (op x y ≡ x) ⊎ (op x y ≡ y)
  pub left : (x y : ℤ) → T (R (op x y) x)
  pub right : (x y : ℤ) → T (R (op x y) y)

pub picks_lesser : Picks lesser le_z
unfolding lesser
picks_lesser = record {
  same = le_ℤ_refl;
  through = le_ℤ_trans;
  both = le_ℤ_antisymm;
  one = λ x y. one x y (le_z x y);
  left = λ x y. left x y (le_z x y) (le_ℤ_total x y);
  right = λ x y. right x y (le_z x y) (λ t. t);
}
  where
    one : (x y : ℤ) (b : Bool) → (cond b x y ≡ x) ⊎ (cond b x y ≡ y)
    one x y true = inl refl
    one x y false = inr refl

    left : (x y : ℤ) (b : Bool) → (T (not b) → T (le_z y x)) → T (le_z (cond b x y) x)
    left x y true h = le_ℤ_refl x
    left x y false h = h tt

    right : (x y : ℤ) (b : Bool) → (T b → T (le_z x y)) → T (le_z (cond b x y) y)
    right x y true h = h tt
    right x y false h = le_ℤ_refl y

-- the order turned round
abbrev pub ge_ℤ : ℤ → ℤ → Bool
ge_ℤ x y = le_z y x

pub picks_greater : Picks greater ge_ℤ
unfolding greater
picks_greater = record {
  same = le_ℤ_refl;
  through = λ x y z h k. le_ℤ_trans z y x k h;
  both = λ x y h k. le_ℤ_antisymm x y k h;
  one = λ x y. one x y (le_z x y);
  left = λ x y. left x y (le_z x y) (λ t. t);
  right = λ x y. right x y (le_z x y) (le_ℤ_total x y);
}
  where
    one : (x y : ℤ) (b : Bool) → (cond b y x ≡ x) ⊎ (cond b y x ≡ y)
    one x y true = inr refl
    one x y false = inl refl

    left : (x y : ℤ) (b : Bool) → (T b → T (le_z x y)) → T (le_z x (cond b y x))
    left x y true h = h tt
    left x y false h = le_ℤ_refl x

    right : (x y : ℤ) (b : Bool) → (T (not b) → T (le_z y x)) → T (le_z y (cond b y x))
    right x y true h = le_ℤ_refl y
    right x y false h = h tt

-- every list of a list has an element
abbrev pub Filled : List (List ℤ) → Type 0
Filled [] = Unit {0}
Filled (r ∷ rs) = (0 < length r) × Filled rs

module _ (op : ℤ → ℤ → ℤ) (R : ℤ → ℤ → Bool) (p : Picks op R) where
  -- what stands before two numbers stands before the one picked
  meet : (u x y : ℤ) → T (R u x) → T (R u y) → T (R u (op x y))
  meet u x y h k = go (p.one x y)
    where
      go : (op x y ≡ x) ⊎ (op x y ≡ y) → T (R u (op x y))
      go (inl e) = subst (λ (z : ℤ). T (R u z)) (sym e) h
      go (inr e) = subst (λ (z : ℤ). T (R u z)) (sym e) k

  pub assoc : (x y z : ℤ) → op x (op y z) ≡ op (op x y) z
  assoc x y z =
      p.both (op x (op y z)) (op (op x y) z)
      (meet (op x (op y z)) (op x y) z
      (meet (op x (op y z)) x y (p.left x (op y z)) (p.through (op x (op y z)) (op y z) y (p.right x (op y z)) (p.left y z)))
      (p.through (op x (op y z)) (op y z) z (p.right x (op y z)) (p.right y z)))
      (meet (op (op x y) z) x (op y z)
      (p.through (op (op x y) z) (op x y) x (p.left (op x y) z) (p.left x y))
      (meet (op (op x y) z) y z (p.through (op (op x y) z) (op x y) y (p.left (op x y) z) (p.right x y)) (p.right (op x y) z)))

  -- ---- pieces

  pub joined_append : (xs ys : List ℤ) → 0 < length xs → 0 < length ys → joined op (xs ++ ys) ≡ op (joined op xs) (joined op ys)
  unfolding joined
  joined_append [] ys h k = absurd (omega arith)
  joined_append (x ∷ xs) [] h k = absurd (omega arith)
  joined_append (x ∷ []) (y ∷ ys) h k = refl
  joined_append (x ∷ z ∷ zs) (y ∷ ys) h k = ap (op x) (joined_append (z ∷ zs) (y ∷ ys) (omega arith) k) ∙ assoc x (joined op (z ∷ zs)) (joined op (y ∷ ys))

  pub joined-flatten : (rs : List (List ℤ)) → Filled rs → joined op (map (joined op) rs) ≡ joined op (flatten rs)
  unfolding joined flatten
  joined-flatten [] f = refl
  joined-flatten (r ∷ []) f = ap (joined op) (sym (append-nil r))
  joined-flatten (r ∷ q ∷ qs) f =
      ap (op (joined op r)) (joined-flatten (q ∷ qs) f.1) ∙ sym (joined_append r (q ++ flatten qs) f.0 (omega (arith, length-append q (flatten qs), f.1.0)))

  -- ---- it is one of the numbers, and stands before each of them

  pub joined_is : (xs : List ℤ) → 0 < length xs → (k : ℕ) × (k < length xs) × (get_or xs k (pos 0) ≡ joined op xs)
  unfolding joined
  joined_is [] h = absurd (omega arith)
  joined_is (x ∷ []) h = (0, omega arith, refl)
  joined_is (x ∷ y ∷ ys) h = go (p.one x (joined op (y ∷ ys))) (joined_is (y ∷ ys) (omega arith))
    where
      go : (op x (joined op (y ∷ ys)) ≡ x) ⊎ (op x (joined op (y ∷ ys)) ≡ joined op (y ∷ ys)) → (k : ℕ) × (k < length (y ∷ ys)) × (get_or (y ∷ ys) k (pos 0) ≡ joined op (y ∷ ys))
          → (k : ℕ) × (k < length (x ∷ y ∷ ys)) × (get_or (x ∷ y ∷ ys) k (pos 0) ≡ op x (joined op (y ∷ ys)))
      go (inl e) i = (0, omega arith, sym e)
      go (inr e) i = (suc i.0, omega (arith, i.1), i.2 ∙ sym e)

  pub joined-first : (xs : List ℤ) (k : ℕ) → k < length xs → T (R (joined op xs) (get_or xs k (pos 0)))
  unfolding joined
  joined-first [] k h = absurd (omega arith)
  joined-first (x ∷ []) zero h = p.same x
  joined-first (x ∷ []) (suc k) h = absurd (omega arith)
  joined-first (x ∷ y ∷ ys) zero h = p.left x (joined op (y ∷ ys))
  joined-first (x ∷ y ∷ ys) (suc k) h =
      p.through (op x (joined op (y ∷ ys))) (joined op (y ∷ ys)) (get_or (y ∷ ys) k (pos 0)) (p.right x (joined op (y ∷ ys))) (joined-first (y ∷ ys) k (omega arith))

  -- a number behind the one that stands first changes nothing
  pub joined-bound : (u : ℤ) (xs : List ℤ) → 0 < length xs → T (R (joined op xs) u) → joined op (u ∷ xs) ≡ joined op xs
  unfolding joined
  joined-bound u [] h k = absurd (omega arith)
  joined-bound u (y ∷ ys) h k = go (p.one u (joined op (y ∷ ys)))
    where
      go : (op u (joined op (y ∷ ys)) ≡ u) ⊎ (op u (joined op (y ∷ ys)) ≡ joined op (y ∷ ys)) → op u (joined op (y ∷ ys)) ≡ joined op (y ∷ ys)
      go (inl e) = e ∙ sym (p.both (joined op (y ∷ ys)) u k (subst (λ (z : ℤ). T (R z (joined op (y ∷ ys)))) e (p.right u (joined op (y ∷ ys)))))
      go (inr e) = e
