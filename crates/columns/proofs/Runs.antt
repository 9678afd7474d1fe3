-- Samples one behind the other: two runs are one (`run_join`), and what is first of a run (`run-first`, `run_is`).
use mathlib.Core.Path.{◌≡◌, sym, ap, ap₂, ◌∙◌, subst}
use Prim.Native.Nat.{ℕ, zero, suc, ◌+◌, ◌-◌, ◌≤◌, ◌<◌}
use native.Mathlib.Nat.{add-sub_of_le}
use native.Mathlib.Omega.{arith}
use mathlib.Core.Bool.{Bool}
use mathlib.Core.List.{List, ◌∷◌, [], ◌++◌, map}
use lib.ListN.{length, get_or, length-map}
use lib.Dec.{T}
use lib.IntN.{ℤ, pos}
use Rattle.rules.specs.Numbers.{up_from}
use Rattle.rules.proofs.Thin.{length-up_from, get_or-up_from}
use Rattle.columns.specs.Columns.{joined, run}
use Rattle.columns.proofs.Extremes.{Picks, joined_is, joined-first}

module _ (f : ℕ → ℤ) where
  pub run_length : (a b : ℕ) → length (run f a b) ≡ b - a
  run_length a b = length-map (up_from a (b - a)) f ∙ length-up_from a (b - a)

  pub run_at : (a b k : ℕ) → a ≤ k → k < b → get_or (run f a b) (k - a) (pos 0) ≡ f k
  run_at a b k h l = get_or-up_from f a (b - a) (k - a) (pos 0) (omega arith) ∙ ap f (add-sub_of_le h)

  pub run_none : (a : ℕ) → run f a a ≡ []
  unfolding up_from
  run_none a = let e : a - a ≡ 0 = omega arith in ap (λ (n : ℕ). map f (up_from a n)) e

  pub run-one : (a : ℕ) → run f a (a + 1) ≡ f a ∷ []
  unfolding up_from
  run-one a = let e : a + 1 - a ≡ 1 = omega arith in ap (λ (n : ℕ). map f (up_from a n)) e

  more : (a n m : ℕ) → map f (up_from a n) ++ map f (up_from (a + n) m) ≡ map f (up_from a (n + m))
  unfolding up_from
  more a zero m = let e : a + 0 ≡ a = omega arith in let z : m ≡ 0 + m = omega arith in ap₂ (λ (x y : ℕ). map f (up_from x y)) e z
  more a (suc n) m =
      let e : a + suc n ≡ suc a + n = omega arith in
      let s : suc (n + m) ≡ suc n + m = omega arith in
      ap (λ (x : ℕ). f a ∷ map f (up_from (suc a) n) ++ map f (up_from x m)) e ∙ ap (λ (r : List ℤ). f a ∷ r) (more (suc a) n m) ∙ ap (λ (x : ℕ). map f (up_from a x)) s

  pub run_join : (a b c : ℕ) → a ≤ b → b ≤ c → run f a b ++ run f b c ≡ run f a c
  run_join a b c h l =
      let e : b ≡ a + (b - a) = omega arith in
      let s : b - a + (c - b) ≡ c - a = omega arith in
      ap (λ (x : ℕ). run f a b ++ map f (up_from x (c - b))) e ∙ more a (b - a) (c - b) ∙ ap (λ (x : ℕ). map f (up_from a x)) s

  -- what stands first of a run stands before each of its samples, and is one of them
  module _ (op : ℤ → ℤ → ℤ) (R : ℤ → ℤ → Bool) (p : Picks op R) (a b : ℕ) where
    pub run-first : (k : ℕ) → a ≤ k → k < b → T (R (joined op (run f a b)) (f k))
    run-first k h l = subst (λ (x : ℤ). T (R (joined op (run f a b)) x)) (run_at a b k h l) (joined-first op R p (run f a b) (k - a) (omega (arith, run_length a b)))

    pub run_is : a < b → (k : ℕ) × (a ≤ k) × (k < b) × (f k ≡ joined op (run f a b))
    run_is h =
        let j = joined_is op R p (run f a b) (omega (arith, run_length a b)) in
        let l : j.0 < b - a = omega (arith, j.1, run_length a b) in
        (a + j.0, omega arith, omega (arith, l), sym (get_or-up_from f a (b - a) j.0 (pos 0) l) ∙ j.2)
