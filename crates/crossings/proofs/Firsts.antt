-- The first number that passes a test, and that it is the one the definition finds (`found_at`, `found_none`); and back (`at_found`, `none_found`).
use mathlib.Core.Path.{◌≡◌, refl, sym, ap, ◌∙◌}
use Prim.Native.Nat.{ℕ, zero, suc, ◌+◌, ◌≤◌, ◌<◌}
use native.Mathlib.Omega.{arith}
use mathlib.Core.Bool.{Bool, true, false, cond}
use mathlib.Core.Option.{none, some, some-injective, none-ne-some, some-ne-none}
use lib.Dec.{ltb}
use borrow.Author.Tests.{ltb-true, ltb-false}
use Rattle.crossings.specs.Crossings.{first_from}
use Rattle.crossings.specs.Answers.{First}

-- none of the numbers from i up to k passes
abbrev Fails : (ℕ → Bool) → ℕ → ℕ → Type 0
Fails test i k = (j : ℕ) → i ≤ j → j < k → test j ≡ false

module _ (test : ℕ → Bool) where
  -- the test of i decides
  decides : (i n : ℕ) (b : Bool) → test i ≡ b → first_from test i (suc n) ≡ cond b (some i) (first_from test (suc i) n)
  unfolding first_from
  decides i n b e = ap (λ (t : Bool). cond t (some i) (first_from test (suc i) n)) e

  from_at : (n i k : ℕ) → i ≤ k → k < i + n → test k ≡ true → Fails test i k → first_from test i n ≡ some k
  from_at zero i k l h t f = absurd (omega arith)
  from_at (suc n) i k l h t f = go (ltb i k) refl (λ m. from_at n (suc i) k m (omega arith) t (λ j p q. f j (omega arith) q))
    where
      go : (b : Bool) → ltb i k ≡ b → (i < k → first_from test (suc i) n ≡ some k) → first_from test i (suc n) ≡ some k
      go true e r = let m = ltb-true i k e in decides i n false (f i (omega arith) m) ∙ r m
      go false e r = let q : i ≡ k = omega (arith, ltb-false i k e) in decides i n true (ap test q ∙ t) ∙ ap some q

  from_none : (n i : ℕ) → Fails test i (i + n) → first_from test i n ≡ none
  unfolding first_from
  from_none zero i f = refl
  from_none (suc n) i f = decides i n false (f i (omega arith) (omega arith)) ∙ from_none n (suc i) (λ j p q. f j (omega arith) (omega arith))

  -- and back
  further : (i k : ℕ) → test i ≡ false → Fails test (suc i) k → Fails test i k
  further i k e f j p q = go (ltb i j) refl
    where
      go : (b : Bool) → ltb i j ≡ b → test j ≡ false
      go true l = f j (ltb-true i j l) q
      go false l = let r : i ≡ j = omega (arith, ltb-false i j l) in ap test (sym r) ∙ e

  at_from : (n i k : ℕ) → first_from test i n ≡ some k → (k < i + n) × (test k ≡ true) × Fails test i k
  unfolding first_from
  at_from zero i k e = absurd (none-ne-some k e)
  at_from (suc n) i k e = go (test i) refl (at_from n (suc i) k)
    where
      go : (b : Bool) → test i ≡ b → (first_from test (suc i) n ≡ some k → (k < suc i + n) × (test k ≡ true) × Fails test (suc i) k) → (k < i + suc n) × (test k ≡ true) × Fails test i k
      go true t ih = let q : i ≡ k = some-injective i k (sym (decides i n true t) ∙ e) in (omega arith, ap test (sym q) ∙ t, λ j p r. absurd (omega arith))
      go false t ih = let r = ih (sym (decides i n false t) ∙ e) in (omega (arith, r.0), r.1, further i k t r.2)

  none_from : (n i : ℕ) → first_from test i n ≡ none → Fails test i (i + n)
  none_from zero i e = λ j p q. absurd (omega arith)
  none_from (suc n) i e = go (test i) refl (none_from n (suc i))
    where
      go : (b : Bool) → test i ≡ b → (first_from test (suc i) n ≡ none → Fails test (suc i) (suc i + n)) → Fails test i (i + suc n)
      go true t ih = absurd (some-ne-none i (sym (decides i n true t) ∙ e))
      go false t ih = further i (i + suc n) t (λ j p q. ih (sym (decides i n false t) ∙ e) j p (omega arith))

  -- ---- of the numbers below n

  module _ (n : ℕ) where
    pub found_at : (k : ℕ) → First test n k → k < n → first_from test 0 n ≡ some k
    found_at k f h = from_at n 0 k (omega arith) (omega arith) (f.passes h) (λ j p q. f.fails j q)

    pub found_none : (k : ℕ) → First test n k → n ≤ k → first_from test 0 n ≡ none
    found_none k f h = from_none n 0 (λ j p q. f.fails j (omega arith))

    pub at_found : (k : ℕ) → first_from test 0 n ≡ some k → First test n k × (k < n)
    at_found k e = let r = at_from n 0 k e in (record { within = omega (arith, r.0); passes = λ h. r.1; fails = λ j h. r.2 j (omega arith) h }, omega (arith, r.0))

    pub none_found : first_from test 0 n ≡ none → First test n n
    none_found e = record { within = omega arith; passes = λ h. absurd (omega arith); fails = λ j h. none_from n 0 e j (omega arith) (omega arith) }

-- the same number is the first of two tests that agree
pub agreeing : (t u : ℕ → Bool) (n k : ℕ) → ((j : ℕ) → j < n → t j ≡ u j) → First t n k → First u n k
agreeing t u n k e f =
    record { within = f.within; passes = λ h. sym (e k h) ∙ f.passes h; fails = λ j h. sym (e j (omega (arith, f.within))) ∙ f.fails j h }
