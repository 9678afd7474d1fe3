-- A test of natural numbers that rises: a half of them left out (`from_there`, `up_to_there`), and nothing left between (`edge_met`).
use mathlib.Core.Path.{◌≡◌, refl, sym, ◌∙◌, subst}
use Prim.Native.Nat.{ℕ, ◌≤◌, ◌<◌}
use native.Mathlib.Omega.{arith}
use mathlib.Core.Bool.{Bool, true, false}
use lib.Dec.{T, leb, ltb}
use borrow.Author.Tests.{ltb-true, ltb-false, le-leb, lt-leb}
use Rattle.levels.specs.Levels.{Rises, Edge}

module _ (p : ℕ → Bool) (n : ℕ) (r : Rises p n) where
  -- where the test holds at i, it holds from there on
  pub from_there : (i j : ℕ) → p i ≡ true → i ≤ j → j < n → p j ≡ true
  from_there i j e h l = go (p j) (r i j h l (subst T (sym e) tt))
    where
      go : (b : Bool) → T b → b ≡ true
      go true t = refl
      go false t = absurd t

  -- and where it fails, it fails up to there
  pub up_to_there : (i j : ℕ) → p i ≡ false → j ≤ i → i < n → p j ≡ false
  up_to_there i j e h l = go (p j) (r j i h l)
    where
      go : (b : Bool) → (T b → T (p i)) → b ≡ false
      go true t = absurd (subst T e (t tt))
      go false t = refl

-- nothing is left between
pub edge_met : (p : ℕ → Bool) (n k h : ℕ) → k ≤ h → h ≤ k → h ≤ n → ((j : ℕ) → j < k → p j ≡ false) → ((j : ℕ) → h ≤ j → j < n → p j ≡ true) → Edge p n k
edge_met p n k h a b c f t = (omega arith, λ j l. go j l (ltb j k) refl)
  where
    go : (j : ℕ) → j < n → (x : Bool) → ltb j k ≡ x → p j ≡ leb k j
    go j l true e = f j (ltb-true j k e) ∙ sym (lt-leb k j (ltb-true j k e))
    go j l false e = let m : k ≤ j = ltb-false j k e in t j (omega arith) l ∙ sym (le-leb k j m)
