-- What the scan rests on: one sample more of those of which one may pass (`some_next`), bounds and samples in 16 bits are what they were lent as (`as_lent`), and
-- sixty-four samples more are passed over (`block_next`).
use mathlib.Core.Path.{◌≡◌, refl, sym, ap, ap₂, ◌∙◌}
use mathlib.Core.Bool.{Bool, true, false, ◌||◌, true≢false}
use mathlib.Core.List.{List, [], ◌∷◌, ◌++◌, map}
use Prim.Native.Nat.{ℕ, zero, suc, ◌+◌, ◌-◌, ◌<◌, ◌≤◌}
use native.Mathlib.Nat.{add-sub_of_le}
use native.Mathlib.Numerals.{add-one}
use native.Mathlib.Omega.{arith}
use lib.Dec.{ltb}
use lib.IntN.{ℤ, pos}
use lib.ListN.{length, get_or, take}
use lib.Seq.{take-suc}
use mir.Syntax.{w16}
use mir.Val.{SFits, to_z, of_z}
use mir.ValLaws.{to_z-of_z}
use borrow.Author.Tests.{ltb-true, ltb-false}
use Rattle.rules.specs.Numbers.{up_from}
use Rattle.rules.proofs.Thin.{get_or-up_from}
use Rattle.fills.proofs.Writes.{length_map_up}
use Rattle.levels.specs.Levels.{between}
use Rattle.crossings.specs.Answers.{some?}

-- two tests joined fail where both do
or_false : (a b : Bool) → a || b ≡ false → (a ≡ false) × (b ≡ false)
or_false true b e = absurd (true≢false e)
or_false false b e = (refl, e)

-- ---- one of some samples passes a test

module _ (t : ℤ → Bool) where
  some_append : (xs ys : List ℤ) → some? t (xs ++ ys) ≡ some? t xs || some? t ys
  some_append [] ys = refl
  some_append (x ∷ xs) ys = go (t x) (some_append xs ys)
    where
      go : (b : Bool) → some? t (xs ++ ys) ≡ some? t xs || some? t ys → b || some? t (xs ++ ys) ≡ (b || some? t xs) || some? t ys
      go true e = refl
      go false e = e

  -- of one sample more
  pub some_next : (xs : List ℤ) (k : ℕ) → k < length xs → some? t (take k xs) || t (get_or xs k (pos 0)) ≡ some? t (take (k + 1) xs)
  some_next xs k h =
      ap (λ (b : Bool). some? t (take k xs) || b) (sym (alone (t (get_or xs k (pos 0)))))
      ∙ sym (some_append (take k xs) (get_or xs k (pos 0) ∷ []))
      ∙ ap (some? t) (sym (take-suc xs k (pos 0) h) ∙ ap (λ (n : ℕ). take n xs) (sym (add-one k)))
    where
      alone : (b : Bool) → b || false ≡ b
      alone true = refl
      alone false = refl

  -- none does: each fails
  none_some : (xs : List ℤ) → some? t xs ≡ false → (k : ℕ) → k < length xs → t (get_or xs k (pos 0)) ≡ false
  none_some [] e k h = absurd (omega arith)
  none_some (x ∷ xs) e zero h = (or_false (t x) (some? t xs) e).0
  none_some (x ∷ xs) e (suc k) h = none_some xs (or_false (t x) (some? t xs) e).1 k (omega arith)

-- ---- bounds by their bits

abbrev pub bits_between : ℕ → ℕ → ℤ → Bool
bits_between low high z = between (to_z w16 low) (to_z w16 high) z

pub as_lent : (low high z : ℤ) → SFits w16 low → SFits w16 high → between low high z ≡ bits_between (of_z w16 low) (of_z w16 high) z
as_lent low high z l h = ap₂ (λ (x y : ℤ). between x y z) (sym (to_z-of_z w16 low l)) (sym (to_z-of_z w16 high h))

-- sixty-four more samples fail a test
pub block_next : (t : ℤ → Bool) (f : ℕ → ℤ) (xs : List ℤ) (i : ℕ) → xs ≡ map f (up_from i 64) → ((j : ℕ) → j < i → t (f j) ≡ false) → some? t xs ≡ false → (j : ℕ) → j < i + 64 → t (f j) ≡ false
block_next t f xs i e h n j l = go (ltb j i) refl
  where
    go : (b : Bool) → ltb j i ≡ b → t (f j) ≡ false
    go true q = h j (ltb-true j i q)
    go false q =
        let m : i ≤ j = ltb-false j i q in
        ap t (ap f (sym (add-sub_of_le m)) ∙ sym (get_or-up_from f i 64 (j - i) (pos 0) (omega arith)) ∙ ap (λ (ys : List ℤ). get_or ys (j - i) (pos 0)) (sym e))
        ∙ none_some t xs n (j - i) (omega (arith, ap length e, length_map_up f i 64))
