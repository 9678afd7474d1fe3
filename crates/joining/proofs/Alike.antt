-- Parts whose `common` is the same have the same descriptor but for SEGMENT_INDEX and the same user text (`heads_alike`, `texts_alike`), and the other way round (`common-alike`).
use mathlib.Core.Path.{◌≡◌, refl, sym, ap, ap₂, ◌∙◌, subst}
use Prim.Native.Nat.{ℕ, zero, suc, ◌+◌, ◌-◌, ◌^◌, ◌≤◌, ◌<◌}
use native.Mathlib.Nat.{pow-zero}
use native.Mathlib.Omega.{arith}
use mathlib.Core.Bool.{Bool, true, false, cond}
use mathlib.Core.List.{List, [], ◌∷◌, ◌++◌, map, head-eq_of_cons-eq, tail-eq_of_cons-eq}
use lib.Dec.{ltb, eqb}
use borrow.Author.Tests.{ltb-true, ltb-false, eqb-true, eqb-false}
use Rattle.rules.specs.Numbers.{up_from, total}
use Rattle.rules.specs.Template.{template, width_at}
use Rattle.rules.specs.Rules.{opened}
use Rattle.rules.proofs.Template.{total-template}
use Rattle.rules.proofs.Waves.{Fits}
use Rattle.joining.specs.Join.{common}
use Rattle.joining.proofs.Lists.{map-up_from}

-- the values of two functions from i on, n of them, and what is behind them
apart : (f g : ℕ → ℕ) (x y : List ℕ) (i n : ℕ) → map f (up_from i n) ++ x ≡ map g (up_from i n) ++ y → ((k : ℕ) → i ≤ k → k < i + n → f k ≡ g k) × (x ≡ y)
unfolding up_from
apart f g x y i zero e = (λ k l h. absurd (omega arith), e)
apart f g x y i (suc n) e = go (apart f g x y (suc i) n (tail-eq_of_cons-eq e))
  where
    go : ((k : ℕ) → suc i ≤ k → k < suc i + n → f k ≡ g k) × (x ≡ y) → ((k : ℕ) → i ≤ k → k < i + suc n → f k ≡ g k) × (x ≡ y)
    go r = (λ k l h. at k l h (eqb k i) refl, r.1)
      where
        at : (k : ℕ) → i ≤ k → k < i + suc n → (t : Bool) → eqb k i ≡ t → f k ≡ g k
        at k l h true q = subst (λ (j : ℕ). f j ≡ g j) (sym (eqb-true k i q)) (head-eq_of_cons-eq e)
        at k l h false q = r.0 k (omega (arith, eqb-false k i q)) (omega arith)

-- past the last field there is none
pub width_past : (ws : List ℕ) (k : ℕ) → total ws ≤ k → width_at ws k ≡ 0
unfolding width_at
width_past [] k h = refl
width_past (w ∷ ws) k h = go (eqb k 0) refl (ltb k w) refl (width_past ws (k - w))
  where
    go : (s : Bool) → eqb k 0 ≡ s → (t : Bool) → ltb k w ≡ t → (total ws ≤ k - w → width_at ws (k - w) ≡ 0) → cond s w (cond t 0 (width_at ws (k - w))) ≡ 0
    go true e t f ih = omega (arith, eqb-true k 0 e)
    go false e true f ih = refl
    go false e false f ih = ih (omega (arith, ltb-false k w f))

head_past : (h : ℕ → ℕ) → ((k : ℕ) → h k < 256 ^ width_at template k) → (k : ℕ) → 346 ≤ k → h k ≡ 0
head_past h fit k l =
    let w : width_at template k ≡ 0 = width_past template k (omega (arith, total-template)) in
    let e : 256 ^ width_at template k ≡ 1 = ap (λ (n : ℕ). 256 ^ n) w ∙ pow-zero 256 in
    omega (arith, fit k)

module _ (p q : List ℕ) (e : common p ≡ common q) where
  pub heads_alike : Fits (opened p) → Fits (opened q) → (k : ℕ) → eqb k 140 ≡ false → (opened p).head k ≡ (opened q).head k
  heads_alike fp fq k n = go (ltb k 346) refl
    where
      without : ((k : ℕ) → 0 ≤ k → k < 0 + 346 → cond (eqb k 140) 0 ((opened p).head k) ≡ cond (eqb k 140) 0 ((opened q).head k))
      without = (apart (λ k. cond (eqb k 140) 0 ((opened p).head k)) (λ k. cond (eqb k 140) 0 ((opened q).head k)) (opened p).text (opened q).text 0 346 e).0

      go : (t : Bool) → ltb k 346 ≡ t → (opened p).head k ≡ (opened q).head k
      go true l = subst (λ (t : Bool). cond t 0 ((opened p).head k) ≡ cond t 0 ((opened q).head k)) n (without k (omega arith) (omega (arith, ltb-true k 346 l)))
      go false l = head_past (opened p).head fp.fit k (ltb-false k 346 l) ∙ sym (head_past (opened q).head fq.fit k (ltb-false k 346 l))

  pub texts_alike : (opened p).text ≡ (opened q).text
  texts_alike = (apart (λ k. cond (eqb k 140) 0 ((opened p).head k)) (λ k. cond (eqb k 140) 0 ((opened q).head k)) (opened p).text (opened q).text 0 346 e).1

pub common-alike : (p q : List ℕ) → ((k : ℕ) → eqb k 140 ≡ false → (opened p).head k ≡ (opened q).head k) → (opened p).text ≡ (opened q).text → common p ≡ common q
common-alike p q h t =
    ap₂ {C = List ℕ} (λ a b. a ++ b) (map-up_from (λ k. cond (eqb k 140) 0 ((opened p).head k)) (λ k. cond (eqb k 140) 0 ((opened q).head k)) 0 346 (λ k l m. go k (eqb k 140) refl)) t
  where
    go : (k : ℕ) (t : Bool) → eqb k 140 ≡ t → cond t 0 ((opened p).head k) ≡ cond t 0 ((opened q).head k)
    go k true e = refl
    go k false e = h k e
