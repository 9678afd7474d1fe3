-- Parts by their SEGMENT_INDEX. Where n parts have the indices 1 to n, each once, every part is the one at its index (`part_at_own`). They have them so exactly where each is
-- from 1 to n (`within`) and none comes twice (`once_few`, `once_of`).
use mathlib.Core.Path.{◌≡◌, refl, sym, ap, ap₂, ◌∙◌, subst}
use Prim.Native.Nat.{ℕ, zero, suc, ◌+◌, ◌≤◌, ◌<◌}
use native.Mathlib.Omega.{arith}
use mathlib.Core.Bool.{Bool, true, false, cond}
use mathlib.Core.List.Permᴰ
use mathlib.Core.List.{List, [], ◌∷◌, ◌++◌, map, Permᴰ}
use lib.ListN.{length, get_or, length-map}
use lib.Dec.{eqb}
use borrow.Author.Tests.{eqb-true, eqb-false, eq-eqb, ne_eqb}
use Rattle.rules.specs.Numbers.{up_from, total}
use Rattle.rules.proofs.Thin.{length-up_from, get_or-up_from}
use Rattle.joining.specs.Join.{index_of, indexed, part_at, by_index}
use Rattle.joining.proofs.Lists.{Every, every_mapped, Every-upFrom, every_get_or, perm_one}

-- ---- those of index k

every_indexed : (P : List ℕ → Type 0) (k : ℕ) (ps : List (List ℕ)) → Every P ps → Every P (indexed k ps)
unfolding indexed
every_indexed P k [] h = tt
every_indexed P k (p ∷ ps) h = go (eqb (index_of p) k) (every_indexed P k ps h.1)
  where
    go : (t : Bool) → Every P (indexed k ps) → Every P (cond t (p ∷ indexed k ps) (indexed k ps))
    go true r = (h.0, r)
    go false r = r

index-indexed : (k : ℕ) (ps : List (List ℕ)) → Every (λ p. index_of p ≡ k) (indexed k ps)
unfolding indexed
index-indexed k [] = tt
index-indexed k (p ∷ ps) = go (eqb (index_of p) k) refl (index-indexed k ps)
  where
    go : (t : Bool) → eqb (index_of p) k ≡ t → Every (λ p. index_of p ≡ k) (indexed k ps) → Every (λ p. index_of p ≡ k) (cond t (p ∷ indexed k ps) (indexed k ps))
    go true e r = (eqb-true (index_of p) k e, r)
    go false e r = r

-- a part that comes first is there or not, and the rest follow
pub indexed_own : (k : ℕ) (p : List ℕ) (ps : List (List ℕ)) → index_of p ≡ k → indexed k (p ∷ ps) ≡ p ∷ indexed k ps
unfolding indexed
indexed_own k p ps e = ap (λ (t : Bool). cond t (p ∷ indexed k ps) (indexed k ps)) (eq-eqb (index_of p) k e)

pub indexed_other : (k : ℕ) (p : List ℕ) (ps : List (List ℕ)) → (index_of p ≡ k → ⊥) → indexed k (p ∷ ps) ≡ indexed k ps
unfolding indexed
indexed_other k p ps e = ap (λ (t : Bool). cond t (p ∷ indexed k ps) (indexed k ps)) (ne_eqb (index_of p) k e)

pub indexed_append : (k : ℕ) (ps qs : List (List ℕ)) → indexed k (ps ++ qs) ≡ indexed k ps ++ indexed k qs
unfolding indexed
indexed_append k [] qs = refl
indexed_append k (p ∷ ps) qs = go (eqb (index_of p) k) (indexed_append k ps qs)
  where
    go : (t : Bool) → indexed k (ps ++ qs) ≡ indexed k ps ++ indexed k qs → cond t (p ∷ indexed k (ps ++ qs)) (indexed k (ps ++ qs)) ≡ cond t (p ∷ indexed k ps) (indexed k ps) ++ indexed k qs
    go true e = ap {B = List (List ℕ)} (λ r. p ∷ r) e
    go false e = e

-- ---- the order changed

perm_indexed : (k : ℕ) {ps qs : List (List ℕ)} → Permᴰ ps qs → Permᴰ (indexed k ps) (indexed k qs)
unfolding indexed
perm_indexed k Permᴰ.nil = Permᴰ.nil
perm_indexed k (Permᴰ.cons {a = a} {l₁ = ps} {l₂ = qs} e d) = subst (λ (b : List ℕ). Permᴰ (indexed k (a ∷ ps)) (indexed k (b ∷ qs))) e (go (eqb (index_of a) k) (perm_indexed k d))
  where
    go : (t : Bool) → Permᴰ (indexed k ps) (indexed k qs) → Permᴰ (cond t (a ∷ indexed k ps) (indexed k ps)) (cond t (a ∷ indexed k qs) (indexed k qs))
    go true r = Permᴰ.cons refl r
    go false r = r
perm_indexed k (Permᴰ.swap {a = a} {b = b} {b' = c} {l = ps} e f) =
    subst (λ (y : List ℕ). Permᴰ (indexed k (a ∷ b ∷ ps)) (indexed k (y ∷ c ∷ ps))) f (subst (λ (x : List ℕ). Permᴰ (indexed k (a ∷ b ∷ ps)) (indexed k (b ∷ x ∷ ps))) e (go (eqb (index_of a) k) (eqb (index_of b) k)))
  where
    r : List (List ℕ)
    r = indexed k ps

    go : (t u : Bool) → Permᴰ (cond t (a ∷ cond u (b ∷ r) r) (cond u (b ∷ r) r)) (cond u (b ∷ cond t (a ∷ r) r) (cond t (a ∷ r) r))
    go true true = Permᴰ.swap refl refl
    go true false = Permᴰ.cons refl (Permᴰ.refl r)
    go false true = Permᴰ.cons refl (Permᴰ.refl r)
    go false false = Permᴰ.refl r
perm_indexed k (Permᴰ.trans c d) = Permᴰ.trans (perm_indexed k c) (perm_indexed k d)

pub indexed_perm : (k : ℕ) {ps qs : List (List ℕ)} → Permᴰ ps qs → length (indexed k ps) ≡ 1 → indexed k ps ≡ indexed k qs
indexed_perm k d l = perm_one (perm_indexed k d) l

-- ---- the part of index k

pub every_at_index : (P : List ℕ → Type 0) (k : ℕ) (ps : List (List ℕ)) → length (indexed k ps) ≡ 1 → Every P ps → P (part_at k ps)
unfolding part_at
every_at_index P k ps l h = every_get_or P (indexed k ps) 0 [] (omega arith) (every_indexed P k ps h)

pub index_at : (k : ℕ) (ps : List (List ℕ)) → length (indexed k ps) ≡ 1 → index_of (part_at k ps) ≡ k
unfolding part_at
index_at k ps l = every_get_or (λ p. index_of p ≡ k) (indexed k ps) 0 [] (omega arith) (index-indexed k ps)

pub every_by_index : (P : List ℕ → Type 0) (ps : List (List ℕ)) → ((k : ℕ) → 1 ≤ k → k < 1 + length ps → length (indexed k ps) ≡ 1) → Every P ps → Every P (by_index ps)
unfolding by_index
every_by_index P ps once h = every_mapped P (λ k. part_at k ps) (up_from 1 (length ps)) (Every-upFrom (λ k. P (part_at k ps)) 1 (length ps) (λ k l m. every_at_index P k ps (once k l m) h))

pub length-by_index : (ps : List (List ℕ)) → length (by_index ps) ≡ length ps
unfolding by_index
length-by_index ps = length-map (up_from 1 (length ps)) (λ k. part_at k ps) ∙ length-up_from 1 (length ps)

pub by_index-at : (ps : List (List ℕ)) (j : ℕ) → j < length ps → get_or (by_index ps) j [] ≡ part_at (suc j) ps
unfolding by_index
by_index-at ps j l = let e : 1 + j ≡ suc j = omega arith in get_or-up_from (λ k. part_at k ps) 1 (length ps) j [] l ∙ ap (λ (k : ℕ). part_at k ps) e

-- ---- the indices 1 to n, each once

-- each of the numbers from i on, n of them, is the index of one part
abbrev pub Once : ℕ → ℕ → List (List ℕ) → Type 0
Once i n ps = (k : ℕ) → i ≤ k → k < i + n → length (indexed k ps) ≡ 1

abbrev pub Within : ℕ → ℕ → ℕ → Type 0
Within i n k = (i ≤ k) × (k < i + n)

-- how often k is among the numbers from i on, n of them: once or not at all
abbrev found : ℕ → ℕ → ℕ
found k j = cond (eqb k j) 1 0

hits : ℕ → ℕ → ℕ → ℕ
hits k i n = total (map (found k) (up_from i n))

hits_past : (k i n : ℕ) → k < i → hits k i n ≡ 0
unfolding hits up_from
hits_past k i zero l = refl
hits_past k i (suc n) l = ap₂ {C = ℕ} (λ t m. cond t 1 0 + m) (ne_eqb k i (omega arith)) (hits_past k (suc i) n (omega arith))

hits_in : (k i n : ℕ) → (hits k i n ≤ 1) × (0 < hits k i n → Within i n k)
unfolding hits up_from
hits_in k i zero = (omega arith, λ h. absurd (omega arith))
hits_in k i (suc n) = go (eqb k i) refl (hits_in k (suc i) n) (hits_past k (suc i) n)
  where
    go : (t : Bool) → eqb k i ≡ t → (hits k (suc i) n ≤ 1) × (0 < hits k (suc i) n → Within (suc i) n k) → (k < suc i → hits k (suc i) n ≡ 0)
        → (cond t 1 0 + hits k (suc i) n ≤ 1) × (0 < cond t 1 0 + hits k (suc i) n → Within i (suc n) k)
    go true e ih z = let q : k ≡ i = eqb-true k i e in (omega (arith, z (omega arith)), λ h. (omega arith, omega arith))
    go false e ih z = (omega (arith, ih.0), λ h. let w = ih.1 (omega arith) in (omega (arith, w.0), omega (arith, w.1)))

-- how many parts have one of these as their index
many : ℕ → ℕ → List (List ℕ) → ℕ
many i n ps = total (map (λ k. length (indexed k ps)) (up_from i n))

many_cons : (i n : ℕ) (p : List ℕ) (ps : List (List ℕ)) → many i n (p ∷ ps) ≡ hits (index_of p) i n + many i n ps
unfolding many hits up_from indexed
many_cons i zero p ps = refl
many_cons i (suc n) p ps =
    ap₂ {C = ℕ} (λ a b. a + b) (go (eqb (index_of p) i)) (many_cons (suc i) n p ps)
    ∙ swap (found (index_of p) i) (length (indexed i ps)) (hits (index_of p) (suc i) n) (many (suc i) n ps)
  where
    go : (t : Bool) → length (cond t (p ∷ indexed i ps) (indexed i ps)) ≡ cond t 1 0 + length (indexed i ps)
    go true = omega arith
    go false = omega arith

    swap : (a b c d : ℕ) → a + b + (c + d) ≡ a + c + (b + d)
    swap a b c d = omega arith

many_none : (i n : ℕ) → many i n [] ≡ 0
unfolding many up_from indexed
many_none i zero = refl
many_none i (suc n) = omega (arith, many_none (suc i) n)

-- no part is counted twice, and where all are counted, each has such an index
many_le : (i n : ℕ) (ps : List (List ℕ)) → many i n ps ≤ length ps
many_le i n [] = omega (arith, many_none i n)
many_le i n (p ∷ ps) = omega (arith, many_cons i n p ps, (hits_in (index_of p) i n).0, many_le i n ps)

many_full : (i n : ℕ) (ps : List (List ℕ)) → length ps ≤ many i n ps → Every (λ p. Within i n (index_of p)) ps
many_full i n [] h = tt
many_full i n (p ∷ ps) h =
    let c : many i n (p ∷ ps) ≡ hits (index_of p) i n + many i n ps = many_cons i n p ps in
    ((hits_in (index_of p) i n).1 (omega (arith, many_le i n ps)), many_full i n ps (omega (arith, (hits_in (index_of p) i n).0)))

once_many : (i n : ℕ) (ps : List (List ℕ)) → Once i n ps → many i n ps ≡ n
unfolding many up_from
once_many i zero ps h = refl
once_many i (suc n) ps h = omega (arith, h i (omega arith) (omega arith), once_many (suc i) n ps (λ k l m. h k (omega arith) (omega arith)))

-- the other way: where each part has such an index, all are counted, and where none is counted twice, each index is found
hits_there : (k i n : ℕ) → Within i n k → hits k i n ≡ 1
unfolding hits up_from
hits_there k i zero w = absurd (omega (arith, w.0, w.1))
hits_there k i (suc n) w = go (eqb k i) refl (hits_past k (suc i) n) (hits_there k (suc i) n)
  where
    go : (t : Bool) → eqb k i ≡ t → (k < suc i → hits k (suc i) n ≡ 0) → (Within (suc i) n k → hits k (suc i) n ≡ 1) → cond t 1 0 + hits k (suc i) n ≡ 1
    go true e z ih = omega (arith, z (omega (arith, eqb-true k i e)))
    go false e z ih = omega (arith, ih (omega (arith, w.0, eqb-false k i e), omega (arith, w.1)))

many_all : (i n : ℕ) (ps : List (List ℕ)) → Every (λ p. Within i n (index_of p)) ps → many i n ps ≡ length ps
many_all i n [] h = many_none i n
many_all i n (p ∷ ps) h = omega (arith, many_cons i n p ps, hits_there (index_of p) i n h.0, many_all i n ps h.1)

sum_le : (f : ℕ → ℕ) (i n : ℕ) → ((k : ℕ) → f k ≤ 1) → total (map f (up_from i n)) ≤ n
unfolding up_from
sum_le f i zero h = omega arith
sum_le f i (suc n) h = omega (arith, h i, sum_le f (suc i) n h)

sum-full : (f : ℕ → ℕ) (i n : ℕ) → ((k : ℕ) → f k ≤ 1) → n ≤ total (map f (up_from i n)) → (k : ℕ) → Within i n k → f k ≡ 1
unfolding up_from
sum-full f i zero h s k w = absurd (omega (arith, w.0, w.1))
sum-full f i (suc n) h s k w = go (eqb k i) refl (sum-full f (suc i) n h (omega (arith, h i)) k)
  where
    go : (t : Bool) → eqb k i ≡ t → (Within (suc i) n k → f k ≡ 1) → f k ≡ 1
    go true e ih = ap f (eqb-true k i e) ∙ omega (arith, h i, sum_le f (suc i) n h)
    go false e ih = ih (omega (arith, w.0, eqb-false k i e), omega (arith, w.1))

pub once_of : (ps : List (List ℕ)) → Every (λ p. Within 1 (length ps) (index_of p)) ps → ((k : ℕ) → length (indexed k ps) ≤ 1) → Once 1 (length ps) ps
unfolding many
once_of ps h few k l m = sum-full (λ j. length (indexed j ps)) 1 (length ps) few (omega (arith, many_all 1 (length ps) ps h)) k (l, m)

pub within : (ps : List (List ℕ)) → Once 1 (length ps) ps → Every (λ p. Within 1 (length ps) (index_of p)) ps
within ps h = many_full 1 (length ps) ps (omega (arith, once_many 1 (length ps) ps h))

-- so no index comes twice
pub once_few : (ps : List (List ℕ)) → Once 1 (length ps) ps → (k : ℕ) → length (indexed k ps) ≤ 1
once_few ps h k = go (indexed k ps) refl
  where
    go : (qs : List (List ℕ)) → indexed k ps ≡ qs → length (indexed k ps) ≤ 1
    go [] e = omega (arith, ap length e)
    go (q ∷ qs) e =
        let w : Within 1 (length ps) (index_of q) = (subst (Every (λ p. Within 1 (length ps) (index_of p))) e (every_indexed (λ p. Within 1 (length ps) (index_of p)) k ps (within ps h))).0 in
        let i : index_of q ≡ k = (subst (Every (λ p. index_of p ≡ k)) e (index-indexed k ps)).0 in
        omega (arith, h k (omega (arith, w.0)) (omega (arith, w.1)))

-- ---- a part and its index

some-indexed : (k : ℕ) (ps : List (List ℕ)) (j : ℕ) → j < length ps → index_of (get_or ps j []) ≡ k → 0 < length (indexed k ps)
some-indexed k [] j l e = absurd (omega arith)
some-indexed k (p ∷ ps) zero l e = omega (arith, ap length (indexed_own k p ps e))
some-indexed k (p ∷ ps) (suc j) l e = go (eqb (index_of p) k) refl (some-indexed k ps j (omega arith) e)
  where
    go : (t : Bool) → eqb (index_of p) k ≡ t → 0 < length (indexed k ps) → 0 < length (indexed k (p ∷ ps))
    go true q h = omega (arith, ap length (indexed_own k p ps (eqb-true (index_of p) k q)))
    go false q h = omega (arith, ap length (indexed_other k p ps (eqb-false (index_of p) k q)))

at_own : (k : ℕ) (ps : List (List ℕ)) (j : ℕ) → j < length ps → index_of (get_or ps j []) ≡ k → length (indexed k ps) ≡ 1 → part_at k ps ≡ get_or ps j []
unfolding part_at
at_own k [] j l e o = absurd (omega arith)
at_own k (p ∷ ps) zero l e o = ap (λ (qs : List (List ℕ)). get_or qs 0 []) (indexed_own k p ps e)
at_own k (p ∷ ps) (suc j) l e o = go (eqb (index_of p) k) refl (at_own k ps j (omega arith) e)
  where
    go : (t : Bool) → eqb (index_of p) k ≡ t → (length (indexed k ps) ≡ 1 → get_or (indexed k ps) 0 [] ≡ get_or ps j []) → get_or (indexed k (p ∷ ps)) 0 [] ≡ get_or ps j []
    go true q ih = absurd (omega (arith, ap length (indexed_own k p ps (eqb-true (index_of p) k q)), some-indexed k ps j (omega arith) e))
    go false q ih =
        let r : indexed k (p ∷ ps) ≡ indexed k ps = indexed_other k p ps (eqb-false (index_of p) k q) in ap (λ (qs : List (List ℕ)). get_or qs 0 []) r ∙ ih (sym (ap length r) ∙ o)

module _ (ps : List (List ℕ)) (h : Once 1 (length ps) ps) (j : ℕ) (l : j < length ps) where
  pub index-within : Within 1 (length ps) (index_of (get_or ps j []))
  index-within = every_get_or (λ p. Within 1 (length ps) (index_of p)) ps j [] l (within ps h)

  pub part_at_own : part_at (index_of (get_or ps j [])) ps ≡ get_or ps j []
  part_at_own = at_own (index_of (get_or ps j [])) ps j l refl (h (index_of (get_or ps j [])) index-within.0 index-within.1)
