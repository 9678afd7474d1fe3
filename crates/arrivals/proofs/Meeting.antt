-- Parts met one after another. Where all were met they belong together exactly where each fitted and the indices from 1 on were seen (`met_together`, `together_met`); a bad one gives the join's number (`met_bad`).
use mathlib.Core.Path.{◌≡◌, refl, sym, ap, ap₂, ◌∙◌, subst}
use Prim.Native.Nat.{ℕ, suc, ◌+◌, ◌≤◌, ◌<◌}
use native.Mathlib.Omega.{arith}
use mathlib.Core.Logic.{⊎_elim}
use mathlib.Core.Bool.{Bool, true, false, cond, ◌&&◌}
use mathlib.Core.List.{List, [], ◌∷◌, ◌++◌, append_assoc, append-nil}
use lib.ListN.{length, get_or, drop, replicate, length-append, drop_of_length-le}
use lib.Dec.{leb, eqb}
use borrow.Author.Tests.{le-leb, eqb-true, eqb-false, eq-eqb, ne_eqb}
use Rattle.rules.specs.Numbers.{Bytes, up_from}
use Rattle.rules.specs.Wave.{segments}
use Rattle.rules.specs.Rules.{all, every?, refusal, opened}
use Rattle.rules.specs.Cut.{or_else}
use Rattle.rules.proofs.Tests.{and_true, and_intro, or_some}
use Rattle.rules.proofs.Opened.{good-opened}
use Rattle.joining.specs.Join.{parts_in, index_of, indexed, joined_bytes, common, joining, join_refusal}
use Rattle.joining.proofs.Lists.{Every, every_both, every_up_from, up_from_every}
use Rattle.joining.proofs.Parts.{parts_none, parts-bytes}
use Rattle.joining.proofs.Index.{Within, within, once_few, indexed_append, indexed_own}
use Rattle.joining.proofs.Says.{Together, first_bad, first_bad_next, first_bad_none, joined_tests, join_number}
use Rattle.seen.specs.Seen.{seen_of}
use Rattle.seen.proofs.Bits.{seen_none}
use Rattle.parts.specs.Parts.{this}
use Rattle.parts.proofs.Standing.{reach, some_bytes, parts_left}
use Rattle.arrivals.specs.Arrivals.{index?}

-- ---- lists

module _ (P : List ℕ → Type 0) where
  every_middle : (ps : List (List ℕ)) (p : List ℕ) (qs : List (List ℕ)) → Every P (ps ++ p ∷ qs) → P p
  every_middle [] p qs e = e.0
  every_middle (q ∷ ps) p qs e = every_middle ps p qs e.1

  every_one_more : (ps : List (List ℕ)) (p : List ℕ) → Every P ps → P p → Every P (ps ++ p ∷ [])
  every_one_more [] p e x = (x, tt)
  every_one_more (q ∷ ps) p e x = (e.0, every_one_more ps p e.1 x)

indexed-one : (k : ℕ) (p : List ℕ) → length (indexed k (p ∷ [])) ≡ cond (eqb k (index_of p)) 1 0
unfolding indexed
indexed-one k p = go (eqb k (index_of p)) refl
  where
    go : (t : Bool) → eqb k (index_of p) ≡ t → length (cond (eqb (index_of p) k) (p ∷ []) []) ≡ cond t 1 0
    go true e = ap (λ (t : Bool). length (cond t (p ∷ []) [])) (eq-eqb (index_of p) k (sym (eqb-true k (index_of p) e)))
    go false e = ap (λ (t : Bool). length (cond t (p ∷ []) [])) (ne_eqb (index_of p) k (λ z. eqb-false k (index_of p) e (sym z)))

-- good parts are passed
bad_behind : (ps qs : List (List ℕ)) → Every (λ p. refusal p ≡ 0) ps → first_bad (ps ++ qs) ≡ first_bad qs
bad_behind [] qs h = refl
bad_behind (p ∷ ps) qs h = first_bad_next p (ps ++ qs) ∙ ap (λ (n : ℕ). or_else n (first_bad (ps ++ qs))) h.0 ∙ bad_behind ps qs h.1

-- ---- the parts that were met

-- a part that fits those met before it
pub record Kept (s p : List ℕ) : Type 0 where
  pub index : 1 ≤ index_of p
  pub alike : common (get_or (parts_in s) 0 []) ≡ common p

-- up to `here` the parts are good, and `together` says whether they can belong together with all the others
pub record Met (s seen : List ℕ) (together : Bool) (count here : ℕ) : Type 0 where
  pub inside : here ≤ length s
  pub done : List (List ℕ)
  pub split : parts_in s ≡ done ++ parts_in (drop here s)
  pub good : Every (λ p. refusal p ≡ 0) done
  pub many : count ≡ length done
  pub few : count ≤ here
  pub kept : together ≡ true → Every (Kept s) done × ((k : ℕ) → length (indexed k done) ≡ seen_of seen k)
  pub only : Together (parts_in s) → together ≡ true

pub met_none : (s : List ℕ) → Met s (replicate 16 0) true 0 0
unfolding indexed
met_none s = record { inside = omega arith; done = []; split = refl; good = tt; many = refl; few = omega arith; kept = λ e. (tt, λ k. sym (seen_none k)); only = λ j. refl }

module _ (s seen : List ℕ) (together : Bool) (count here : ℕ) (m : Met s seen together count here) (h : here < length s) where
  next : (e : ℕ) → e ≡ here + length (this s here) → parts_in s ≡ m.done ++ this s here ∷ parts_in (drop e s)
  next e q = m.split ∙ ap {B = List (List ℕ)} (λ r. m.done ++ r) (parts_left s here h e q)

  -- where all belong together, this part's index is one of theirs and was not seen, and it is alike
  pub this-kept : Together (parts_in s) → index? (index_of (this s here)) && (eqb (seen_of seen (index_of (this s here))) 0 && true) ≡ true
  this-kept j =
      let p : List ℕ = this s here in
      let rest : List (List ℕ) = parts_in (drop (here + length p) s) in
      let w : Within 1 (length (parts_in s)) (index_of p) = every_middle (λ q. Within 1 (length (parts_in s)) (index_of q)) m.done p rest (subst (Every (λ q. Within 1 (length (parts_in s)) (index_of q))) (next (here + length p) refl) (within (parts_in s) j.once)) in
      let few : length (indexed (index_of p) (m.done ++ p ∷ rest)) ≤ 1 = subst (λ (qs : List (List ℕ)). length (indexed (index_of p) qs) ≤ 1) (next (here + length p) refl) (once_few (parts_in s) j.once (index_of p)) in
      let split : length (indexed (index_of p) (m.done ++ p ∷ rest)) ≡ length (indexed (index_of p) m.done) + suc (length (indexed (index_of p) rest)) =
      ap length (indexed_append (index_of p) m.done (p ∷ rest)) ∙ length-append (indexed (index_of p) m.done) (indexed (index_of p) (p ∷ rest))
      ∙ ap (λ (qs : List (List ℕ)). length (indexed (index_of p) m.done) + length qs) (indexed_own (index_of p) p rest refl) in
      let fresh : seen_of seen (index_of p) ≡ 0 = omega (arith, (m.kept (m.only j)).1 (index_of p)) in
      and_intro (index? (index_of p)) (eqb (seen_of seen (index_of p)) 0 && true)
      (and_intro (leb 1 (index_of p)) (leb (index_of p) 1000) (le-leb 1 (index_of p) w.0) (le-leb (index_of p) 1000 (omega (arith, w.1, j.most))))
      (and_intro (eqb (seen_of seen (index_of p)) 0) true (eq-eqb (seen_of seen (index_of p)) 0 fresh) refl)

  pub this-alike : Together (parts_in s) → common (get_or (parts_in s) 0 []) ≡ common (this s here)
  this-alike j =
      let p : List ℕ = this s here in
      every_middle (λ q. common (get_or (parts_in s) 0 []) ≡ common q) m.done p (parts_in (drop (here + length p) s))
      (subst (Every (λ q. common (get_or (parts_in s) 0 []) ≡ common q)) (next (here + length p) refl) j.alike)

  -- a bad part
  pub met_bad : (n : ℕ) → n ≡ refusal (this s here) → 0 < n → (room : ℕ) → join_refusal s room ≡ n
  met_bad n e l room =
      let p : List ℕ = this s here in
      let rest : List (List ℕ) = parts_in (drop (here + length p) s) in
      let f : first_bad (parts_in s) ≡ n = ap first_bad (next (here + length p) refl) ∙ bad_behind m.done (p ∷ rest) m.good ∙ first_bad_next p rest ∙ sym (or_some (refusal p) (first_bad rest) (omega arith)) ∙ sym e in
      join_number s room ∙ ap (λ (x : ℕ). or_else x (cond (all (joining (parts_in s))) (cond (leb (length (joined_bytes (parts_in s))) room) 0 13) 16)) f ∙ sym (or_some n _ (omega (arith, l)))

  -- a good one that fits or does not
  module _ (fits : Bool) (more : List ℕ) (z : refusal (this s here) ≡ 0)
      (yes : fits ≡ true → Kept s (this s here) × ((j : ℕ) → seen_of more j ≡ cond (eqb j (index_of (this s here))) 1 (seen_of seen j)) × (seen_of seen (index_of (this s here)) ≡ 0))
      (must : Together (parts_in s) → fits ≡ true) where
    pub met_step : (e : ℕ) → e ≡ here + length (this s here) → Met s more (together && fits) (count + 1) e
    met_step e q =
        let p : List ℕ = this s here in
        record {
          inside = omega (arith, reach s here h);
          done = m.done ++ p ∷ [];
          split = next e q ∙ sym (append_assoc m.done (p ∷ []) (parts_in (drop e s)));
          good = every_one_more (λ r. refusal r ≡ 0) m.done p m.good z;
          many = omega (arith, m.many, length-append m.done (p ∷ []));
          few = omega (arith, m.few, some_bytes s here h);
          kept = λ t.
              let both = and_true together fits t in
              let old = m.kept both.0 in
              let new = yes both.1 in
              (every_one_more (Kept s) m.done p old.0 new.0, λ k. seen_more k (old.1 k) (new.1 k) new.2 (eqb k (index_of p)) refl);
          only = λ j. and_intro together fits (m.only j) (must j);
        }
      where
        seen_more : (k : ℕ) → length (indexed k m.done) ≡ seen_of seen k → seen_of more k ≡ cond (eqb k (index_of (this s here))) 1 (seen_of seen k) → seen_of seen (index_of (this s here)) ≡ 0
            → (t : Bool) → eqb k (index_of (this s here)) ≡ t → length (indexed k (m.done ++ this s here ∷ [])) ≡ seen_of more k
        seen_more k old new fresh t i =
            ap length (indexed_append k m.done (this s here ∷ [])) ∙ length-append (indexed k m.done) (indexed k (this s here ∷ []))
            ∙ ap₂ {C = ℕ} (λ a b. a + b) old (indexed-one k (this s here) ∙ ap (λ (u : Bool). cond u 1 0) i) ∙ add t i ∙ sym (new ∙ ap (λ (u : Bool). cond u 1 (seen_of seen k)) i)
          where
            add : (t : Bool) → eqb k (index_of (this s here)) ≡ t → seen_of seen k + cond t 1 0 ≡ cond t 1 (seen_of seen k)
            add true i = let e : seen_of seen k ≡ 0 = ap (seen_of seen) (eqb-true k (index_of (this s here)) i) ∙ fresh in omega arith
            add false i = omega arith

-- ---- all of them met

module _ (s seen : List ℕ) (together : Bool) (count here : ℕ) (b : Bytes s) (m : Met s seen together count here) (h : length s ≤ here) where
  all_done : parts_in s ≡ m.done
  all_done = m.split ∙ ap {B = List (List ℕ)} (λ r. m.done ++ r) (ap parts_in (drop_of_length-le s {i = here} h) ∙ parts_none) ∙ append-nil m.done

  all-good : Every (λ p. refusal p ≡ 0) (parts_in s)
  all-good = subst (Every (λ p. refusal p ≡ 0)) (sym all_done) m.good

  pub count_is : count ≡ length (parts_in s)
  count_is = m.many ∙ ap length (sym all_done)

  pub met_together : 1 ≤ count → count ≤ 1000 → together && every? (λ k. eqb (seen_of seen k) 1) (up_from 1 count) ≡ true → Together (parts_in s)
  met_together lo hi t =
      let both = and_true together (every? (λ k. eqb (seen_of seen k) 1) (up_from 1 count)) t in
      let old = m.kept both.0 in
      let kept : Every (Kept s) (parts_in s) = subst (Every (Kept s)) (sym all_done) old.0 in
      record {
        good = all-good;
        some = omega (arith, count_is);
        most = omega (arith, count_is);
        alone = every_both (λ p. Bytes p × (refusal p ≡ 0)) (Kept s) (λ p. segments (opened p).head ≡ 1) alone (parts_in s)
            (every_both Bytes (λ p. refusal p ≡ 0) (λ p. Bytes p × (refusal p ≡ 0)) (λ p x y. (x, y)) (parts_in s) (parts-bytes s b) all-good) kept;
        once = λ k x y.
            ap (λ (ps : List (List ℕ)). length (indexed k ps)) all_done ∙ old.1 k
            ∙ eqb-true (seen_of seen k) 1 (every_up_from (λ j. eqb (seen_of seen j) 1) 1 count both.1 k x (omega (arith, count_is)));
        alike = every_both (Kept s) (Kept s) (λ p. common (get_or (parts_in s) 0 []) ≡ common p) (λ p x y. x.alike) (parts_in s) kept kept;
      }
    where
      alone : (p : List ℕ) → Bytes p × (refusal p ≡ 0) → Kept s p → segments (opened p).head ≡ 1
      alone p g k =
          ⊎_elim (λ (e : index_of p ≡ 0). absurd (omega (arith, k.index))) (λ (e : segments (opened p).head ≡ 1). e) (good-opened p g.0 g.1).counts.index-alone

  pub together_met : Together (parts_in s) → (count ≤ 1000) × (together && every? (λ k. eqb (seen_of seen k) 1) (up_from 1 count) ≡ true)
  together_met j =
      let t : together ≡ true = m.only j in (
        omega (arith, count_is, j.most),
        and_intro together (every? (λ k. eqb (seen_of seen k) 1) (up_from 1 count)) t (up_from_every (λ k. eqb (seen_of seen k) 1) 1 count (λ k x y.
            eq-eqb (seen_of seen k) 1 (sym ((m.kept t).1 k) ∙ ap (λ (ps : List (List ℕ)). length (indexed k ps)) (sym all_done) ∙ j.once k x (omega (arith, count_is))))),
      )

  -- those that do not belong together are 16
  pub met_apart : (Together (parts_in s) → ⊥) → (room : ℕ) → join_refusal s room ≡ 16
  met_apart n room =
      join_number s room
      ∙ ap₂ {C = ℕ} (λ x t. or_else x (cond t (cond (leb (length (joined_bytes (parts_in s))) room) 0 13) 16)) ((first_bad_none (parts_in s)).1 all-good) (go (all (joining (parts_in s))) refl)
    where
      go : (t : Bool) → all (joining (parts_in s)) ≡ t → all (joining (parts_in s)) ≡ false
      go true e = absurd (n ((joined_tests (parts_in s) all-good).0 e).together)
      go false e = e
