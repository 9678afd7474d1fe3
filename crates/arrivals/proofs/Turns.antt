-- The turns of the loop over the parts: the first (`first_met`), one more (`next_met`), and what is answered (`refused_judges`, `met_judges`, `apart-judges`).
use mathlib.Core.Path.{◌≡◌, refl, sym, ap, ◌∙◌, subst}
use Prim.Native.Nat.{ℕ, ◌+◌, ◌≤◌, ◌<◌}
use native.Mathlib.Omega.{arith}
use mathlib.Core.Bool.{Bool, true, false, cond, ◌&&◌, false≢true}
use mathlib.Core.List.{List, []}
use lib.ListN.{length, get_or, replicate}
use lib.Dec.{leb, eqb}
use borrow.Author.Tests.{leb-true, eqb-true}
use Rattle.rules.specs.Numbers.{Bytes, up_from}
use Rattle.rules.specs.Rules.{every?, payload_start, refusal, opened}
use Rattle.rules.proofs.Tests.{and_true, and_intro}
use Rattle.joining.specs.Join.{parts_in, index_of, common, join_refusal}
use Rattle.seen.specs.Seen.{seen_of}
use Rattle.seen.proofs.Bits.{seen_none}
use Rattle.parts.specs.Parts.{this}
use Rattle.parts.proofs.Standing.{this-bytes, parts_left}
use Rattle.arrivals.specs.declared.Judged.{Judged}
use Rattle.arrivals.specs.Arrivals.{index?, alike?, belongs?, Comparable, Judges}
use Rattle.arrivals.proofs.Beside.{comparable, alike_if, alike-only}
use Rattle.arrivals.proofs.Meeting.{Met, met_none, met_step, this-kept, this-alike, count_is, met_together, together_met, met_apart}

-- an index that was tested
pub index-says : (k : ℕ) → index? k ≡ true → (1 ≤ k) × (k < 1024)
index-says k e = let p = and_true (leb 1 k) (leb k 1000) e in (leb-true 1 k p.0, omega (arith, leb-true k 1000 p.1))

-- and of a part that belongs to those seen
pub fresh-says : (s : List ℕ) (lead start text : ℕ) (seen : List ℕ) (k : ℕ) → belongs? s lead start text seen k ≡ true → (k < 1024) × (seen_of seen k ≡ 0)
fresh-says s lead start text seen k e =
    let x = and_true (index? k) (eqb (seen_of seen k) 0 && alike? s lead start text) e in
    ((index-says k x.0).1, eqb-true (seen_of seen k) 0 (and_true (eqb (seen_of seen k) 0) (alike? s lead start text) x.1).0)

module _ (s : List ℕ) (b : Bytes s) (h : 0 < length s) (z : refusal (this s 0) ≡ 0) where
  -- the first part of the slice
  pub first_is : get_or (parts_in s) 0 [] ≡ this s 0
  first_is = ap (λ (ps : List (List ℕ)). get_or ps 0 []) (parts_left s 0 h (0 + length (this s 0)) refl)

  pub first_met : (k : ℕ) (fits : Bool) (seen : List ℕ) → k ≡ index_of (this s 0) → fits ≡ index? k → (fits ≡ true → (j : ℕ) → seen_of seen j ≡ cond (eqb j k) 1 (seen_of (replicate 16 0) j))
      → (e : ℕ) → e ≡ 0 + length (this s 0) → Met s seen fits 1 e
  first_met k fits seen i f more e q =
      let none : Met s (replicate 16 0) true 0 0 = met_none s in
      let c : 0 + 1 ≡ 1 = omega arith in
      subst (λ (n : ℕ). Met s seen fits n e) c
      (met_step s (replicate 16 0) true 0 0 none h fits seen z
      (λ t. (record { index = omega (arith, i, (index-says k (sym f ∙ t)).0); alike = ap common first_is }, λ j. more t j ∙ ap (λ (x : ℕ). cond (eqb j x) 1 (seen_of (replicate 16 0) j)) i, seen_none (index_of (this s 0))))
      (λ j. f ∙ ap index? i ∙ (and_true (index? (index_of (this s 0))) (eqb (seen_of (replicate 16 0) (index_of (this s 0))) 0 && true) (this-kept s (replicate 16 0) true 0 0 none h j)).0)
      e q)

  module _ (lead text : ℕ) (q : lead ≡ 0 + payload_start (this s 0)) (t : text ≡ (opened (this s 0)).head 40)
      (seen : List ℕ) (together : Bool) (count here : ℕ) (m : Met s seen together count here) (l : here < length s) (y : refusal (this s here) ≡ 0)
      (start : ℕ) (p : start ≡ here + payload_start (this s here)) where
    pub this_comparable : Comparable s lead start text
    this_comparable = comparable s here lead start text l (this-bytes s 0 b) z (this-bytes s here b) y q p t

    pub next_met : (k : ℕ) (fits : Bool) (more : List ℕ) → k ≡ index_of (this s here) → fits ≡ belongs? s lead start text seen k → (fits ≡ true → (j : ℕ) → seen_of more j ≡ cond (eqb j k) 1 (seen_of seen j))
        → (e : ℕ) → e ≡ here + length (this s here) → Met s more (together && fits) (count + 1) e
    next_met k fits more i f added e ends =
        met_step s seen together count here m l fits more y
        (λ u.
        let x = and_true (index? k) (eqb (seen_of seen k) 0 && alike? s lead start text) (sym f ∙ u) in
        let w = and_true (eqb (seen_of seen k) 0) (alike? s lead start text) x.1 in (
          record { index = omega (arith, i, (index-says k x.0).0); alike = ap common first_is ∙ alike_if s here lead start text l (this-bytes s 0 b) z (this-bytes s here b) y q p t w.1 },
          λ j. added u j ∙ ap (λ (n : ℕ). cond (eqb j n) 1 (seen_of seen j)) i,
          ap (seen_of seen) (sym i) ∙ eqb-true (seen_of seen k) 0 w.0,
        ))
        (λ j.
        let x = this-kept s seen together count here m l j in
        let a = and_true (index? (index_of (this s here))) (eqb (seen_of seen (index_of (this s here))) 0 && true) x in
        let c = and_true (eqb (seen_of seen (index_of (this s here))) 0) true a.1 in
        f ∙ ap (λ (n : ℕ). belongs? s lead start text seen n) i
        ∙ and_intro (index? (index_of (this s here))) (eqb (seen_of seen (index_of (this s here))) 0 && alike? s lead start text) a.0
        (and_intro (eqb (seen_of seen (index_of (this s here))) 0) (alike? s lead start text) c.0
        (alike-only s here lead start text l (this-bytes s 0 b) z (this-bytes s here b) y q p t (ap common (sym first_is) ∙ this-alike s seen together count here m l j))))
        e ends

-- ---- the answers

-- no part at all
pub none-refused : (s : List ℕ) → Bytes s → length s < 1 → (room : ℕ) → join_refusal s room ≡ 16
none-refused s b h = met_apart s (replicate 16 0) true 0 0 b (met_none s) (omega arith) (λ j. omega (arith, j.some, count_is s (replicate 16 0) true 0 0 b (met_none s) (omega arith)))

pub refused_judges : (s : List ℕ) (r : Judged) (n : ℕ) → r ≡ record { refusal = n; count = 0; end = 0 } → 0 < n → ((room : ℕ) → join_refusal s room ≡ n) → Judges s r
refused_judges s r n e l h =
    let q : r.refusal ≡ n = ap (λ (x : Judged). x.refusal) e in
    record { refused = λ y room. h room ∙ sym q; together = λ z. absurd (omega (arith, q)); count = λ z. absurd (omega (arith, q)); ends = λ z. absurd (omega (arith, q)) }

module _ (s seen : List ℕ) (together all : Bool) (count here : ℕ) (b : Bytes s) (m : Met s seen together count here) (h : length s ≤ here) (seen_all : all ≡ every? (λ k. eqb (seen_of seen k) 1) (up_from 1 count)) where
  pub many_apart : 1000 < count → (room : ℕ) → join_refusal s room ≡ 16
  many_apart l = met_apart s seen together count here b m h (λ j. omega (arith, (together_met s seen together count here b m h j).0))

  pub apart : together && all ≡ false → (room : ℕ) → join_refusal s room ≡ 16
  apart f = met_apart s seen together count here b m h (λ j. false≢true (sym f ∙ ap (λ (t : Bool). together && t) seen_all ∙ (together_met s seen together count here b m h j).1))

  pub met_judges : (end : ℕ) → end ≡ length (get_or (parts_in s) 0 []) → 1 ≤ count → count ≤ 1000 → together && all ≡ true → Judges s (record { refusal = 0; count = count; end = end })
  met_judges end e lo hi t = record {
    refused = λ l room. absurd (omega (arith, l));
    together = λ z. met_together s seen together count here b m h lo hi (ap (λ (u : Bool). together && u) (sym seen_all) ∙ t);
    count = λ z. count_is s seen together count here b m h;
    ends = λ z. e;
  }
