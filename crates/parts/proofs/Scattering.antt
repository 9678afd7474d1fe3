-- Rows of the parts whose index is behind `skip`, each put at its index in the order in which the parts came: at the end they stand by index (`scattered_all`).
use mathlib.Core.Path.{◌≡◌, refl, sym, ap, ◌∙◌}
use Prim.Native.Nat.{ℕ, zero, suc, ◌+◌, ◌-◌, ◌*◌, ◌≤◌, ◌<◌}
use native.Mathlib.Nat.{suc-mul}
use native.Mathlib.Omega.{arith}
use mathlib.Core.Bool.{Bool, true, false, cond}
use mathlib.Core.List.{List, [], ◌∷◌, ◌++◌, map, flatten, head-eq_of_cons-eq, tail-eq_of_cons-eq}
use lib.ListN.{length, get_or, take, drop, set, length-set, length-map, length-take, length-drop, get_or-map}
use lib.Seq.{ext_get_or, drop_at, get_or-set_same, get_or-set_other, get_or-take, get_or-drop}
use lib.Dec.{ltb, eqb}
use borrow.Author.Tests.{ltb-true, lt-ltb, eqb-true, eqb-false}
use Rattle.rules.specs.Numbers.{splice}
use Rattle.rules.proofs.Rows.{Rows}
use Rattle.copies.proofs.Laws.{splice-behind}
use Rattle.joining.specs.Join.{index_of, indexed, part_at, by_index}
use Rattle.joining.proofs.Index.{Once, indexed_own, indexed_other, length-by_index, by_index-at}
use Rattle.joining.proofs.Segments.{rows-count}

module _ {A : Type 0} where
  -- row k − skip − 1 set, where there is one
  abbrev pub set_behind : ℕ → ℕ → A → List A → List A
  set_behind skip k x rows = cond (ltb skip k) (set rows (k - suc skip) x) rows

  length-behind : (skip k : ℕ) (x : A) (rows : List A) → length (set_behind skip k x rows) ≡ length rows
  length-behind skip k x rows = go (ltb skip k)
    where
      go : (t : Bool) → length (cond t (set rows (k - suc skip) x) rows) ≡ length rows
      go true = length-set rows (k - suc skip) x
      go false = refl

  behind-same : (skip j : ℕ) (x d : A) (rows : List A) → j < length rows → get_or (set_behind skip (suc (skip + j)) x rows) j d ≡ x
  behind-same skip j x d rows l =
      let i : suc (skip + j) - suc skip ≡ j = omega arith in
      ap (λ (t : Bool). get_or (cond t (set rows (suc (skip + j) - suc skip) x) rows) j d) (lt-ltb skip (suc (skip + j)) (omega arith))
      ∙ ap (λ (n : ℕ). get_or (set rows n x) j d) i ∙ get_or-set_same rows j x d l

  behind_other : (skip k j : ℕ) (x d : A) (rows : List A) → (k ≡ suc (skip + j) → ⊥) → get_or (set_behind skip k x rows) j d ≡ get_or rows j d
  behind_other skip k j x d rows n = go (ltb skip k) refl
    where
      go : (t : Bool) → ltb skip k ≡ t → get_or (cond t (set rows (k - suc skip) x) rows) j d ≡ get_or rows j d
      go true e = get_or-set_other rows (k - suc skip) j x d (λ q. n (omega (arith, ltb-true skip k e)))
      go false e = refl

module _ {A : Type 0} (f : List ℕ → A) (skip : ℕ) where
  -- rows with those of some parts set in them, one after another
  unfoldable pub scattered : List (List ℕ) → List A → List A
  scattered [] rows = rows
  scattered (p ∷ ps) rows = scattered ps (set_behind skip (index_of p) (f p) rows)

  length_scattered : (ps : List (List ℕ)) (rows : List A) → length (scattered ps rows) ≡ length rows
  unfolding scattered
  length_scattered [] rows = refl
  length_scattered (p ∷ ps) rows = length_scattered ps (set_behind skip (index_of p) (f p) rows) ∙ length-behind skip (index_of p) (f p) rows

  -- a row whose index no part has stays
  row_kept : (ps : List (List ℕ)) (rows : List A) (j : ℕ) (d : A) → length (indexed (suc (skip + j)) ps) ≡ 0 → get_or (scattered ps rows) j d ≡ get_or rows j d
  unfolding scattered
  row_kept [] rows j d l = refl
  row_kept (p ∷ ps) rows j d l = go (eqb (index_of p) (suc (skip + j))) refl (row_kept ps (set_behind skip (index_of p) (f p) rows) j d)
    where
      go : (t : Bool) → eqb (index_of p) (suc (skip + j)) ≡ t → (length (indexed (suc (skip + j)) ps) ≡ 0 → get_or (scattered ps (set_behind skip (index_of p) (f p) rows)) j d ≡ get_or (set_behind skip (index_of p) (f p) rows) j d)
          → get_or (scattered ps (set_behind skip (index_of p) (f p) rows)) j d ≡ get_or rows j d
      go true e ih = absurd (omega (arith, l, ap length (indexed_own (suc (skip + j)) p ps (eqb-true (index_of p) (suc (skip + j)) e))))
      go false e ih =
          let n : index_of p ≡ suc (skip + j) → ⊥ = eqb-false (index_of p) (suc (skip + j)) e in
          ih (sym (ap length (indexed_other (suc (skip + j)) p ps n)) ∙ l) ∙ behind_other skip (index_of p) j (f p) d rows n

  -- and one that a part has is that part's
  row_placed : (ps : List (List ℕ)) (rows : List A) (j : ℕ) (d : A) → j < length rows → length (indexed (suc (skip + j)) ps) ≡ 1 → get_or (scattered ps rows) j d ≡ f (part_at (suc (skip + j)) ps)
  unfolding scattered part_at
  row_placed [] rows j d m l = absurd (unfold indexed in omega arith)
  row_placed (p ∷ ps) rows j d m l =
      go (eqb (index_of p) (suc (skip + j))) refl (row_kept ps (set_behind skip (index_of p) (f p) rows) j d)
      (row_placed ps (set_behind skip (index_of p) (f p) rows) j d (omega (arith, length-behind skip (index_of p) (f p) rows)))
    where
      go : (t : Bool) → eqb (index_of p) (suc (skip + j)) ≡ t
          → (length (indexed (suc (skip + j)) ps) ≡ 0 → get_or (scattered ps (set_behind skip (index_of p) (f p) rows)) j d ≡ get_or (set_behind skip (index_of p) (f p) rows) j d)
          → (length (indexed (suc (skip + j)) ps) ≡ 1 → get_or (scattered ps (set_behind skip (index_of p) (f p) rows)) j d ≡ f (get_or (indexed (suc (skip + j)) ps) 0 []))
          → get_or (scattered ps (set_behind skip (index_of p) (f p) rows)) j d ≡ f (get_or (indexed (suc (skip + j)) (p ∷ ps)) 0 [])
      go true e kept ih =
          let q : index_of p ≡ suc (skip + j) = eqb-true (index_of p) (suc (skip + j)) e in
          let r : indexed (suc (skip + j)) (p ∷ ps) ≡ p ∷ indexed (suc (skip + j)) ps = indexed_own (suc (skip + j)) p ps q in
          kept (omega (arith, l, ap length r)) ∙ ap (λ (n : ℕ). get_or (set_behind skip n (f p) rows) j d) q ∙ behind-same skip j (f p) d rows m ∙ sym (ap (λ (qs : List (List ℕ)). f (get_or qs 0 [])) r)
      go false e kept ih =
          let r : indexed (suc (skip + j)) (p ∷ ps) ≡ indexed (suc (skip + j)) ps = indexed_other (suc (skip + j)) p ps (eqb-false (index_of p) (suc (skip + j)) e) in
          ih (sym (ap length r) ∙ l) ∙ sym (ap (λ (qs : List (List ℕ)). f (get_or qs 0 [])) r)

  pub scattered_all : (ps : List (List ℕ)) (rows : List A) (count : ℕ) → Once 1 (length ps) ps → length rows ≡ count → skip + count ≤ length ps → scattered ps rows ≡ map f (take count (drop skip (by_index ps)))
  scattered_all ps rows count once n h =
      let window : List (List ℕ) = take count (drop skip (by_index ps)) in
      let many : length window ≡ count = omega (arith, length-take count (drop skip (by_index ps)), length-drop skip (by_index ps), length-by_index ps) in
      let same : length (scattered ps rows) ≡ length (map f window) = length_scattered ps rows ∙ n ∙ sym (length-map window f ∙ many) in
      ext_get_or (f []) (scattered ps rows) (map f window) same (λ j l.
      let m : j < length rows = omega (arith, length_scattered ps rows) in
      row_placed ps rows j (f []) m (once (suc (skip + j)) (omega arith) (omega arith))
      ∙ sym (get_or-map f window j [] ∙ ap f (get_or-take count (drop skip (by_index ps)) j [] (omega arith) ∙ get_or-drop skip (by_index ps) j [] ∙ by_index-at ps (skip + j) (omega arith))))

-- a row of k written at its place among rows of k
pub place_row : (n k i : ℕ) (rows : List (List ℕ)) (r : List ℕ) → Rows n k rows → i < n → length r ≡ k → splice (flatten rows) (i * k) r ≡ flatten (set rows i r)
unfolding flatten
place_row n k i [] r e h l = absurd (omega (arith, rows-count n k [] e))
place_row zero k i (x ∷ rows) r e h l = absurd (omega arith)
place_row (suc n) k zero (x ∷ rows) r e h l =
    let z : 0 * k ≡ 0 = omega arith in
    let m : 0 + length r ≡ length x = omega (arith, head-eq_of_cons-eq e) in
    ap (λ (j : ℕ). splice (x ++ flatten rows) j r) z ∙ ap {B = List ℕ} (λ y. r ++ y) (drop_at x (flatten rows) (0 + length r) (sym m))
place_row (suc n) k (suc i) (x ∷ rows) r e h l =
    let m : length x ≡ k = head-eq_of_cons-eq e in
    let z : suc i * k ≡ length x + i * k = omega (arith, suc-mul i k) in
    ap (λ (j : ℕ). splice (x ++ flatten rows) j r) z ∙ splice-behind x (flatten rows) (i * k) r ∙ ap {B = List ℕ} (λ y. x ++ y) (place_row n k i rows r (tail-eq_of_cons-eq e) (omega arith) l)
