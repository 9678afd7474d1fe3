-- The tables by index: each can be placed by the first part's layout (`can_place`), is what the joined block has (`placed`), and is n times as long as the first's (`table-long`).
use mathlib.Core.Path.{◌≡◌, refl, sym, ap, ◌∙◌, subst}
use Prim.Native.Nat.{ℕ, zero, suc, ◌+◌, ◌-◌, ◌*◌, ◌≤◌, ◌<◌}
use native.Mathlib.Nat.{suc-mul}
use native.Mathlib.Omega.{arith}
use mathlib.Core.Bool.{Bool, true, false}
use mathlib.Core.List.{List, [], ◌∷◌, ◌++◌, map, flatten, append-nil}
use lib.ListN.{length, get_or, take, drop, length-append, length-take}
use lib.Seq.{take_all}
use lib.Dec.{leb}
use borrow.Author.Tests.{leb-true, leb-false}
use Rattle.rules.specs.Numbers.{Bytes, splice, starts_from}
use Rattle.rules.specs.Wave.{order_of, lengths_of, starts_of}
use Rattle.rules.specs.Rules.{payload_start, stated, opened}
use Rattle.rules.proofs.Opened.{good-opened}
use Rattle.copies.specs.Copies.{gather}
use Rattle.rules.proofs.Splices.{splice_none}
use Rattle.copies.proofs.Laws.{splice-splice, gather_add, length_part}
use Rattle.joining.specs.Join.{part_end, parts_in, by_index}
use Rattle.joining.proofs.Lists.{Every, every_map, no_elements}
use Rattle.joining.proofs.Parts.{parts_none, parts_next}
use Rattle.joining.proofs.Index.{length-by_index, every_by_index}
use Rattle.parts.specs.Parts.{Placeable, row_of, rows_of}
use Rattle.parts.proofs.Tables.{first-bytes, first_good, first_ends, placeable, table-rows, stretch_ends}
use Rattle.fronts.specs.declared.Lead.{Lead}
use Rattle.fronts.specs.Fronts.{lead_of}
use Rattle.joins.specs.Steps.{Counted, Gathered, start_by, table_of, tables_to}

flat_length : (f : List ℕ → List ℕ) (w : ℕ) (xs : List (List ℕ)) → Every (λ p. length (f p) ≡ w) xs → length (flatten (map f xs)) ≡ length xs * w
unfolding flatten
flat_length f w [] h = omega arith
flat_length f w (x ∷ xs) h = omega (arith, length-append (f x) (flatten (map f xs)), h.0, flat_length f w xs h.1, suc-mul (length xs) w)

-- what is gathered only grows
gather_grows : (f : ℕ → List ℕ) (k m : ℕ) → length (gather f k) ≤ length (gather f (k + m))
gather_grows f k m = omega (arith, ap length (gather_add f k m), length-append (gather f k) (gather (λ j. f (k + j)) m))

-- a table starts where the one before it ends
starts_next : (a : ℕ) (ls : List ℕ) (i : ℕ) → suc i < length ls → get_or (starts_from a ls) (suc i) 0 ≡ get_or (starts_from a ls) i 0 + get_or ls i 0
unfolding starts_from
starts_next a [] i h = absurd (omega arith)
starts_next a (x ∷ []) zero h = absurd (omega arith)
starts_next a (x ∷ y ∷ ls) zero h = refl
starts_next a (x ∷ ls) (suc i) h = starts_next (a + x) ls i (omega arith)

-- the first part stands at the slice's start
module _ (s : List ℕ) where
  pub first-within : length (get_or (parts_in s) 0 []) ≤ length s
  first-within = go s
    where
      go : (s : List ℕ) → length (get_or (parts_in s) 0 []) ≤ length s
      go [] = omega (arith, ap (λ (ps : List (List ℕ)). length (get_or ps 0 [])) parts_none)
      go (x ∷ s) = let p : List ℕ = x ∷ s in omega (arith, ap (λ (ps : List (List ℕ)). length (get_or ps 0 [])) (parts_next p (omega arith)), length-take (part_end p) p)

-- nothing is written of a table that is not there
pub rows_none : (s out : List ℕ) (from size n at : ℕ) → size < 1 → out ≡ splice out at (rows_of from size 0 n s)
rows_none s out from size n at z =
    let e : size ≡ 0 = omega arith in
    let ps : List (List ℕ) = take n (by_index (parts_in s)) in
    splice_none out at ∙ ap (splice out at) (sym (ap (λ (w : ℕ). rows_of from w 0 n s) e ∙ no_elements (rows_of from 0 0 n s) (flat_length (row_of from 0) 0 ps (every-part ps) ∙ omega arith)))
  where
    every-part : (ps : List (List ℕ)) → Every (λ p. length (row_of from 0 p) ≡ 0) ps
    every-part [] = tt
    every-part (p ∷ ps) = (length-take 0 (drop (payload_start p + from) p) ∙ omega arith, every-part ps)

-- the first part, by where it ends
take_own : (k : ℕ) (s : List ℕ) → take (length (take k s)) s ≡ take k s
take_own k s = go (leb k (length s)) refl
  where
    go : (t : Bool) → leb k (length s) ≡ t → take (length (take k s)) s ≡ take k s
    go true e = let m : length (take k s) ≡ k = omega (arith, length-take k s, leb-true k (length s) e) in ap (λ (n : ℕ). take n s) m
    go false e =
        let l : length s < k = leb-false k (length s) e in
        take_all (length (take k s)) s (omega (arith, length-take k s)) ∙ sym (take_all k s (omega arith))

pub first_part_lem : (s : List ℕ) (end : ℕ) → 1 ≤ length (parts_in s) → end ≡ length (get_or (parts_in s) 0 []) → take (end - 0) (drop 0 s) ≡ get_or (parts_in s) 0 []
first_part_lem [] end h e = absurd (omega (arith, ap length parts_none))
first_part_lem (x ∷ t) end h e =
    let s : List ℕ = x ∷ t in
    let f : get_or (parts_in s) 0 [] ≡ take (part_end s) s = ap (λ (ps : List (List ℕ)). get_or ps 0 []) (parts_next s (omega arith)) in
    let m : end - 0 ≡ length (take (part_end s) s) = omega (arith, ap length f) in
    ap (λ (n : ℕ). take n s) m ∙ take_own (part_end s) s ∙ sym f

pub gathered_by : (s : List ℕ) (lead : Lead) (n end : ℕ) → Counted s n end → lead ≡ lead_of (take (end - 0) (drop 0 s)) → Gathered s lead n end
gathered_by s lead n end k e = record { together = k.together; leads = e ∙ ap lead_of (first_part_lem s end k.together.some k.ends); count = k.count; ends = k.ends }

module _ (s : List ℕ) (b : Bytes s) (lead : Lead) (n end : ℕ) (g : Gathered s lead n end) where
  abbrev first_part : List ℕ
  first_part = get_or (parts_in s) 0 []

  -- L of the parts
  pub long_is : end - lead.start ≡ stated first_part
  long_is =
      let q : lead.start ≡ payload_start first_part = ap (λ (x : Lead). x.start) g.leads in
      omega (arith, q, g.ends, first_ends s b g.together)

  pub start-within : lead.start ≤ end
  start-within =
      let q : lead.start ≡ payload_start first_part = ap (λ (x : Lead). x.start) g.leads in
      omega (arith, q, g.ends, first_ends s b g.together)

  pub can_place : Placeable lead.order (end - lead.start) s
  can_place = subst (λ (x : ℕ). Placeable x (end - lead.start) s) (sym (ap (λ (x : Lead). x.order) g.leads)) (subst (λ (x : ℕ). Placeable (order_of (opened first_part).head) x s) (sym long_is) (placeable s b g.together))

  module _ (i : ℕ) (l : i < 10) where
    pub row_ends : start_by lead i + get_or lead.lengths i 0 ≤ end - lead.start
    unfolding starts_of
    row_ends =
        subst (λ (x : Lead). start_by x i + get_or x.lengths i 0 ≤ end - lead.start) (sym g.leads)
        (subst (λ (x : ℕ). get_or (starts_of (opened first_part).head) i 0 + get_or (lengths_of (opened first_part).head) i 0 ≤ x) (sym long_is) (stretch_ends first_part (first-bytes s b g.together) (first_good s b g.together) i l))

    rows_are : flatten (map (row_of (start_by lead i) (get_or lead.lengths i 0)) (by_index (parts_in s))) ≡ table_of i s
    unfolding starts_of
    rows_are =
        ap (λ (x : Lead). flatten (map (row_of (start_by x i) (get_or x.lengths i 0)) (by_index (parts_in s)))) g.leads
        ∙ ap (flatten {A = ℕ}) (table-rows s b g.together i l)

    pub placed : rows_of (start_by lead i) (get_or lead.lengths i 0) 0 n s ≡ table_of i s
    placed =
        ap (λ (ps : List (List ℕ)). flatten (map (row_of (start_by lead i) (get_or lead.lengths i 0)) ps)) (take_all n (by_index (parts_in s)) (omega (arith, g.count, length-by_index (parts_in s))))
        ∙ rows_are

    pub table-long : length (table_of i s) ≡ n * get_or lead.lengths i 0
    table-long =
        let from : ℕ = start_by lead i in
        let size : ℕ = get_or lead.lengths i 0 in
        sym (ap length rows_are)
        ∙ flat_length (row_of from size) size (by_index (parts_in s))
        (every_by_index (λ p. length (row_of from size p) ≡ size) (parts_in s) g.together.once (every_map (λ p r. length_part p (payload_start p + from) size (omega (arith, r.whole, row_ends))) (parts_in s) can_place.sound))
        ∙ ap (λ (m : ℕ). m * size) (length-by_index (parts_in s) ∙ sym g.count)

  -- ---- the five lengths from the third on

  pub first-start : get_or lead.lengths 0 0 + get_or lead.lengths 1 0 + get_or lead.lengths 2 0 ≡ start_by lead 3
  unfolding starts_from
  first-start = subst (λ (x : Lead). get_or x.lengths 0 0 + get_or x.lengths 1 0 + get_or x.lengths 2 0 ≡ start_by x 3) (sym g.leads) (omega arith)

  pub next_start : (k : ℕ) → k < 5 → start_by lead (3 + k) + get_or lead.lengths (3 + k) 0 ≡ start_by lead (3 + (k + 1))
  next_start k l =
      let e : suc (3 + k) ≡ 3 + (k + 1) = omega arith in
      sym (starts_next 0 lead.lengths (3 + k) (omega (arith, ap (λ (x : Lead). length x.lengths) g.leads))) ∙ ap (start_by lead) e

  -- the RES one among them is 0
  none_reserved : table_of 5 s ≡ []
  none_reserved =
      let z : get_or lead.lengths 5 0 ≡ 0 = ap (λ (x : Lead). get_or x.lengths 5 0) g.leads ∙ (good-opened first_part (first-bytes s b g.together) (first_good s b g.together)).tile.none.1.0 in
      no_elements (table_of 5 s) (table-long 5 (omega arith) ∙ ap (λ (x : ℕ). n * x) z ∙ omega arith)

  pub five_tables : tables_to 5 s ≡ table_of 3 s ++ table_of 4 s ++ table_of 6 s ++ table_of 7 s
  five_tables = ap (λ (x : List ℕ). table_of 3 s ++ table_of 4 s ++ x ++ table_of 6 s ++ table_of 7 s) none_reserved ∙ ap (λ (x : List ℕ). x ++ table_of 6 s ++ table_of 7 s) (append-nil (table_of 3 s ++ table_of 4 s))

  pub table-room : (k : ℕ) → k < 5 → length (tables_to k s) + n * get_or lead.lengths (3 + k) 0 ≤ length (tables_to 5 s)
  table-room k l =
      let f : ℕ → List ℕ = λ j. table_of (3 + j) s in
      let e : suc k + (4 - k) ≡ 5 = omega arith in
      omega (arith, gather_grows f (suc k) (4 - k), ap (λ (m : ℕ). length (gather f m)) e, length-append (tables_to k s) (table_of (3 + k) s), table-long (3 + k) (omega arith))

  -- one table more
  pub next_table : (k : ℕ) → k < 5 → (length (tables_to (k + 1) s) ≡ length (tables_to k s) + n * get_or lead.lengths (3 + k) 0)
      × ((out : List ℕ) (at : ℕ) → at + length (tables_to k s) ≤ length out → splice (splice out at (tables_to k s)) (at + length (tables_to k s)) (table_of (3 + k) s) ≡ splice out at (tables_to (k + 1) s))
  next_table k l =
      let f : ℕ → List ℕ = λ j. table_of (3 + j) s in
      let e : suc k ≡ k + 1 = omega arith in
      let q : tables_to k s ++ table_of (3 + k) s ≡ tables_to (k + 1) s = ap (gather f) e in
      (sym (ap length q) ∙ length-append (tables_to k s) (table_of (3 + k) s) ∙ ap (λ (m : ℕ). length (tables_to k s) + m) (table-long (3 + k) (omega arith)), λ out at h. splice-splice out at (tables_to k s) (table_of (3 + k) s) h ∙ ap (splice out at) q)
