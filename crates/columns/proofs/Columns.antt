-- Columns: each point is in one and no other (`one-column`), and none is empty (`start_grows`). So the least of the columns' leasts is that of all samples
-- (`columns-joined`), and joining neighbours gives the columns of half as many (`pairs-columns`); the same of greatests.
use mathlib.Core.Path.{◌≡◌, refl, sym, ap, ap₂, ◌∙◌}
use Prim.Native.Nat.{ℕ, zero, suc, ◌+◌, ◌*◌, ◌/◌, ◌≤◌, ◌<◌}
use native.Mathlib.Nat.{le_trans, zero-mul, suc-mul, zero-div, mul_right_comm, mul-le-mul_right, div-mul-le_self, le-div_iff_mul-le, mul-div_right, mul-div-mul_right}
use native.Mathlib.Omega.{arith}
use mathlib.Core.Bool.{Bool, true, false}
use mathlib.Core.List.{List, ◌∷◌, ◌++◌, map, flatten, map-map}
use lib.ListN.{length}
use lib.Dec.{leb, ltb}
use lib.IntN.{ℤ}
use borrow.Author.Tests.{ltb-true, ltb-false, leb-true, leb-false}
use Rattle.rules.specs.Numbers.{up_from}
use Rattle.columns.specs.Columns.{joined, run, start, InColumn, column, columns, pairs}
use Rattle.columns.proofs.Extremes.{Picks, Filled, joined_append, joined-flatten}
use Rattle.columns.proofs.Runs.{run_length, run_none, run_join}

-- ---- where columns start

module _ (m w : ℕ) where
  pub start_zero : start m w 0 ≡ 0
  unfolding start
  start_zero = ap (λ (n : ℕ). n / w) (zero-mul m) ∙ zero-div w

  pub start-end : 0 < w → start m w w ≡ m
  unfolding start
  start-end p = mul-div_right m p

  pub start_mono : 0 < w → (q r : ℕ) → q ≤ r → start m w q ≤ start m w r
  unfolding start
  start_mono p q r h = (le-div_iff_mul-le p).1 (le_trans (div-mul-le_self (q * m) w) (mul-le-mul_right m h))

  -- no column is empty where there are no more than points
  pub start_grows : 0 < w → w ≤ m → (q : ℕ) → start m w q < start m w (suc q)
  unfolding start
  start_grows p h q = (le-div_iff_mul-le p).1 (omega (arith, suc-mul (q * m / w) w, suc-mul q m, div-mul-le_self (q * m) w))

-- half as many columns start at every second place
start_half : (m v q : ℕ) → start m (v * 2) (q * 2) ≡ start m v q
unfolding start
start_half m v q = ap (λ (n : ℕ). n / (v * 2)) (mul_right_comm q 2 m) ∙ mul-div-mul_right (q * m) v (omega arith)

-- ---- each point is in exactly one column

module _ (m w k : ℕ) (p : 0 < w) (l : k < m) where
  some-column : (q : ℕ) → k < start m w q → (r : ℕ) × (r < q) × (start m w r ≤ k) × (k < start m w (suc r))
  some-column zero h = absurd (omega (arith, start_zero m w))
  some-column (suc q) h = go (leb (start m w q) k) refl (some-column q)
    where
      go : (b : Bool) → leb (start m w q) k ≡ b → (k < start m w q → (r : ℕ) × (r < q) × (start m w r ≤ k) × (k < start m w (suc r)))
          → (r : ℕ) × (r < suc q) × (start m w r ≤ k) × (k < start m w (suc r))
      go true e ih = (q, omega arith, leb-true (start m w q) k e, h)
      go false e ih = let r = ih (leb-false (start m w q) k e) in (r.0, omega (arith, r.1), r.2, r.3)

  one_only : (q r : ℕ) → InColumn m w k q → InColumn m w k r → q ≤ r
  one_only q r a b = go (ltb r q) refl
    where
      go : (t : Bool) → ltb r q ≡ t → q ≤ r
      go true e = absurd (omega (arith, start_mono m w p (suc r) q (ltb-true r q e), a.from, b.to))
      go false e = ltb-false r q e

  pub one-column : (q : ℕ) × InColumn m w k q × ((r : ℕ) → InColumn m w k r → q ≡ r)
  one-column =
      let c = some-column w (omega (arith, start-end m w p)) in
      let i : InColumn m w k c.0 = record { column = c.1; from = c.2; to = c.3 } in
      (c.0, i, λ r j. omega (arith, one_only c.0 r i j, one_only r c.0 j i))

-- ---- one column after another

module _ (f : ℕ → ℤ) (m w : ℕ) (p : 0 < w) where
  columns-run : (n i : ℕ) → flatten (map (column f m w) (up_from i n)) ≡ run f (start m w i) (start m w (i + n))
  unfolding up_from flatten
  columns-run zero i = let e : i ≡ i + 0 = omega arith in sym (run_none f (start m w i)) ∙ ap (λ (j : ℕ). run f (start m w i) (start m w j)) e
  columns-run (suc n) i =
      let e : suc i + n ≡ i + suc n = omega arith in
      ap (λ (r : List ℤ). column f m w i ++ r) (columns-run n (suc i))
      ∙ run_join f (start m w i) (start m w (suc i)) (start m w (suc i + n)) (start_mono m w p i (suc i) (omega arith)) (start_mono m w p (suc i) (suc i + n) (omega arith))
      ∙ ap (λ (j : ℕ). run f (start m w i) (start m w j)) e

  -- the columns are all samples, in their order
  columns-all : flatten (map (column f m w) (up_from 0 w)) ≡ run f 0 m
  columns-all = let e : 0 + w ≡ w = omega arith in columns-run w 0 ∙ ap₂ (run f) (start_zero m w) (ap (start m w) e ∙ start-end m w p)

  module _ (l : w ≤ m) where
    pub column_filled : (q : ℕ) → 0 < length (column f m w q)
    column_filled q = omega (arith, run_length f (start m w q) (start m w (suc q)), start_grows m w p l q)

    all_filled : (n i : ℕ) → Filled (map (column f m w) (up_from i n))
    unfolding up_from
    all_filled zero i = tt
    all_filled (suc n) i = (column_filled i, all_filled n (suc i))

    -- the least of the columns' leasts is the least of all, and the greatest of the greatests the greatest
    pub columns-joined : (op : ℤ → ℤ → ℤ) (R : ℤ → ℤ → Bool) → Picks op R → joined op (columns op f m w) ≡ joined op (run f 0 m)
    columns-joined op R k =
        ap (joined op) (sym (map-map (joined op) (column f m w) (up_from 0 w))) ∙ joined-flatten op R k (map (column f m w) (up_from 0 w)) (all_filled w 0) ∙ ap (joined op) columns-all

-- ---- neighbouring columns

module _ (f : ℕ → ℤ) (m v : ℕ) (p : 0 < v) where
  column_halves : (q : ℕ) → column f m (v * 2) (q * 2) ++ column f m (v * 2) (suc (q * 2)) ≡ column f m v q
  column_halves q =
      let e : suc (suc (q * 2)) ≡ suc q * 2 = omega arith in
      run_join f (start m (v * 2) (q * 2)) (start m (v * 2) (suc (q * 2))) (start m (v * 2) (suc (suc (q * 2))))
      (start_mono m (v * 2) (omega arith) (q * 2) (suc (q * 2)) (omega arith)) (start_mono m (v * 2) (omega arith) (suc (q * 2)) (suc (suc (q * 2))) (omega arith))
      ∙ ap₂ (run f) (start_half m v q) (ap (start m (v * 2)) e ∙ start_half m v (suc q))

  module _ (op : ℤ → ℤ → ℤ) (R : ℤ → ℤ → Bool) (k : Picks op R) (l : v * 2 ≤ m) where
    abbrev one : ℕ → ℕ → ℤ
    one w q = joined op (column f m w q)

    pair : (q : ℕ) → op (one (v * 2) (q * 2)) (one (v * 2) (suc (q * 2))) ≡ one v q
    pair q =
        sym (joined_append op R k (column f m (v * 2) (q * 2)) (column f m (v * 2) (suc (q * 2))) (column_filled f m (v * 2) (omega arith) l (q * 2)) (column_filled f m (v * 2) (omega arith) l (suc (q * 2))))
        ∙ ap (joined op) (column_halves q)

    pairs-run : (n i : ℕ) → pairs op (map (one (v * 2)) (up_from (i * 2) (n * 2))) ≡ map (one v) (up_from i n)
    unfolding pairs up_from
    pairs-run zero i = refl
    pairs-run (suc n) i =
        let e : suc n * 2 ≡ suc (suc (n * 2)) = omega arith in
        let g : suc (suc (i * 2)) ≡ suc i * 2 = omega arith in
        ap (λ (j : ℕ). pairs op (map (one (v * 2)) (up_from (i * 2) j))) e
        ∙ ap₂ {C = List ℤ} (λ x r. x ∷ r) (pair i) (ap (λ (j : ℕ). pairs op (map (one (v * 2)) (up_from j (n * 2)))) g ∙ pairs-run n (suc i))

    pub pairs-columns : pairs op (columns op f m (v * 2)) ≡ columns op f m v
    pairs-columns = pairs-run v 0
