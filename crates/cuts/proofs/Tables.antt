-- What a cut writes of a table, as bytes of the block: `trig-items` and `array-rows`, over the width, the rows and the setup.
use mathlib.Core.Path.{◌≡◌, refl, sym, ap, ◌∙◌}
use mathlib.Core.List.{List, [], ◌∷◌, ◌++◌, map, flatten}
use Prim.Native.Nat.{ℕ, zero, suc, ◌+◌, ◌-◌, ◌*◌, ◌≤◌, ◌<◌}
use native.Mathlib.Nat.{suc-mul, zero-mul}
use native.Mathlib.Omega.{arith}
use lib.Dec.{eqb}
use lib.ListN.{length, take, drop, get_or, length-map, length-replicate, get_or-map}
use lib.Seq.{drop-drop, get_or-take, get_or-drop}
use Rattle.rules.specs.Numbers.{Bytes, number, bytes, numbers, all_bytes}
use Rattle.rules.specs.Wave.{table}
use Rattle.rules.specs.Cut.{Setup, step, only, kept, count, one_if}
use Rattle.rules.proofs.Numbers.{below-take, below-drop, all_bytes_append}
use Rattle.rules.proofs.Samples.{row_is, number_at}
use Rattle.rules.proofs.Slices.{part-take}
use Rattle.rules.proofs.Thin.{count_kept, count_reach, get_d_kept}
use Rattle.rules.proofs.Rows.{Rows, only-rows}
use Rattle.rules.proofs.Cuts.{kept-rows, kept_nil}
use Rattle.rules.proofs.Waves.{length-numbers, table_is, table-rows}
use Rattle.copies.specs.Copies.{in_order, gather, part, items, rows_of}
use Rattle.copies.proofs.Laws.{gather_cong, gather_add, gather_cons, all_bytes-gather, length_part}
use Rattle.copies.proofs.Items.{rows-room}
use Rattle.copies.proofs.Head.{number_turned}

-- ---- lists put together

-- rows of n are one row
pub gather-gather : (f : ℕ → List ℕ) (g n : ℕ) → gather (λ i. gather (λ j. f (i * n + j)) n) g ≡ gather f (g * n)
gather-gather f zero n = ap (gather f) (sym (zero-mul n))
gather-gather f (suc g) n = ap (λ (r : List ℕ). r ++ gather (λ j. f (g * n + j)) n) (gather-gather f g n) ∙ sym (gather_add f (g * n) n) ∙ ap (gather f) (sym (suc-mul g n))

-- a part of a part
pub part-part : (l : List ℕ) (from n k w : ℕ) → k + w ≤ n → part (part l from n) k w ≡ part l (from + k) w
part-part l from n k w h = part-take w k n (drop from l) h ∙ ap (take w) (drop-drop k from l)

-- ---- numbers

module _ (q w : ℕ) where
  pub flat_gather : (t : List (List ℕ)) → all_bytes q w (flatten t) ≡ gather (λ i. all_bytes q w (get_or t i [])) (length t)
  unfolding flatten
  flat_gather [] = refl
  flat_gather (r ∷ rs) =
      all_bytes_append q w r (flatten rs) ∙ ap (λ (x : List ℕ). all_bytes q w r ++ x) (flat_gather rs) ∙ sym (gather_cons (λ i. all_bytes q w (get_or (r ∷ rs) i [])) (length rs))

-- ---- numbers that stand in the block from `from`

module _ (o q w : ℕ) (b : List ℕ) (from len : ℕ) (ho : o ≤ 1) (hq : q ≤ 1) (hb : Bytes b) (room : from + len ≤ length b) where
  number_item : (n j : ℕ) → n * w ≡ len → j < n → bytes q w (get_or (numbers o w n (part b from len)) j 0) ≡ in_order (eqb o q) (part b (from + j * w) w)
  number_item n j e h =
      let r : j * w + w ≤ len = omega (arith, rows-room j n w h) in
      let p : part (part b from len) (j * w) w ≡ part b (from + j * w) w = part-part b from len (j * w) w r in
      ap (bytes q w) (number_at o w n j (part b from len) h ∙ ap (number o) p)
      ∙ number_turned o q w (part b (from + j * w) w) ho hq (below-take 256 w (drop (from + j * w) b) (below-drop 256 (from + j * w) b hb)) (length_part b (from + j * w) w (omega arith))

  rows-count : (g k : ℕ) (t : List (List ℕ)) → Rows g k t → length t ≡ g
  rows-count g k t r = sym (length-map t length) ∙ ap length r ∙ length-replicate g k

  only_at : (sn i g : ℕ) (t : List (List ℕ)) → i < one_if sn g → get_or (only sn t) i [] ≡ get_or t (sn - 1 + i) []
  only_at zero i g t h = let e : i ≡ 0 - 1 + i = omega arith in ap (λ (j : ℕ). get_or t j []) e
  only_at (suc n) i g t h =
      let z : i ≡ 0 = omega arith in
      let e : n + 0 ≡ suc n - 1 + i = omega arith in
      ap (λ (j : ℕ). get_or (take 1 (drop n t)) j []) z ∙ get_or-take 1 (drop n t) 0 [] (omega arith) ∙ get_or-drop n t 0 [] ∙ ap (λ (j : ℕ). get_or t j []) e

  only-room : (sn i g : ℕ) → sn ≤ g → i < one_if sn g → sn - 1 + i < g
  only-room zero i g h l = omega arith
  only-room (suc n) i g h l = omega arith

  module _ (g k : ℕ) (pw : 0 < w) (pg : 0 < g) (size : len ≡ g * k * w) (s : Setup) (hs : s.sn ≤ g) where
    t-length : length (part b from len) ≡ g * k * w
    t-length = length_part b from len room ∙ size

    t-below : Bytes (part b from len)
    t-below = below-take 256 len (drop from b) (below-drop 256 from b hb)

    t-rows : Rows g k (table o w g (part b from len))
    t-rows = table-rows o w g k (part b from len) pw pg t-below t-length

    -- row r of the table
    row_at : (r : ℕ) → r < g → get_or (table o w g (part b from len)) r [] ≡ part (numbers o w (g * k) (part b from len)) (r * k) k
    row_at r h = ap (λ (u : List (List ℕ)). get_or u r []) (table_is o w g k (part b from len) pw pg t-below t-length) ∙ row_is g k r (numbers o w (g * k) (part b from len)) h

    -- number j of row r
    in_row : (r j : ℕ) → r < g → j < k → bytes q w (get_or (part (numbers o w (g * k) (part b from len)) (r * k) k) j 0) ≡ in_order (eqb o q) (part b (from + (r * k + j) * w) w)
    in_row r j hr hj =
        ap (bytes q w) (get_or-take k (drop (r * k) (numbers o w (g * k) (part b from len))) j 0 hj ∙ get_or-drop (r * k) (numbers o w (g * k) (part b from len)) j 0)
        ∙ number_item (g * k) (r * k + j) (sym size) (omega (arith, rows-room r g k hr))

    row_length : (r : ℕ) → r < g → length (part (numbers o w (g * k) (part b from len)) (r * k) k) ≡ k
    row_length r h = length_part (numbers o w (g * k) (part b from len)) (r * k) k (omega (arith, rows-room r g k h, length-numbers o w (g * k) (part b from len)))

    pub trig-items : all_bytes q w (flatten (only s.sn (table o w g (part b from len)))) ≡ items (eqb o q) b (from + (s.sn - 1) * (k * w)) w w (one_if s.sn g * k)
    trig-items =
        let u : List (List ℕ) = only s.sn (table o w g (part b from len)) in
        let m : ℕ = one_if s.sn g in
        let f : ℕ → List ℕ = λ j. in_order (eqb o q) (part b (from + (s.sn - 1) * (k * w) + j * w) w) in
        flat_gather q w u
        ∙ ap (gather (λ i. all_bytes q w (get_or u i []))) (rows-count m k u (only-rows s.sn g k (table o w g (part b from len)) hs t-rows))
        ∙ gather_cong (λ i. all_bytes q w (get_or u i [])) (λ i. gather (λ j. f (i * k + j)) k) m (λ i h. one_row i h)
        ∙ gather-gather f m k
      where
        one_row : (i : ℕ) → i < one_if s.sn g
            → all_bytes q w (get_or (only s.sn (table o w g (part b from len))) i []) ≡ gather (λ j. in_order (eqb o q) (part b (from + (s.sn - 1) * (k * w) + (i * k + j) * w) w)) k
        one_row i h =
            let r : ℕ = s.sn - 1 + i in
            let hr : r < g = only-room s.sn i g hs h in
            let row : List ℕ = part (numbers o w (g * k) (part b from len)) (r * k) k in
            ap (all_bytes q w) (only_at s.sn i g (table o w g (part b from len)) h ∙ row_at r hr)
            ∙ all_bytes-gather q w row
            ∙ ap (gather (λ j. bytes q w (get_or row j 0))) (row_length r hr)
            ∙ gather_cong (λ j. bytes q w (get_or row j 0)) (λ j. in_order (eqb o q) (part b (from + (s.sn - 1) * (k * w) + (i * k + j) * w) w)) k
            (λ j hj. in_row r j hr hj ∙ ap (λ (x : ℕ). in_order (eqb o q) (part b x w)) (place j))
          where
            place : (j : ℕ) → from + ((s.sn - 1 + i) * k + j) * w ≡ from + (s.sn - 1) * (k * w) + (i * k + j) * w
            place j = omega arith

    pub array-rows : all_bytes q w (flatten (map (kept s) (only s.sn (table o w g (part b from len)))))
        ≡ rows_of (eqb o q) b (from + (s.sn - 1) * (k * w) + s.fp * w) (k * w) (one_if s.sn g) (step s * w) w (count s k)
    array-rows =
        let u : List (List ℕ) = map (kept s) (only s.sn (table o w g (part b from len))) in
        let m : ℕ = one_if s.sn g in
        flat_gather q w u
        ∙ ap (gather (λ i. all_bytes q w (get_or u i []))) (rows-count m (count s k) u (kept-rows s m k (only s.sn (table o w g (part b from len))) (only-rows s.sn g k (table o w g (part b from len)) hs t-rows)))
        ∙ gather_cong (λ i. all_bytes q w (get_or u i [])) (λ i. items (eqb o q) b (from + (s.sn - 1) * (k * w) + s.fp * w + i * (k * w)) (step s * w) w (count s k)) m (λ i h. one_row i h)
      where
        one_row : (i : ℕ) → i < one_if s.sn g
            → all_bytes q w (get_or (map (kept s) (only s.sn (table o w g (part b from len)))) i [])
            ≡ items (eqb o q) b (from + (s.sn - 1) * (k * w) + s.fp * w + i * (k * w)) (step s * w) w (count s k)
        one_row i h =
            let r : ℕ = s.sn - 1 + i in
            let hr : r < g = only-room s.sn i g hs h in
            let row : List ℕ = part (numbers o w (g * k) (part b from len)) (r * k) k in
            let v : List (List ℕ) = only s.sn (table o w g (part b from len)) in
            let e : get_or (map (kept s) v) i [] ≡ kept s row =
            ap (λ (d : List ℕ). get_or (map (kept s) v) i d) (sym (kept_nil s)) ∙ get_or-map (kept s) v i [] ∙ ap (kept s) (only_at s.sn i g (table o w g (part b from len)) h ∙ row_at r hr) in
            let n : length (kept s row) ≡ count s k = count_kept s row ∙ ap (count s) (row_length r hr) in
            ap (all_bytes q w) e
            ∙ all_bytes-gather q w (kept s row)
            ∙ ap (gather (λ j. bytes q w (get_or (kept s row) j 0))) n
            ∙ gather_cong (λ j. bytes q w (get_or (kept s row) j 0)) (λ j. in_order (eqb o q) (part b (from + (s.sn - 1) * (k * w) + s.fp * w + i * (k * w) + j * (step s * w)) w)) (count s k)
            (λ j hj. ap (bytes q w) (get_d_kept s row j 0 (omega arith)) ∙ in_row r (s.fp + step s * j) hr (count_reach s j k hj) ∙ ap (λ (x : ℕ). in_order (eqb o q) (part b x w)) (place j))
          where
            place : (j : ℕ) → from + ((s.sn - 1 + i) * k + (s.fp + step s * j)) * w ≡ from + (s.sn - 1) * (k * w) + s.fp * w + i * (k * w) + j * (step s * w)
            place j = omega arith
