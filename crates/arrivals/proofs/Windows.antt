-- Times by index, gathered in windows that share an end: what a window holds (`window_times`, `window_finite`), and that the times rise exactly where every window does (`past_window`, `window_falls`).
use mathlib.Core.Path.{◌≡◌, refl, sym, ap, ◌∙◌}
use Prim.Native.Nat.{ℕ, zero, suc, ◌+◌, ◌-◌, ◌*◌, ◌≤◌, ◌<◌, min}
use native.Mathlib.Nat.{suc-mul}
use native.Mathlib.Omega.{arith}
use mathlib.Core.Bool.{Bool, true, false, not, ◌&&◌, false≢true}
use mathlib.Core.List.{List, [], ◌∷◌, ◌++◌, map, flatten, append_assoc}
use lib.ListN.{length, get_or, take, drop, replicate, length-map, length-take, length-drop, get_or-map}
use lib.Seq.{take_at, drop_at, drop-drop, take_all, ext_get_or, get_or-take, get_or-drop}
use lib.Dec.{leb}
use borrow.Author.Tests.{leb-true, leb-false}
use lib.Ieee.{binary64, of_bits, lt}
use Rattle.rules.specs.Numbers.{number, up_from, splice}
use Rattle.rules.specs.Rules.{payload_start, ascending, finite64}
use Rattle.rules.proofs.Tests.{and_true, and_intro}
use Rattle.rules.proofs.Thin.{length-up_from, get_or-up_from}
use Rattle.copies.proofs.Laws.{length_part}
use Rattle.block.specs.Opened.{time_by, times_by}
use Rattle.joining.specs.Join.{parts_in, by_index}
use Rattle.joining.proofs.Lists.{Every, every_map, every_mapped, every_get_or}
use Rattle.joining.proofs.Index.{length-by_index, every_by_index}
use Rattle.parts.specs.Parts.{row_of, rows_of}
use Rattle.arrivals.specs.Arrivals.{part_time, times_at, Timed}

-- ---- lists that rise

past : (k : ℕ) (ts : List ℕ) → ascending (take (suc k) ts) ≡ true → ascending ts ≡ ascending (drop k ts)
past zero ts e = refl
past (suc k) [] e = refl
past (suc zero) (t ∷ []) e = refl
past (suc (suc k)) (t ∷ []) e = refl
past (suc k) (t ∷ u ∷ ts) e =
    let p = and_true (not (lt (of_bits binary64 u) (of_bits binary64 t))) (ascending (take (suc k) (u ∷ ts))) e in
    ap (λ (b : Bool). b && ascending (u ∷ ts)) p.0 ∙ past k (u ∷ ts) p.1

rises_taken : (k : ℕ) (ts : List ℕ) → ascending ts ≡ true → ascending (take k ts) ≡ true
rises_taken zero ts e = refl
rises_taken (suc k) [] e = refl
rises_taken (suc zero) (t ∷ ts) e = refl
rises_taken (suc (suc k)) (t ∷ []) e = refl
rises_taken (suc (suc k)) (t ∷ u ∷ ts) e =
    let p = and_true (not (lt (of_bits binary64 u) (of_bits binary64 t))) (ascending (u ∷ ts)) e in
    and_intro (not (lt (of_bits binary64 u) (of_bits binary64 t))) (ascending (take (suc k) (u ∷ ts))) p.0 (rises_taken (suc k) (u ∷ ts) p.1)

pub one_rises : (ts : List ℕ) → length ts ≤ 1 → ascending ts ≡ true
one_rises [] h = refl
one_rises (t ∷ []) h = refl
one_rises (t ∷ u ∷ ts) h = absurd (omega arith)

-- ---- windows of 32

module _ (ts : List ℕ) (n skip m : ℕ) (l : n ≡ length ts) (e : m ≡ min (n - skip) 32) where
  -- as many as there are
  window_is : take m (drop skip ts) ≡ take 32 (drop skip ts)
  window_is = go (leb (n - skip) 32) refl
    where
      go : (t : Bool) → leb (n - skip) 32 ≡ t → take m (drop skip ts) ≡ take 32 (drop skip ts)
      go true q =
          let f : n - skip ≤ 32 = leb-true (n - skip) 32 q in
          take_all m (drop skip ts) (omega (arith, length-drop skip ts)) ∙ sym (take_all 32 (drop skip ts) (omega (arith, length-drop skip ts)))
      go false q = let f : m ≡ 32 = omega (arith, leb-false (n - skip) 32 q) in ap (λ (k : ℕ). take k (drop skip ts)) f

  pub past_window : ascending (take m (drop skip ts)) ≡ true → ascending (drop skip ts) ≡ ascending (drop (skip + 31) ts)
  past_window r = past 31 (drop skip ts) (ap ascending (sym window_is) ∙ r) ∙ ap ascending (drop-drop 31 skip ts)

  pub window_falls : ascending (take m (drop skip ts)) ≡ false → ascending (drop skip ts) ≡ false
  window_falls r = go (ascending (drop skip ts)) refl
    where
      go : (t : Bool) → ascending (drop skip ts) ≡ t → ascending (drop skip ts) ≡ false
      go true q = absurd (false≢true (sym r ∙ rises_taken m (drop skip ts) q))
      go false q = q

pub last_window : (ts : List ℕ) (n skip : ℕ) → n ≡ length ts → n ≤ skip + 1 → ascending (drop skip ts) ≡ true
last_window ts n skip l h = one_rises (drop skip ts) (omega (arith, length-drop skip ts))

-- ---- what a window holds

-- row j of rows of k bytes
row_in : (k : ℕ) (rows : List (List ℕ)) (rest d : List ℕ) (j : ℕ) → Every (λ (r : List ℕ). length r ≡ k) rows → j < length rows → take k (drop (j * k) (flatten rows ++ rest)) ≡ get_or rows j d
unfolding flatten
row_in k [] rest d j h l = absurd (omega arith)
row_in k (r ∷ rows) rest d zero h l =
    let z : 0 * k ≡ 0 = omega arith in
    ap (λ (n : ℕ). take k (drop n (r ++ flatten rows ++ rest))) z ∙ ap (take k) (append_assoc r (flatten rows) rest) ∙ take_at r (flatten rows ++ rest) k h.0
row_in k (r ∷ rows) rest d (suc j) h l =
    let z : suc j * k ≡ k + j * k = omega (arith, suc-mul j k) in
    ap (λ (n : ℕ). take k (drop n (r ++ flatten rows ++ rest))) z ∙ ap (take k) (sym (drop-drop (j * k) k (r ++ flatten rows ++ rest)))
    ∙ ap (λ (x : List ℕ). take k (drop (j * k) x)) (ap (drop k) (append_assoc r (flatten rows) rest) ∙ drop_at r (flatten rows ++ rest) k h.0)
    ∙ row_in k rows rest d j h.1 (omega arith)

every_take : (P : List ℕ → Type 0) (n : ℕ) (ps : List (List ℕ)) → Every P ps → Every P (take n ps)
every_take P zero ps h = tt
every_take P (suc n) [] h = tt
every_take P (suc n) (p ∷ ps) h = (h.0, every_take P n ps h.1)

every_drop : (P : List ℕ → Type 0) (n : ℕ) (ps : List (List ℕ)) → Every P ps → Every P (drop n ps)
every_drop P zero ps h = h
every_drop P (suc n) [] h = tt
every_drop P (suc n) (p ∷ ps) h = every_drop P n ps h.1

module _ (order long trig skip count : ℕ) (s : List ℕ) (t : Timed order long trig s) (few : skip + count ≤ length (parts_in s)) (w : List ℕ)
    (e : w ≡ splice (replicate 256 0) 0 (rows_of trig 8 skip count s)) where
  window : List (List ℕ)
  window = take count (drop skip (by_index (parts_in s)))

  window_many : length window ≡ count
  unfolding window
  window_many = omega (arith, length-take count (drop skip (by_index (parts_in s))), length-drop skip (by_index (parts_in s)), length-by_index (parts_in s))

  rows_long : Every (λ (r : List ℕ). length r ≡ 8) (map (row_of trig 8) window)
  unfolding window
  rows_long =
      every_mapped (λ (r : List ℕ). length r ≡ 8) (row_of trig 8) window
      (every_take (λ (p : List ℕ). length (row_of trig 8 p) ≡ 8) count (drop skip (by_index (parts_in s)))
      (every_drop (λ (p : List ℕ). length (row_of trig 8 p) ≡ 8) skip (by_index (parts_in s))
      (every_by_index (λ (p : List ℕ). length (row_of trig 8 p) ≡ 8) (parts_in s) t.placeable.once
      (every_map (λ p q. length_part p (payload_start p + trig) 8 (omega (arith, q.whole, t.inside))) (parts_in s) t.placeable.sound))))

  time_in : (j : ℕ) → j < count → time_by order 0 8 w j ≡ part_time order trig (get_or (by_index (parts_in s)) (skip + j) [])
  unfolding window
  time_in j l =
      let rest : List ℕ = drop (0 + length (rows_of trig 8 skip count s)) (replicate 256 0) in
      let z : 0 + j * 8 ≡ j * 8 = omega arith in
      ap (λ (x : List ℕ). number order (take 8 (drop (0 + j * 8) x))) e ∙ ap (λ (n : ℕ). number order (take 8 (drop n (rows_of trig 8 skip count s ++ rest)))) z
      ∙ ap (number order) (row_in 8 (map (row_of trig 8) window) rest (row_of trig 8 []) j rows_long (omega (arith, length-map window (row_of trig 8), window_many))
      ∙ get_or-map (row_of trig 8) window j [])
      ∙ ap (part_time order trig) (get_or-take count (drop skip (by_index (parts_in s))) j [] l ∙ get_or-drop skip (by_index (parts_in s)) j [])

  pub window_finite : (j : ℕ) → j < count → finite64 (time_by order 0 8 w j) ≡ true
  window_finite j l =
      ap finite64 (time_in j l)
      ∙ every_get_or (λ p. finite64 (part_time order trig p) ≡ true) (by_index (parts_in s)) (skip + j) [] (omega (arith, length-by_index (parts_in s)))
      (every_by_index (λ p. finite64 (part_time order trig p) ≡ true) (parts_in s) t.placeable.once t.finite)

  pub window_times : times_by order 0 8 count w ≡ take count (drop skip (times_at order trig s))
  window_times =
      let all : length (times_at order trig s) ≡ length (parts_in s) = length-map (by_index (parts_in s)) (part_time order trig) ∙ length-by_index (parts_in s) in
      let a : length (times_by order 0 8 count w) ≡ count = length-map (up_from 0 count) (time_by order 0 8 w) ∙ length-up_from 0 count in
      let b : length (take count (drop skip (times_at order trig s))) ≡ count = omega (arith, length-take count (drop skip (times_at order trig s)), length-drop skip (times_at order trig s)) in
      ext_get_or (part_time order trig []) (times_by order 0 8 count w) (take count (drop skip (times_at order trig s))) (a ∙ sym b) (λ j l.
      let k : 0 + j ≡ j = omega arith in
      get_or-up_from (time_by order 0 8 w) 0 count j (part_time order trig []) (omega arith) ∙ ap (time_by order 0 8 w) k ∙ time_in j (omega arith)
      ∙ sym (get_or-take count (drop skip (times_at order trig s)) j (part_time order trig []) (omega arith) ∙ get_or-drop skip (times_at order trig s) j (part_time order trig [])
      ∙ get_or-map (part_time order trig) (by_index (parts_in s)) (skip + j) []))
