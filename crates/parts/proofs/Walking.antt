-- From part to part: what a loop over good parts reads of each (`index_read`, `row_read`), and what it has still to place (`Left`).
use mathlib.Core.Path.{◌≡◌, refl, sym, ap, ap₂, ◌∙◌, subst}
use Prim.Native.Nat.{ℕ, zero, suc, ◌+◌, ◌-◌, ◌*◌, ◌≤◌, ◌<◌}
use native.Mathlib.Nat.{mul-le-mul_right, suc-mul}
use native.Mathlib.Omega.{arith}
use mathlib.Core.Bool.{Bool, true, false, cond, ◌&&◌}
use mathlib.Core.List.{List, [], ◌∷◌, ◌++◌, map, flatten, append_assoc}
use lib.ListN.{length, get_or, take, drop, set, replicate, length-drop, drop_of_length-le, take-append-drop}
use lib.Seq.{drop-drop, length-take-le, map-set_same}
use lib.Dec.{ltb}
use borrow.Author.Tests.{ltb-true, ltb-false, lt-ltb, le-ltb}
use Rattle.rules.specs.Numbers.{Bytes, number, bytes, rows, splice}
use Rattle.rules.specs.Rules.{payload_start}
use Rattle.rules.proofs.Numbers.{flatten-pieces, lengths_pieces, total-replicate, bytes-number, below-take, below-drop}
use Rattle.rules.proofs.Rows.{Rows, total-rows, row_length}
use Rattle.numbers.proofs.Bools.{and_false}
use Rattle.copies.specs.Copies.{part}
use Rattle.copies.proofs.Laws.{splice-inside, length_part}
use Rattle.joining.specs.Join.{parts_in, index_of, by_index}
use Rattle.joining.proofs.Lists.{Every}
use Rattle.joining.proofs.Parts.{parts_none}
use Rattle.joining.proofs.Segments.{rows-count}
use Rattle.parts.specs.Parts.{this, Sound, Placeable, row_of, rows_of, placed}
use Rattle.parts.proofs.Standing.{reach, in_slice, byte_in, start_in, parts_left}
use Rattle.parts.proofs.Scattering.{set_behind, scattered, scattered_all, place_row}

-- ---- one good part

module _ (s : List ℕ) (here order long : ℕ) (h : here < length s) (p : Sound order long (this s here)) (wide : 346 ≤ long) where
  there : here + payload_start (this s here) + long ≤ length s
  there = omega (arith, reach s here h, p.whole)

  digit_in : get_or s (here + 1) 0 ≡ get_or (this s here) 1 0
  digit_in = sym (byte_in s here h 1 (omega (arith, p.whole)))

  pub header_there : (here + 11 < length s) × (49 ≤ get_or s (here + 1) 0) × (get_or s (here + 1) 0 ≤ 57)
  header_there = (omega (arith, there), omega (arith, digit_in, p.digit.0), omega (arith, digit_in, p.digit.1))

  module _ (start : ℕ) (e : start ≡ here + payload_start (drop here s)) where
    pub start_is : start ≡ here + payload_start (this s here)
    start_is = omega (arith, start_in s here)

    pub payload_reach : start + long ≤ length s
    payload_reach = omega (arith, start_is, there)

    pub further : here < start + long
    further = omega (arith, start_is)

    pub index_read : number order (take 4 (drop (start + 140) s)) ≡ index_of (this s here)
    index_read =
        let m : start + 140 ≡ here + (payload_start (this s here) + 140) = omega (arith, start_is) in
        ap (λ (n : ℕ). number order (take 4 (drop n s))) m ∙ ap (number order) (sym (in_slice s here h 4 (payload_start (this s here) + 140) (omega (arith, p.whole)))) ∙ p.index

    pub row_read : (from size : ℕ) → from + size ≤ long → part s (start + from) size ≡ row_of from size (this s here)
    row_read from size l =
        let m : start + from ≡ here + (payload_start (this s here) + from) = omega (arith, start_is) in
        ap (λ (n : ℕ). take size (drop n s)) m ∙ sym (in_slice s here h size (payload_start (this s here) + from) (omega (arith, p.whole)))

    pub next_parts : parts_in (drop here s) ≡ this s here ∷ parts_in (drop (start + long) s)
    next_parts = parts_left s here h (start + long) (omega (arith, start_is, p.whole))

-- ---- rows still to place

pub record Left (s : List ℕ) (order long from size skip count : ℕ) (out₀ : List ℕ) (at : ℕ) (out : List ℕ) (here : ℕ) : Type 0 where
  pub inside : here ≤ length s
  pub held : List (List ℕ)
  pub shaped : Rows count size held
  pub shown : out ≡ splice out₀ at (flatten held)
  pub left : scattered (row_of from size) skip (parts_in (drop here s)) held ≡ map (row_of from size) (take count (drop skip (by_index (parts_in s))))
  pub next : Every (Sound order long) (parts_in (drop here s))

splice_own : (l : List ℕ) (at n : ℕ) → at + n ≤ length l → l ≡ splice l at (take n (drop at l))
splice_own l at n h =
    let e : length (take n (drop at l)) ≡ n = length-take-le n (drop at l) (omega (arith, length-drop at l)) in
    sym (ap (λ (m : ℕ). take at l ++ take n (drop at l) ++ drop (at + m) l) e
    ∙ ap (λ (r : List ℕ). take at l ++ take n (drop at l) ++ r) (sym (drop-drop n at l))
    ∙ append_assoc (take at l) (take n (drop at l)) (drop n (drop at l))
    ∙ ap {B = List ℕ} (λ r. take at l ++ r) (take-append-drop n (drop at l)) ∙ take-append-drop at l)

set_past : {A : Type 0} (l : List A) (i : ℕ) (x : A) → length l ≤ i → set l i x ≡ l
set_past [] i x h = refl
set_past (y ∷ l) zero x h = absurd (omega arith)
set_past {A = A} (y ∷ l) (suc i) x h = ap {B = List A} (λ r. y ∷ r) (set_past l i x (omega arith))

-- a row's end is no further than the last's
pub row_room : (k count size : ℕ) → k < count → k * size + size ≤ count * size
row_room k count size l = let m : suc k * size ≤ count * size = mul-le-mul_right size l in omega (arith, suc-mul k size)

-- eight bytes, as a number and back
pub eight_bytes : (s : List ℕ) → Bytes s → (from size : ℕ) → size ≡ 8 → from + size ≤ length s → (n : ℕ) → n ≡ number 1 (part s from 8) → bytes 1 8 n ≡ part s from size
eight_bytes s b from size e h n q =
    let l : length (part s from 8) ≡ 8 = length_part s from 8 (omega arith) in
    ap (bytes 1 8) q ∙ ap (λ (w : ℕ). bytes 1 w (number 1 (part s from 8))) (sym l)
    ∙ bytes-number 1 (part s from 8) (below-take 256 8 (drop from s) (below-drop 256 from s b)) ∙ ap (part s from) (sym e)

-- an index that has no place, being too low or too high, and one that has
module _ (at size skip count k : ℕ) (row out : List ℕ) where
  pub before-all : k ≤ skip → placed at size skip count k row out ≡ out
  before-all h = ap (λ (t : Bool). cond (t && ltb (k - suc skip) count) (splice out (at + (k - suc skip) * size) row) out) (le-ltb skip k h)

  pub behind-all : count ≤ k - skip - 1 → placed at size skip count k row out ≡ out
  behind-all h = ap (λ (t : Bool). cond t (splice out (at + (k - suc skip) * size) row) out) (ap (λ (u : Bool). ltb skip k && u) (le-ltb (k - suc skip) count (omega arith)) ∙ and_false (ltb skip k))

  pub one_of : skip < k → k - skip - 1 < count → splice out (at + (k - skip - 1) * size) row ≡ placed at size skip count k row out
  one_of h l =
      let m : k - skip - 1 ≡ k - suc skip = omega arith in
      ap (λ (n : ℕ). splice out (at + n * size) row) m
      ∙ sym (ap₂ {C = List ℕ} (λ t u. cond (t && u) (splice out (at + (k - suc skip) * size) row) out) (lt-ltb skip k h) (lt-ltb (k - suc skip) count (omega arith)))

-- a row set in its place is a row set among those held
module _ (out₀ : List ℕ) (at size skip count k : ℕ) (held : List (List ℕ)) (row : List ℕ) (shaped : Rows count size held) (long : length row ≡ size) where
  rows-set : Rows count size (set_behind skip k row held)
  rows-set = go (ltb skip k) (ltb (k - suc skip) count) refl
    where
      go : (t u : Bool) → ltb (k - suc skip) count ≡ u → Rows count size (cond t (set held (k - suc skip) row) held)
      go false u e = shaped
      go true true e = map-set_same length held (k - suc skip) row [] (long ∙ sym (row_length count size (k - suc skip) held shaped (ltb-true (k - suc skip) count e))) ∙ shaped
      go true false e = subst (Rows count size) (sym (set_past held (k - suc skip) row (omega (arith, ltb-false (k - suc skip) count e, rows-count count size held shaped)))) shaped

  placed_is : (out : List ℕ) → at + count * size ≤ length out₀ → out ≡ splice out₀ at (flatten held) → placed at size skip count k row out ≡ splice out₀ at (flatten (set_behind skip k row held))
  placed_is out room shown = go (ltb skip k) (ltb (k - suc skip) count) refl
    where
      go : (t u : Bool) → ltb (k - suc skip) count ≡ u → cond (t && u) (splice out (at + (k - suc skip) * size) row) out ≡ splice out₀ at (flatten (cond t (set held (k - suc skip) row) held))
      go false u e = shown
      go true true e =
          let l : k - suc skip < count = ltb-true (k - suc skip) count e in
          let n : length (flatten held) ≡ count * size = total-rows count size held shaped in
          ap (λ (x : List ℕ). splice x (at + (k - suc skip) * size) row) shown
          ∙ splice-inside out₀ at ((k - suc skip) * size) (flatten held) row (omega arith) (omega (arith, row_room (k - suc skip) count size l))
          ∙ ap (splice out₀ at) (place_row count size (k - suc skip) held row shaped l long)
      go true false e =
          shown ∙ ap (λ (x : List (List ℕ)). splice out₀ at (flatten x)) (sym (set_past held (k - suc skip) row (omega (arith, ltb-false (k - suc skip) count e, rows-count count size held shaped))))

module _ (s : List ℕ) (order long from size skip count : ℕ) (out₀ : List ℕ) (at : ℕ) where
  pub left_first : Placeable order long s → skip + count ≤ length (parts_in s) → at + count * size ≤ length out₀ → Left s order long from size skip count out₀ at out₀ 0
  left_first p few room =
      let l : List ℕ = take (count * size) (drop at out₀) in
      let e : length l ≡ count * size = length-take-le (count * size) (drop at out₀) (omega (arith, length-drop at out₀)) in
      let r : Rows count size (rows count size l) = lengths_pieces (replicate count size) l (omega (arith, total-replicate count size)) in
      record {
        inside = omega arith;
        held = rows count size l;
        shaped = r;
        shown = splice_own out₀ at (count * size) room ∙ ap (splice out₀ at) (sym (flatten-pieces (replicate count size) l (total-replicate count size ∙ sym e)));
        left = scattered_all (row_of from size) skip (parts_in s) (rows count size l) count p.once (rows-count count size (rows count size l) r) few;
        next = p.sound;
      }

  module _ (out : List ℕ) (here : ℕ) (i : Left s order long from size skip count out₀ at out here) where
    pub left_end : length s ≤ here → out ≡ splice out₀ at (rows_of from size skip count s)
    unfolding scattered
    left_end h =
        let e : parts_in (drop here s) ≡ [] = ap parts_in (drop_of_length-le s {i = here} h) ∙ parts_none in
        let r : i.held ≡ map (row_of from size) (take count (drop skip (by_index (parts_in s)))) = sym (ap (λ (ps : List (List ℕ)). scattered (row_of from size) skip ps i.held) e) ∙ i.left in
        i.shown ∙ ap (λ (x : List (List ℕ)). splice out₀ at (flatten x)) r

    module _ (h : here < length s) where
      pub next_sound : Sound order long (this s here)
      next_sound = (subst (Every (Sound order long)) (parts_left s here h (here + length (this s here)) refl) i.next).0

      pub left_step : (wide : 346 ≤ long) (start : ℕ) → start ≡ here + payload_start (drop here s) → from + size ≤ long → at + count * size ≤ length out₀
          → Left s order long from size skip count out₀ at (placed at size skip count (index_of (this s here)) (part s (start + from) size) out) (start + long)
      unfolding scattered
      left_step wide start e fits room =
          let p : List ℕ = this s here in
          let row : part s (start + from) size ≡ row_of from size p = row_read s here order long h next_sound wide start e from size fits in
          let l : length (row_of from size p) ≡ size = length_part p (payload_start p + from) size (omega (arith, next_sound.whole)) in
          let rest : parts_in (drop here s) ≡ p ∷ parts_in (drop (start + long) s) = next_parts s here order long h next_sound wide start e in
          record {
            inside = payload_reach s here order long h next_sound wide start e;
            held = set_behind skip (index_of p) (row_of from size p) i.held;
            shaped = rows-set out₀ at size skip count (index_of p) i.held (row_of from size p) i.shaped l;
            shown = ap (λ (r : List ℕ). placed at size skip count (index_of p) r out) row ∙ placed_is out₀ at size skip count (index_of p) i.held (row_of from size p) i.shaped l out room i.shown;
            left = sym (ap (λ (ps : List (List ℕ)). scattered (row_of from size) skip ps i.held) rest) ∙ i.left;
            next = (subst (Every (Sound order long)) rest i.next).1;
          }
