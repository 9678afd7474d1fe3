-- What a call returns and leaves in a slice: refused before 13 (`own_refused`), without room (`own_short`), or answered (`own_left`, and back
-- `own_answered`).
use mathlib.Core.Path.{◌≡◌, refl, sym, ap, ◌∙◌}
use mathlib.Core.Bool.{Bool, true, false, cond}
use mathlib.Core.List.{List, [], ◌∷◌, ◌++◌}
use Prim.Native.Nat.{ℕ, zero, suc, ◌+◌, ◌-◌, ◌*◌, ◌≤◌, ◌<◌}
use native.Mathlib.Omega.{arith}
use lib.Dec.{leb}
use lib.Ieee.{binary64, to_bits}
use lib.ListN.{length}
use borrow.Author.Tests.{le-leb, lt-leb}
use Rattle.rules.specs.Numbers.{starts_from, all_bytes, splice}
use Rattle.rules.specs.Wave.{order_of, segments, points, first_point, sparsing, segment_index, subarray_count, lengths_of, starts_of}
use Rattle.rules.specs.Rules.{payload_start, opened}
use Rattle.rules.specs.Points.{value, time, mark, mark_number}
use Rattle.rules.specs.Cut.{Setup, or_else, combined}
use Rattle.rules.proofs.Numbers.{length-all_bytes}
use Rattle.rules.proofs.Tests.{or_alone, or_else_none}
use Rattle.block.specs.Opened.{arrays_of}
use Rattle.block.specs.declared.Span.{Span}
use Rattle.block.specs.Texts.{Stands, trace_label, up_to_zero, or_other}
use Rattle.block.proofs.Parts.{span_length, span_none, span_some}
use Rattle.tessarquin.specs.Calls.{or_room, left_by, open_bytes, point_bytes, setup_numbers, combined_bytes, layout_bytes, label_bytes}

-- ---- how long the answers are

pub open_length : (s : List ℕ) → length (open_bytes s) ≡ 40
open_length s = let h : ℕ → ℕ = (opened s).head in length-all_bytes 0 8 (segments h ∷ points h ∷ arrays_of h ∷ order_of h ∷ h 32 ∷ [])

pub pair-length : (x y : ℕ) → length (all_bytes 0 8 (x ∷ y ∷ [])) ≡ 16
pair-length x y = length-all_bytes 0 8 (x ∷ y ∷ [])

pub point_length : (s : List ℕ) (a n k : ℕ) → length (point_bytes s a n k) ≡ 24
point_length s a n k =
    length-all_bytes 0 8 (to_bits binary64 (value (opened s) a n k) ∷ to_bits binary64 (time (opened s) n k) ∷ mark_number (mark (opened s) a n k) ∷ [])

pub combined-length : (a b : Setup) (c : ℕ) → length (combined_bytes a b c) ≡ 32
combined-length a b c = length-all_bytes 0 8 (setup_numbers (combined a b c))

pub layout_length : (s : List ℕ) → length (layout_bytes s) ≡ 200
unfolding starts_of starts_from
layout_length s =
    let h : ℕ → ℕ = (opened s).head in
    length-all_bytes 0 8 (payload_start s ∷ first_point h ∷ sparsing h ∷ segment_index h ∷ subarray_count h ∷ lengths_of h ++ starts_of h)

pub label_length : (s fallback : List ℕ) → length (label_bytes s fallback) ≡ 24
label_length s fallback =
    let l : List ℕ = up_to_zero (trace_label (opened s)) in
    length-all_bytes 0 8 (or_other l (0 ∷ (payload_start s + 96) ∷ length l ∷ []) (1 ∷ 0 ∷ length fallback ∷ [])) ∙ ap (λ (k : ℕ). k * 8) (three l (payload_start s + 96) (length l) (length fallback))
  where
    three : (l : List ℕ) (x y z : ℕ) → length (or_other l (0 ∷ x ∷ y ∷ []) (1 ∷ 0 ∷ z ∷ [])) ≡ 3
    three [] x y z = refl
    three (_ ∷ l) x y z = refl

-- ---- the label's answer, by the span of TRACE_LABEL's bytes before the first zero

module _ (s fallback : List ℕ) (r : Span) (t : Stands s r (up_to_zero (trace_label (opened s))) (payload_start s + 96)) where
  -- the span has no bytes: the fallback
  pub label_other : r.from ≡ r.to → all_bytes 0 8 (1 ∷ 0 ∷ length fallback ∷ []) ≡ label_bytes s fallback
  label_other z =
      sym (ap (all_bytes 0 8) (span_none t (0 ∷ (payload_start s + 96) ∷ length (up_to_zero (trace_label (opened s))) ∷ []) (1 ∷ 0 ∷ length fallback ∷ []) z))

  -- it has some: the span itself
  pub label_own : (r.from ≡ r.to → ⊥) → all_bytes 0 8 (0 ∷ r.from ∷ (r.to - r.from) ∷ []) ≡ label_bytes s fallback
  label_own h =
      (λ i. all_bytes 0 8 (0 ∷ t.starts i ∷ sym (span_length t) i ∷ []))
      ∙ sym (ap (all_bytes 0 8) (span_some t (0 ∷ (payload_start s + 96) ∷ length (up_to_zero (trace_label (opened s))) ∷ []) (1 ∷ 0 ∷ length fallback ∷ []) h))

-- ---- the number n of the rules before 13, and the bytes that are to go where there is room

module _ (n : ℕ) (bs : List ℕ) (room : ℕ) where
  pub number_own : (m : ℕ) → m ≡ n → (m ≡ 0 → ⊥) → m ≡ or_room n bs room
  number_own m e h = go m h ∙ ap (λ (k : ℕ). or_room k bs room) e
    where
      go : (m : ℕ) → (m ≡ 0 → ⊥) → m ≡ or_room m bs room
      go zero h = absurd (h refl)
      go (suc m) h = refl

  -- with room it is n
  pub number_enough : length bs ≤ room → or_room n bs room ≡ n
  number_enough h = ap (λ (t : Bool). or_else n (cond t 0 13)) (le-leb (length bs) room h) ∙ or_alone n

  -- where n is that of the rules before 13, and then 13 by other slices: without room the number that the call has with nowhere to go
  pub number_without : (before : ℕ) (t : Bool) → n ≡ or_else before (cond t 0 13) → room < length bs → (or_else before 13 ≡ or_room n bs room) × (or_else before 13 ≡ 0 → ⊥)
  number_without before t e h = (
    go before t ∙ ap (λ (x : Bool). or_else (or_else before (cond t 0 13)) (cond x 0 13)) (sym (lt-leb (length bs) room h)) ∙ ap (λ (k : ℕ). or_room k bs room) (sym e),
    never before,
  )
    where
      go : (k : ℕ) (t : Bool) → or_else k 13 ≡ or_else (or_else k (cond t 0 13)) 13
      go zero true = refl
      go zero false = refl
      go (suc k) t = refl

      never : (k : ℕ) → or_else k 13 ≡ 0 → ⊥
      never zero e = omega (arith, e)
      never (suc k) e = omega (arith, e)

  module _ (z : n ≡ 0) where
    pub number_short : room < length bs → 13 ≡ or_room n bs room
    number_short h = ap (λ (t : Bool). cond t 0 13) (sym (lt-leb (length bs) room h)) ∙ ap (λ (k : ℕ). or_room k bs room) (sym z)

    pub number_none : length bs ≤ room → 0 ≡ or_room n bs room
    number_none h = sym (number_enough h ∙ z)

-- ---- a slice, by the number m that is returned

module _ (m q : ℕ) (e : m ≡ q) (bs slice : List ℕ) where
  pub left_as_it_was : (m ≡ 0 → ⊥) → slice ≡ left_by q bs slice
  left_as_it_was h = go m h ∙ ap (λ (k : ℕ). left_by k bs slice) e
    where
      go : (m : ℕ) → (m ≡ 0 → ⊥) → slice ≡ left_by m bs slice
      go zero h = absurd (h refl)
      go (suc m) h = refl

  pub left_written : m ≡ 0 → splice slice 0 bs ≡ left_by q bs slice
  left_written z = ap (λ (k : ℕ). left_by k bs slice) (sym z ∙ e)

-- ---- both, for a call with one slice

module _ (n : ℕ) (bs slice : List ℕ) where
  abbrev pub Answered : ℕ → List ℕ → Type 0
  Answered m left = (m ≡ or_room n bs (length slice)) × (left ≡ left_by (or_room n bs (length slice)) bs slice)

  pub own_refused : (m : ℕ) → m ≡ n → (m ≡ 0 → ⊥) → Answered m slice
  own_refused m e h = let q = number_own n bs (length slice) m e h in (q, left_as_it_was m (or_room n bs (length slice)) q bs slice h)

  module _ (z : n ≡ 0) where
    pub own_short : length slice < length bs → Answered 13 slice
    own_short h = let q = number_short n bs (length slice) z h in (q, left_as_it_was 13 (or_room n bs (length slice)) q bs slice (λ e. omega (arith, e)))

    pub own_left : length bs ≤ length slice → Answered 0 (splice slice 0 bs)
    own_left h = let q = number_none n bs (length slice) z h in (q, left_written 0 (or_room n bs (length slice)) q bs slice refl)

  -- an answered call: the rules before 13 are kept, and the bytes stand at the slice's start
  pub own_answered : (m : ℕ) (left : List ℕ) → Answered m left → m ≡ 0 → (n ≡ 0) × (left ≡ splice slice 0 bs)
  own_answered m left a z =
      let e : or_room n bs (length slice) ≡ 0 = sym a.0 ∙ z in ((or_else_none n (cond (leb (length bs) (length slice)) 0 13) e).0, a.1 ∙ ap (λ (k : ℕ). left_by k bs slice) e)
