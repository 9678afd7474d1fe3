-- The part that starts at some place of a slice: its number (`unframed_here`, `cut_here`), and where its bytes stand in the slice (`in_slice`).
use mathlib.Core.Path.{◌≡◌, refl, sym, ap, ◌∙◌}
use Prim.Native.Nat.{ℕ, zero, suc, ◌+◌, ◌-◌, ◌≤◌, ◌<◌}
use native.Mathlib.Omega.{arith}
use mathlib.Core.Bool.{Bool, true, false}
use mathlib.Core.List.{List, ◌∷◌}
use lib.ListN.{length, get_or, take, drop, length-take, length-drop, drop_of_length-le, take-append-drop}
use lib.Seq.{take_all, drop-drop, take-append-le, drop-append-le, length-take-le, get_or-take, get_or-drop}
use lib.Dec.{leb}
use borrow.Author.Tests.{leb-true, leb-false}
use Rattle.rules.specs.Numbers.{Bytes}
use Rattle.rules.specs.Rules.{all, frame, payload_start, refusal}
use Rattle.rules.proofs.Numbers.{below-take, below-drop}
use Rattle.block.specs.declared.Opened.{Opened}
use Rattle.block.specs.Opened.{opened_as}
use Rattle.block.proofs.Answers.{number_is, accepted_as_lem}
use Rattle.joining.specs.Join.{part_end, parts_in}
use Rattle.joining.proofs.Parts.{parts_next, unframed_part, cut-part}
use Rattle.parts.specs.declared.Part.{Part}
use Rattle.parts.specs.Parts.{this, refused_as, answer, part_as}

-- of a bad part
pub refused_is : (s : List ℕ) (at n : ℕ) → 0 < n → refusal (this s at) ≡ n → refused_as n ≡ part_as s at
unfolding part_as
refused_is s at zero h e = absurd (omega arith)
refused_is s at (suc n) h e = sym (ap (λ (m : ℕ). answer m at (this s at)) e)

-- what an answer says of the part
module _ (s : List ℕ) (at : ℕ) (r : Part) (e : r ≡ part_as s at) where
  pub part-number : r.refusal ≡ refusal (this s at)
  unfolding part_as
  part-number = ap (λ (x : Part). x.refusal) e ∙ go (refusal (this s at))
    where
      go : (n : ℕ) → (answer n at (this s at)).refusal ≡ n
      go zero = refl
      go (suc n) = refl

  pub part-good : r.refusal ≡ 0 → r ≡ answer 0 at (this s at)
  unfolding part_as
  part-good z = e ∙ ap (λ (n : ℕ). answer n at (this s at)) (sym part-number ∙ z)

pub this-bytes : (s : List ℕ) (at : ℕ) → Bytes s → Bytes (this s at)
this-bytes s at b = below-take 256 (part_end (drop at s)) (drop at s) (below-drop 256 at s b)

module _ (s : List ℕ) (at : ℕ) where
  -- what is left of the slice, as it is handed on
  pub rest_is : take (length s - at) (drop at s) ≡ drop at s
  rest_is = take_all (length s - at) (drop at s) (omega (arith, length-drop at s))

  pub unframed_here : all (frame (drop at s)) ≡ false → refused_as 1 ≡ part_as s at
  unframed_here e = refused_is s at 1 (omega arith) (unframed_part (drop at s) e)

  pub cut_here : all (frame (drop at s)) ≡ true → length s < at + part_end (drop at s) → refused_as 2 ≡ part_as s at
  cut_here e h = refused_is s at 2 (omega arith) (cut-part (drop at s) e (omega (arith, length-drop at s)))

  -- its header is that of what is left
  pub start_in : payload_start (drop at s) ≡ payload_start (this s at)
  start_in = sym (ap (λ (b : ℕ). 2 + (b - 48)) (get_or-take (part_end (drop at s)) (drop at s) 1 0 (omega arith)))

  module _ (e : ℕ) (q : e ≡ at + part_end (drop at s)) (l : e ≤ length s) where
    pub this_is : take (e - at) (drop at s) ≡ this s at
    this_is = let m : e - at ≡ part_end (drop at s) = omega arith in ap (λ (n : ℕ). take n (drop at s)) m

    pub this-ends : e ≡ at + length (this s at)
    this-ends = omega (arith, length-take (part_end (drop at s)) (drop at s), length-drop at s)

    module _ (o : Opened) (h : o ≡ opened_as (take (e - at) (drop at s))) where
      pub bad_here : (o.refusal ≡ 0 → ⊥) → refused_as o.refusal ≡ part_as s at
      bad_here z =
          let n : o.refusal ≡ refusal (this s at) = number_is (take (e - at) (drop at s)) o h ∙ ap refusal this_is in
          refused_is s at o.refusal (omega (arith, z)) (sym n)

      pub good_here : (start : ℕ) → start ≡ at + payload_start (drop at s) → o.refusal ≡ 0 → record { refusal = 0; start = start; end = e; index = o.index } ≡ part_as s at
      unfolding part_as
      good_here start a z =
          let n : refusal (this s at) ≡ 0 = sym (number_is (take (e - at) (drop at s)) o h ∙ ap refusal this_is) ∙ z in
          let w = accepted_as_lem (this s at) o (h ∙ ap opened_as this_is) n in
          let b : start ≡ at + payload_start (this s at) = a ∙ ap (λ (n : ℕ). at + n) start_in in
          (λ i. record { refusal = 0; start = b i; end = this-ends i; index = (w i).index }) ∙ sym (ap (λ (m : ℕ). answer m at (this s at)) n)

  -- ---- the bytes of a part, in the slice

  module _ (h : at < length s) where
    pub some_bytes : 1 ≤ length (this s at)
    some_bytes = omega (arith, length-take (part_end (drop at s)) (drop at s), length-drop at s)

    pub reach : at + length (this s at) ≤ length s
    reach = omega (arith, length-take (part_end (drop at s)) (drop at s), length-drop at s)

    pub in_slice : (w k : ℕ) → k + w ≤ length (this s at) → take w (drop k (this s at)) ≡ take w (drop (at + k) s)
    in_slice w k l =
        let e : ℕ = part_end (drop at s) in
        let d : List ℕ = drop at s in
        sym (take-append-le w (drop k (this s at)) (drop e d) (omega (arith, length-drop k (this s at))))
        ∙ ap (take w) (sym (drop-append-le k (this s at) (drop e d) (omega arith)) ∙ ap (drop k) (take-append-drop e d) ∙ drop-drop k at s)

    pub byte_in : (k : ℕ) → k < length (this s at) → get_or (this s at) k 0 ≡ get_or s (at + k) 0
    byte_in k l = get_or-take (part_end (drop at s)) (drop at s) k 0 (omega (arith, length-take (part_end (drop at s)) (drop at s))) ∙ get_or-drop at s k 0

    behind : (e : ℕ) → e ≡ at + length (this s at) → (t : Bool) → leb (part_end (drop at s)) (length (drop at s)) ≡ t → drop (part_end (drop at s)) (drop at s) ≡ drop e s
    behind e q true f =
        let l : length (this s at) ≡ part_end (drop at s) = length-take-le (part_end (drop at s)) (drop at s) (leb-true (part_end (drop at s)) (length (drop at s)) f) in
        let m : at + part_end (drop at s) ≡ e = omega arith in
        drop-drop (part_end (drop at s)) at s ∙ ap (λ (n : ℕ). drop n s) m
    behind e q false f =
        let l : length (drop at s) < part_end (drop at s) = leb-false (part_end (drop at s)) (length (drop at s)) f in
        drop_of_length-le (drop at s) {i = part_end (drop at s)} (omega arith) ∙ sym (drop_of_length-le s {i = e} (omega (arith, length-take (part_end (drop at s)) (drop at s), length-drop at s)))

    -- it is the first of the parts that are left
    pub parts_left : (e : ℕ) → e ≡ at + length (this s at) → parts_in (drop at s) ≡ this s at ∷ parts_in (drop e s)
    parts_left e q =
        parts_next (drop at s) (omega (arith, length-drop at s))
        ∙ ap (λ (r : List ℕ). this s at ∷ parts_in r) (behind e q (leb (part_end (drop at s)) (length (drop at s))) refl)
