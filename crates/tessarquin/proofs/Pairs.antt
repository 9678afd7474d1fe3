-- What a call with two slices returns and leaves, one for a block and one for numbers: where the second is too short (`without_room`), refused (`refused`) or answered (`answered`).
use mathlib.Core.Path.{◌≡◌, refl, sym, ap, ◌∙◌}
use mathlib.Core.Bool.{Bool, cond}
use mathlib.Core.List.{List}
use Prim.Native.Nat.{ℕ, ◌≤◌, ◌<◌}
use native.Mathlib.Omega.{arith}
use lib.Dec.{leb}
use lib.ListN.{length}
use borrow.Author.Tests.{lt-leb}
use Rattle.rules.specs.Numbers.{splice}
use Rattle.rules.specs.Cut.{or_else}
use Rattle.tessarquin.specs.Calls.{or_room, left_by}
use Rattle.tessarquin.proofs.Slices.{number_own, number_without, number_none, left_as_it_was, left_written}

-- The call's own number for a first slice of so much room is that of the rules before 13, and then 13; `bytes` go to the first slice, `told` to the second
module _ (before : ℕ) (bytes told : List ℕ) (own : ℕ → ℕ) (own_is : (room : ℕ) → own room ≡ or_else before (cond (leb (length bytes) room) 0 13)) (some : 0 < length bytes) {size : ℕ} (sized : length told ≡ size)
    (out answer : List ℕ) where
  abbrev number : ℕ
  number = or_room (own (length out)) told (length answer)

  abbrev pub Answered : ℕ → List ℕ → List ℕ → Type 0
  Answered m left second = (m ≡ or_room (own (length out)) told (length answer)) × (left ≡ left_by (or_room (own (length out)) told (length answer)) bytes out) × (second ≡ left_by (or_room (own (length out)) told (length answer)) told answer)

  refused_by : (m : ℕ) → m ≡ number → (m ≡ 0 → ⊥) → Answered m out answer
  refused_by m e h = (e, left_as_it_was m number e bytes out h, left_as_it_was m number e told answer h)

  -- the second slice is too short: the number of the call where it has no room at all
  pub without_room : length answer < size → (m : ℕ) → m ≡ own 0 → Answered m out answer
  without_room h m e =
      let none : own 0 ≡ or_else before 13 = own_is 0 ∙ ap (λ (t : Bool). or_else before (cond t 0 13)) (lt-leb (length bytes) 0 some) in
      let r = number_without (own (length out)) told (length answer) before (leb (length bytes) (length out)) (own_is (length out)) (omega (arith, sized)) in
      refused_by m (e ∙ none ∙ r.0) (λ z. r.1 (sym none ∙ sym e ∙ z))

  -- there is room for the numbers: the call's own number n, and what it left in the first slice
  module _ (enough : size ≤ length answer) (n : ℕ) (is : n ≡ own (length out)) (left : List ℕ) where
    pub refused : (n ≡ 0 → ⊥) → left ≡ out → Answered n left answer
    refused h e = let r = refused_by n (number_own (own (length out)) told (length answer) n is h) h in (r.0, e ∙ r.1, r.2)

    pub answered : n ≡ 0 → left ≡ splice out 0 bytes → (second : List ℕ) → second ≡ splice answer 0 told → Answered 0 left second
    answered z e second q =
        let k = number_none (own (length out)) told (length answer) (sym is ∙ z) (omega (arith, sized)) in
        (k, e ∙ left_written 0 number k bytes out refl, q ∙ left_written 0 number k told answer refl)
