-- What a strip with three slices returns and leaves: its number by the room that there is (`strip-number`), refused (`strip-refused`) or answered
-- (`strip_answered`), with room for all three (`strip-room`).
use mathlib.Core.Path.{◌≡◌, refl, sym, ap, ◌∙◌}
use mathlib.Core.Bool.{Bool, true, false, cond}
use mathlib.Core.List.{List, [], ◌∷◌}
use Prim.Native.Nat.{ℕ, ◌/◌, ◌≤◌, ◌<◌}
use native.Mathlib.Omega.{arith}
use lib.Dec.{leb, ltb}
use lib.ListN.{length}
use borrow.Author.Tests.{ltb-true, ltb-false}
use Rattle.rules.specs.Numbers.{all_bytes, splice}
use Rattle.rules.specs.Rules.{all, opened}
use Rattle.rules.proofs.Numbers.{length-all_bytes}
use Rattle.strips.specs.declared.Drawn.{Drawn}
use Rattle.strips.specs.Strips.{strip_of, strip_refusal}
use Rattle.strips.specs.Answers.{drawn_by, unsigned}
use Rattle.strips.proofs.Refusals.{before_room, strip_rooms, strip_nowhere}
use Rattle.tessarquin.specs.Calls.{or_room, least_bytes, greatest_bytes, strip_answer, strip_number, least_left, greatest_left, strip_answer_left}
use Rattle.tessarquin.proofs.Slices.{number_enough, number_without, left_as_it_was, left_written}

module _ (s : List ℕ) (a n w : ℕ) where
  -- its three numbers take 24 bytes
  pub answer-length : length (strip_answer s a n w) ≡ 24
  answer-length = let t = strip_of (opened s) a n w in length-all_bytes 0 8 (unsigned 8 t.sum ∷ t.marks ∷ t.peak ∷ [])

  module _ (least greatest answer : List ℕ) where
    abbrev own : ℕ
    own = strip_refusal s a n w (length least / 8) (length greatest / 8)

    abbrev number : ℕ
    number = or_room own (strip_answer s a n w) (length answer)

    abbrev pub Answered : ℕ → List ℕ → List ℕ → List ℕ → Type 0
    Answered m low high third =
        (m ≡ strip_number s a n w (length least) (length greatest) (length answer)) × (low ≡ least_left s a n w least (length greatest) (length answer))
        × (high ≡ greatest_left s a n w (length least) greatest (length answer)) × (third ≡ strip_answer_left s a n w (length least) (length greatest) answer)

    -- the answer is too short: the number of a strip without room, which is not 0
    short : length answer < 24 → (strip_refusal s a n w 0 (length greatest / 8) ≡ number) × (strip_refusal s a n w 0 (length greatest / 8) ≡ 0 → ⊥)
    short h =
        let r = number_without own (strip_answer s a n w) (length answer) (before_room s a n w) (all (leb w (length least / 8) ∷ leb w (length greatest / 8) ∷ [])) (strip_rooms s a n w (length least / 8) (length greatest / 8)) (omega (arith, answer-length)) in
        let e = strip_nowhere s a n w (length greatest / 8) in
        (e ∙ r.0, λ z. r.1 (sym e ∙ z))

    -- the code's number: with no room for the leasts where the answer has none
    module _ (low : ℕ) (el : low ≡ cond (ltb (length answer) 24) 0 (length least / 8)) (m : ℕ) (em : m ≡ strip_refusal s a n w low (length greatest / 8)) where
      is : m ≡ strip_refusal s a n w (cond (ltb (length answer) 24) 0 (length least / 8)) (length greatest / 8)
      is = em ∙ ap (λ (k : ℕ). strip_refusal s a n w k (length greatest / 8)) el

      strip-number : m ≡ number
      strip-number = is ∙ go (ltb (length answer) 24) refl
        where
          go : (t : Bool) → ltb (length answer) 24 ≡ t → strip_refusal s a n w (cond t 0 (length least / 8)) (length greatest / 8) ≡ number
          go true e = (short (ltb-true (length answer) 24 e)).0
          go false e = sym (number_enough own (strip_answer s a n w) (length answer) (omega (arith, answer-length, ltb-false (length answer) 24 e)))

      pub strip-refused : (m ≡ 0 → ⊥) → Answered m least greatest answer
      unfolding strip_number least_left greatest_left strip_answer_left
      strip-refused h =
          let e = strip-number in
          (e, left_as_it_was m number e (least_bytes s a n w) least h, left_as_it_was m number e (greatest_bytes s a n w) greatest h, left_as_it_was m number e (strip_answer s a n w) answer h)

      -- not refused: there is room for the answer, and the strip is accepted with that of the two others
      pub strip-room : m ≡ 0 → (24 ≤ length answer) × (strip_refusal s a n w (length least / 8) (length greatest / 8) ≡ 0)
      strip-room z = go (ltb (length answer) 24) refl (sym is ∙ z)
        where
          go : (t : Bool) → ltb (length answer) 24 ≡ t → strip_refusal s a n w (cond t 0 (length least / 8)) (length greatest / 8) ≡ 0 → (24 ≤ length answer) × (own ≡ 0)
          go true e q = absurd ((short (ltb-true (length answer) 24 e)).1 q)
          go false e q = (ltb-false (length answer) 24 e, q)

      pub strip_answered : m ≡ 0 → (d : Drawn) → d ≡ drawn_by 0 (strip_of (opened s) a n w) → (x : ℕ) → x ≡ unsigned 8 d.sum → (low high third : List ℕ) → low ≡ splice least 0 (least_bytes s a n w) → high ≡ splice greatest 0 (greatest_bytes s a n w)
          → third ≡ splice answer 0 (all_bytes 0 8 (x ∷ d.marks ∷ d.peak ∷ [])) → Answered 0 low high third
      unfolding strip_number least_left greatest_left strip_answer_left
      strip_answered z d ed x ex low high third el eh et =
          let k : 0 ≡ number = sym z ∙ strip-number in (
            k,
            el ∙ left_written 0 number k (least_bytes s a n w) least refl,
            eh ∙ left_written 0 number k (greatest_bytes s a n w) greatest refl,
            et
                ∙ ap (splice answer 0) (ap (λ (y : ℕ). all_bytes 0 8 (y ∷ d.marks ∷ d.peak ∷ [])) ex ∙ ap (λ (y : Drawn). all_bytes 0 8 (unsigned 8 y.sum ∷ y.marks ∷ y.peak ∷ [])) ed)
                ∙ left_written 0 number k (strip_answer s a n w) answer refl,
          )
