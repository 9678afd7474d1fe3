-- A narrowing's number without room (`narrow_without_room`), and what a narrowing with two slices returns and leaves: refused (`narrow-refused`) or answered (`narrow_answered`).
use mathlib.Core.Path.{◌≡◌, sym, ap, ◌∙◌}
use mathlib.Core.List.{List, [], ◌∷◌}
use Prim.Native.Nat.{ℕ, ◌≤◌, ◌<◌}
use native.Mathlib.Omega.{arith}
use lib.ListN.{length}
use Rattle.rules.specs.Numbers.{bytes, splice}
use Rattle.rules.specs.Wave.{encode}
use Rattle.rules.specs.Rules.{opened}
use Rattle.rules.proofs.Frames.{length-framed}
use Rattle.rules.proofs.Numbers.{length-all_bytes}
use Rattle.narrowing.specs.Narrow.{narrow, narrow_bytes, narrow_refusal}
use Rattle.narrowing.proofs.Accepted.{before_room, narrow-room}
use Rattle.narrows.specs.declared.Narrowed.{Narrowed}
use Rattle.narrows.proofs.Calls as calls
use Rattle.tessarquin.specs.Calls.{narrow_answer, narrow_number, narrow_left, narrow_answer_left}
use Rattle.tessarquin.proofs.Writing.{one_number}
use Rattle.tessarquin.proofs.Pairs as pairs

module _ (s : List ℕ) where
  -- a narrowed block has bytes
  some : 0 < length (narrow_bytes s)
  unfolding narrow_bytes
  some = omega (arith, length-framed (encode (narrow (opened s))))

  -- its length takes eight bytes
  pub answer-length : length (narrow_answer s) ≡ 8
  answer-length = length-all_bytes 0 8 (length (narrow_bytes s) ∷ [])

  module _ (out answer : List ℕ) where
    abbrev pub Answered : ℕ → List ℕ → List ℕ → Type 0
    Answered m left second = (m ≡ narrow_number s (length out) (length answer)) × (left ≡ narrow_left s out (length answer)) × (second ≡ narrow_answer_left s (length out) answer)

    -- the second slice is too short: the number of the narrowing where it has no room at all
    pub narrow_without_room : length answer < 8 → (m : ℕ) → m ≡ narrow_refusal s 0 → Answered m out answer
    unfolding narrow_number narrow_left narrow_answer_left
    narrow_without_room = pairs.without_room (before_room s) (narrow_bytes s) (narrow_answer s) (narrow_refusal s) (narrow-room s) some answer-length out answer

    -- the narrowing itself answered w and left this in the first slice
    module _ (enough : 8 ≤ length answer) (w : Narrowed) (left : List ℕ) (call : calls.Call s out w left) where
      pub narrow-refused : (w.refusal ≡ 0 → ⊥) → Answered w.refusal left answer
      unfolding narrow_number narrow_left narrow_answer_left
      narrow-refused h =
          let n = calls.number s out w left call in
          pairs.refused (before_room s) (narrow_bytes s) (narrow_answer s) (narrow_refusal s) (narrow-room s) some answer-length out answer enough w.refusal n left h
          (call.leaves ∙ sym (calls.kept s out (λ z. h (n ∙ z))))

      pub narrow_answered : w.refusal ≡ 0 → (second : List ℕ) → second ≡ splice answer 0 (bytes 0 8 w.length) → Answered 0 left second
      unfolding narrow_number narrow_left narrow_answer_left
      narrow_answered z second e =
          pairs.answered (before_room s) (narrow_bytes s) (narrow_answer s) (narrow_refusal s) (narrow-room s) some answer-length out answer enough w.refusal (calls.number s out w left call) left z
          (calls.filled s out w left call z) second
          (e ∙ ap (λ (x : Narrowed). splice answer 0 (bytes 0 8 x.length)) (calls.said s out w left call z) ∙ ap (splice answer 0) (one_number (length (narrow_bytes s))))
