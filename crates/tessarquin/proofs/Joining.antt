-- A join's number without room (`nowhere`), and what a join with two slices returns and leaves: refused (`join_refused`) or answered (`join_answered`).
use mathlib.Core.Path.{◌≡◌, sym, ap, ◌∙◌}
use mathlib.Core.Bool.{cond}
use mathlib.Core.List.{List, [], ◌∷◌}
use Prim.Native.Nat.{ℕ, ◌≤◌, ◌<◌}
use native.Mathlib.Omega.{arith}
use lib.ListN.{length}
use Rattle.rules.specs.Numbers.{all_bytes, splice}
use Rattle.rules.specs.Wave.{encode}
use Rattle.rules.specs.Rules.{all}
use Rattle.rules.specs.Cut.{or_else}
use Rattle.rules.proofs.Frames.{length-framed}
use Rattle.joining.specs.Join.{parts_in, joined, joined_bytes, joining, join_refusal}
use Rattle.joining.proofs.Says.{first_bad, join_room}
use Rattle.joining.proofs.Reading.{waves_of}
use Rattle.joins.specs.declared.Joined.{Joined}
use Rattle.joins.proofs.Calls as calls
use Rattle.tessarquin.specs.Calls.{join_answer, join_number, join_left, join_answer_left}
use Rattle.tessarquin.proofs.Slices.{pair-length}
use Rattle.tessarquin.proofs.Pairs as pairs

module _ (s : List ℕ) where
  -- a joined block has bytes
  some : 0 < length (joined_bytes (parts_in s))
  unfolding joined_bytes
  some = omega (arith, length-framed (encode (joined (waves_of (parts_in s)))))

  -- the number before 13
  abbrev before : ℕ
  before = or_else (first_bad (parts_in s)) (cond (all (joining (parts_in s))) 0 16)

  -- n and the length take sixteen bytes
  pub answer-length : length (join_answer s) ≡ 16
  answer-length = pair-length (length (parts_in s)) (length (joined_bytes (parts_in s)))

  module _ (out answer : List ℕ) where
    abbrev pub Answered : ℕ → List ℕ → List ℕ → Type 0
    Answered m left second = (m ≡ join_number s (length out) (length answer)) × (left ≡ join_left s out (length answer)) × (second ≡ join_answer_left s (length out) answer)

    -- the second slice is too short: the number of the join where it has no room at all
    pub nowhere : length answer < 16 → (m : ℕ) → m ≡ join_refusal s 0 → Answered m out answer
    unfolding join_number join_left join_answer_left
    nowhere = pairs.without_room before (joined_bytes (parts_in s)) (join_answer s) (join_refusal s) (join_room s) some answer-length out answer

    -- the join itself answered w and left this in the first slice
    module _ (enough : 16 ≤ length answer) (w : Joined) (left : List ℕ) (call : calls.Call s out w left) where
      pub join_refused : (w.refusal ≡ 0 → ⊥) → Answered w.refusal left answer
      unfolding join_number join_left join_answer_left
      join_refused h =
          let n = calls.number s out w left call in
          pairs.refused before (joined_bytes (parts_in s)) (join_answer s) (join_refusal s) (join_room s) some answer-length out answer enough w.refusal n left h
          (call.leaves ∙ sym (calls.kept s out (λ z. h (n ∙ z))))

      pub join_answered : w.refusal ≡ 0 → (second : List ℕ) → second ≡ splice answer 0 (all_bytes 0 8 (w.count ∷ w.length ∷ [])) → Answered 0 left second
      unfolding join_number join_left join_answer_left
      join_answered z second e =
          pairs.answered before (joined_bytes (parts_in s)) (join_answer s) (join_refusal s) (join_room s) some answer-length out answer enough w.refusal (calls.number s out w left call) left z
          (calls.filled s out w left call z) second (e ∙ ap (λ (x : Joined). splice answer 0 (all_bytes 0 8 (x.count ∷ x.length ∷ []))) (calls.said s out w left call z))
