-- A cut's number without room (`without_room`), and what a cut with two slices returns and leaves: refused (`cut-refused`) or answered (`cut_answered`).
use mathlib.Core.Path.{◌≡◌, sym, ap, ◌∙◌}
use mathlib.Core.List.{List, [], ◌∷◌}
use Prim.Native.Nat.{ℕ, ◌≤◌, ◌<◌}
use native.Mathlib.Omega.{arith}
use lib.ListN.{length}
use Rattle.rules.specs.Numbers.{all_bytes, splice}
use Rattle.rules.specs.Wave.{encode, points}
use Rattle.rules.specs.Rules.{first, refusal, opened}
use Rattle.rules.specs.Cut.{Setup, or_else, count, cut, cut_bytes, cut_rules, cut_refusal}
use Rattle.rules.proofs.Frames.{length-framed}
use Rattle.rules.proofs.Demands.{cut-number}
use Rattle.cuts.specs.declared.Written.{Written}
use Rattle.cuts.proofs.Calls as calls
use Rattle.tessarquin.specs.Calls.{cut_answer, cut_number, cut_left, cut_answer_left}
use Rattle.tessarquin.proofs.Slices.{pair-length}
use Rattle.tessarquin.proofs.Pairs as pairs

module _ (s : List ℕ) (c : Setup) (q : ℕ) where
  -- a cut has bytes
  some : 0 < length (cut_bytes q c s)
  unfolding cut_bytes
  some = omega (arith, length-framed (encode (cut q c (opened s))))

  -- the number before 13
  abbrev before : ℕ
  before = or_else (refusal s) (first (cut_rules q c (opened s).head))

  -- c and the length take sixteen bytes
  pub answer-length : length (cut_answer s c q) ≡ 16
  answer-length = pair-length (count c (points (opened s).head)) (length (cut_bytes q c s))

  module _ (out answer : List ℕ) where
    abbrev pub Answered : ℕ → List ℕ → List ℕ → Type 0
    Answered m left second =
        (m ≡ cut_number s c q (length out) (length answer)) × (left ≡ cut_left s c q out (length answer)) × (second ≡ cut_answer_left s c q (length out) answer)

    -- the second slice is too short: the number of the cut where it has no room at all
    pub without_room : length answer < 16 → (m : ℕ) → m ≡ cut_refusal q c s 0 → Answered m out answer
    unfolding cut_number cut_left cut_answer_left
    without_room = pairs.without_room before (cut_bytes q c s) (cut_answer s c q) (λ room. cut_refusal q c s room) (cut-number s q c) some answer-length out answer

    -- the cut itself answered w and left this in the first slice
    module _ (enough : 16 ≤ length answer) (w : Written) (left : List ℕ) (call : calls.Call s c q out w left) where
      pub cut-refused : (w.refusal ≡ 0 → ⊥) → Answered w.refusal left answer
      unfolding cut_number cut_left cut_answer_left
      cut-refused h =
          let n = calls.number s c q out w left call in
          pairs.refused before (cut_bytes q c s) (cut_answer s c q) (λ room. cut_refusal q c s room) (cut-number s q c) some answer-length out answer enough w.refusal n left h
          (call.leaves ∙ sym (calls.kept s c q out (λ z. h (n ∙ z))))

      pub cut_answered : w.refusal ≡ 0 → (second : List ℕ) → second ≡ splice answer 0 (all_bytes 0 8 (w.count ∷ w.length ∷ [])) → Answered 0 left second
      unfolding cut_number cut_left cut_answer_left
      cut_answered z second e =
          pairs.answered before (cut_bytes q c s) (cut_answer s c q) (λ room. cut_refusal q c s room) (cut-number s q c) some answer-length out answer enough w.refusal (calls.number s c q out w left call) left z
          (calls.filled s c q out w left call z) second (e ∙ ap (λ (x : Written). splice answer 0 (all_bytes 0 8 (x.count ∷ x.length ∷ []))) (calls.said s c q out w left call z))
