-- Refused by the opening, without room, or answered by the span of the text.
use mathlib.Core.Path.{◌≡◌, sym, ◌∙◌}
use mathlib.Core.List.{[], ◌∷◌}
use native.Mathlib.Omega.{arith}
use lib.ListN.{length}
use Rattle.rules.specs.Numbers.{Bytes, all_bytes, splice}
use Rattle.rules.specs.Rules.{refusal}
use Rattle.rules.proofs.Numbers.{below-index}
use Rattle.block.specs.Texts.{text_of, text_start}
use Rattle.block.proofs.Answers.{number_is}
use Rattle.block.proofs.Parts.{span_length}
use Rattle.tessarquin.specs.Calls.{text_bytes, text_number, text_left}
use Rattle.tessarquin.proofs.Slices.{pair-length, own_refused, own_short, own_left}
use Rattle.tessarquin.proofs.portions.tessarquin_user_text.Goals as goal
use Rattle.tessarquin.proofs.portions.tessarquin_user_text.Goals.{After-shared_slice_known-1, Else-o-ne0}

-- every element of a slice is a byte
bytes : (c : After-shared_slice_known-1) → Bytes c.args.block.now
bytes c = below-index 256 c.args.block.now (λ i h. (c.type_inv.block i).fits)

accepts : (c : Else-o-ne0) → refusal c.args.block.now ≡ 0
accepts c = sym (number_is c.args.block.now c.open-o.result c.open-o.ensures) ∙ c.if-o-ne0.false

pub returns-then-o-ne0 : goal.returns-then-o-ne0
unfolding text_number text_left
returns-then-o-ne0 c =
    let a = c.args in
    let o = c.open-o in
    let told = own_refused (refusal a.block.now) (text_bytes a.block.now) a.answer.now o.result.refusal (number_is a.block.now o.result c.open-o.ensures) c.if-o-ne0.true in record {
      value = told.0;
      answer_after = told.1;
    }

pub returns-then-answer-lt16 : goal.returns-then-answer-lt16
unfolding text_number text_left
returns-then-answer-lt16 c =
    let a = c.args in
    let told = own_short (refusal a.block.now) (text_bytes a.block.now) a.answer.now (accepts (goal.at.returns-then-answer-lt16 c).Else-o-ne0) (omega (arith, c.if-answer-lt16.true, pair-length (text_start a.block.now) (length (text_of a.block.now)))) in record {
      value = told.0;
      answer_after = told.1;
    }

pub text_span-s-requires : goal.text_span-s-requires
text_span-s-requires c = record {
  o_value = c.open-o.ensures;
  bytes = bytes (goal.at.text_span-s-requires c).After-shared_slice_known-1;
}

pub returns : goal.returns
unfolding text_number text_left
returns c =
    let a = c.args in
    let t = c.text_span-s.ensures in
    let r = own_left (refusal a.block.now) (text_bytes a.block.now) a.answer.now (accepts (goal.at.returns c).Else-o-ne0) (omega (arith, c.if-answer-lt16.false, pair-length (text_start a.block.now) (length (text_of a.block.now)))) in
    record {
      value = r.0;
      answer_after = c.put_numbers.ensures ∙ (λ i. splice a.answer.now 0 (all_bytes 0 8 (t.starts i ∷ sym (span_length t) i ∷ []))) ∙ r.1;
    }
