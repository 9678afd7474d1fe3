-- Refused by the opening, without room, or answered by the fallback whole or by the span of the block's own label.
use mathlib.Core.Path.{◌≡◌, sym, ap, ◌∙◌}
use mathlib.Core.List.{List}
use Prim.Native.Nat.{ℕ}
use native.Mathlib.Omega.{arith}
use Rattle.rules.specs.Numbers.{splice}
use Rattle.rules.specs.Rules.{refusal}
use Rattle.block.proofs.Answers.{number_is}
use Rattle.tessarquin.specs.Calls.{label_bytes, label_number, label_left}
use Rattle.tessarquin.proofs.Slices.{label_length, label_other, label_own, own_refused, own_short, own_left}
use Rattle.tessarquin.proofs.portions.tessarquin_label.Goals as goal
use Rattle.tessarquin.proofs.portions.tessarquin_label.Goals.{Else-o-ne0}

accepts : (c : Else-o-ne0) → refusal c.args.block.now ≡ 0
accepts c = sym (number_is c.args.block.now c.open-o.result c.open-o.ensures) ∙ c.if-o-ne0.false

pub returns-then-o-ne0 : goal.returns-then-o-ne0
unfolding label_number label_left
returns-then-o-ne0 c =
    let a = c.args in
    let o = c.open-o in
    let told = own_refused (refusal a.block.now) (label_bytes a.block.now a.fallback.now) a.answer.now o.result.refusal (number_is a.block.now o.result c.open-o.ensures) c.if-o-ne0.true in record {
      value = told.0;
      answer_after = told.1;
    }

pub returns-then-answer-lt24 : goal.returns-then-answer-lt24
unfolding label_number label_left
returns-then-answer-lt24 c =
    let a = c.args in
    let told = own_short (refusal a.block.now) (label_bytes a.block.now a.fallback.now) a.answer.now (accepts (goal.at.returns-then-answer-lt24 c).Else-o-ne0) (omega (arith, c.if-answer-lt24.true, label_length a.block.now a.fallback.now)) in record {
      value = told.0;
      answer_after = told.1;
    }

pub returns-then-s : goal.returns-then-s
unfolding label_number label_left
returns-then-s c =
    let a = c.args in
    let r = own_left (refusal a.block.now) (label_bytes a.block.now a.fallback.now) a.answer.now (accepts (goal.at.returns-then-s c).Else-o-ne0) (omega (arith, c.if-answer-lt24.false, label_length a.block.now a.fallback.now)) in
    record {
      value = r.0;
      answer_after = c.put_numbers.ensures ∙ ap {B = List ℕ} (splice a.answer.now 0) (label_other a.block.now a.fallback.now c.label_span-s.result c.label_span-s.ensures c.if-s.true) ∙ r.1;
    }

pub returns : goal.returns
unfolding label_number label_left
returns c =
    let a = c.args in
    let r = own_left (refusal a.block.now) (label_bytes a.block.now a.fallback.now) a.answer.now (accepts (goal.at.returns c).Else-o-ne0) (omega (arith, c.if-answer-lt24.false, label_length a.block.now a.fallback.now)) in
    record {
      value = r.0;
      answer_after = c.put_numbers-2.ensures ∙ ap {B = List ℕ} (splice a.answer.now 0) (label_own a.block.now a.fallback.now c.label_span-s.result c.label_span-s.ensures c.if-s.false) ∙ r.1;
    }
