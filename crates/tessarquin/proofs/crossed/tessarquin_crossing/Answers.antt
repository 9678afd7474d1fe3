-- Refused as the crossing is, without room, or answered by its two numbers.
use mathlib.Core.Path.{◌≡◌, sym, ap, ◌∙◌}
use native.Mathlib.Omega.{arith}
use Rattle.rules.specs.Numbers.{splice}
use Rattle.crossings.specs.Crossings.{crossing_refusal}
use Rattle.tessarquin.specs.Calls.{crossing_bytes, crossing_number, crossing_left}
use Rattle.tessarquin.proofs.Slices.{own_refused, own_short, own_left}
use Rattle.tessarquin.proofs.Crossing.{crossing-length, number, pair}
use Rattle.tessarquin.proofs.crossed.tessarquin_crossing.Goals as goal
use Rattle.tessarquin.proofs.crossed.tessarquin_crossing.Goals.{After-tell-t}

-- the crossing's own number
own : (c : After-tell-t) → (let a = c.args in c.tell-t.result.refusal ≡ crossing_refusal a.block.now a.array a.segment a.level)
own c =
    let a = c.args in
    number a.block.now a.array a.segment a.level c.first.result c.first.ensures c.tell-t.result c.tell-t.ensures

pub returns-then-t-ne0 : goal.returns-then-t-ne0
unfolding crossing_number crossing_left
returns-then-t-ne0 c =
    let a = c.args in
    let told = own_refused (crossing_refusal a.block.now a.array a.segment a.level) (crossing_bytes a.block.now a.array a.segment a.level) a.answer.now c.tell-t.result.refusal (own (goal.at.returns-then-t-ne0 c).After-tell-t) c.if-t-ne0.true in record {
      value = told.0;
      answer_after = told.1;
    }

pub returns-then-answer-lt16 : goal.returns-then-answer-lt16
unfolding crossing_number crossing_left
returns-then-answer-lt16 c =
    let a = c.args in
    let told = own_short (crossing_refusal a.block.now a.array a.segment a.level) (crossing_bytes a.block.now a.array a.segment a.level) a.answer.now (sym (own (goal.at.returns-then-answer-lt16 c).After-tell-t) ∙ c.if-t-ne0.false)
    (omega (arith, c.if-answer-lt16.true, crossing-length a.block.now a.array a.segment a.level)) in record {
      value = told.0;
      answer_after = told.1;
    }

pub returns : goal.returns
unfolding crossing_number crossing_left
returns c =
    let a = c.args in
    let z = c.if-t-ne0.false in
    let r = own_left (crossing_refusal a.block.now a.array a.segment a.level) (crossing_bytes a.block.now a.array a.segment a.level) a.answer.now (sym (own (goal.at.returns c).After-tell-t) ∙ z) (omega (arith, c.if-answer-lt16.false, crossing-length a.block.now a.array a.segment a.level)) in record {
      value = r.0;
      answer_after = c.put_numbers.ensures ∙ ap (splice a.answer.now 0) (pair a.block.now a.array a.segment a.level c.first.result c.first.ensures c.tell-t.result c.tell-t.ensures z) ∙ r.1;
    }
