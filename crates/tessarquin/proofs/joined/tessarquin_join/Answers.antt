-- Where the second slice is too short, the number of a join that has nowhere to go; else refused as the join is, or answered by n and the length.
use native.Mathlib.Omega.{arith}
use Rattle.tessarquin.proofs.Joining.{nowhere, join_refused, join_answered}
use Rattle.tessarquin.proofs.joined.tessarquin_join.Goals as goal

pub returns-then-answer-lt16 : goal.returns-then-answer-lt16
returns-then-answer-lt16 c =
    let a = c.args in
    let r = nowhere a.parts.now a.out.now a.answer.now c.if-answer-lt16.true c.join_nowhere.result c.join_nowhere.ensures in
    record {
      value = r.0;
      out_after = r.1;
      answer_after = r.2;
    }

pub returns-then-w-ne0 : goal.returns-then-w-ne0
returns-then-w-ne0 c =
    let a = c.args in
    let w = c.join-w in
    let r =
    join_refused a.parts.now a.out.now a.answer.now (omega (arith, c.if-answer-lt16.false)) w.result _ (record { answers = c.join-w.ensures.value; leaves = c.join-w.ensures.out_after }) c.if-w-ne0.true in
    record {
      value = r.0;
      out_after = r.1;
      answer_after = r.2;
    }

pub returns : goal.returns
returns c =
    let a = c.args in
    let w = c.join-w in
    let r =
    join_answered a.parts.now a.out.now a.answer.now (omega (arith, c.if-answer-lt16.false)) w.result _ (record { answers = c.join-w.ensures.value; leaves = c.join-w.ensures.out_after }) c.if-w-ne0.false _ c.put_numbers.ensures in
    record {
      value = r.0;
      out_after = r.1;
      answer_after = r.2;
    }
