-- Where the second slice is too short, the number of a narrowing that has nowhere to go; else refused as the narrowing is, or answered by the length.
use native.Mathlib.Omega.{arith}
use Rattle.narrows.proofs.Calls as calls
use Rattle.tessarquin.proofs.Narrowing.{narrow_without_room, narrow-refused, narrow_answered}
use Rattle.tessarquin.proofs.narrowed.tessarquin_narrow.Goals as goal

pub returns-then-answer-lt8 : goal.returns-then-answer-lt8
returns-then-answer-lt8 c =
    let a = c.args in
    let none = calls.number a.block.now _ c.narrow.result _ (record { answers = c.narrow.ensures.value; leaves = c.narrow.ensures.out_after }) in
    let r = narrow_without_room a.block.now a.out.now a.answer.now c.if-answer-lt8.true c.narrow.result.refusal none in
    record {
      value = r.0;
      out_after = r.1;
      answer_after = r.2;
    }

pub returns-then-w-ne0 : goal.returns-then-w-ne0
returns-then-w-ne0 c =
    let a = c.args in
    let w = c.narrow-w in
    let r = narrow-refused a.block.now a.out.now a.answer.now (omega (arith, c.if-answer-lt8.false)) w.result _ (record { answers = c.narrow-w.ensures.value; leaves = c.narrow-w.ensures.out_after }) c.if-w-ne0.true in
    record {
      value = r.0;
      out_after = r.1;
      answer_after = r.2;
    }

pub returns : goal.returns
returns c =
    let a = c.args in
    let v = c.narrow-w in
    let r = narrow_answered a.block.now a.out.now a.answer.now (omega (arith, c.if-answer-lt8.false)) v.result _ (record { answers = c.narrow-w.ensures.value; leaves = c.narrow-w.ensures.out_after }) c.if-w-ne0.false _ c.put_u64.ensures in
    record {
      value = r.0;
      out_after = r.1;
      answer_after = r.2;
    }
