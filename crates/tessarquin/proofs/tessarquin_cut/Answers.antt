-- Where the second slice is too short, the number of a cut without room; else refused as the cut is, or answered by c and the length.
use native.Mathlib.Omega.{arith}
use Rattle.cuts.proofs.Calls as calls
use Rattle.tessarquin.specs.Calls.{setup}
use Rattle.tessarquin.proofs.Cutting.{without_room, cut-refused, cut_answered}
use Rattle.tessarquin.proofs.tessarquin_cut.Goals as goal

pub returns-then-answer-lt16 : goal.returns-then-answer-lt16
returns-then-answer-lt16 c =
    let a = c.args in
    let s = setup a.sp a.np a.fp a.sn in
    let none = calls.number a.block.now s a.order _ c.cut.result _ (record { answers = c.cut.ensures.value; leaves = c.cut.ensures.out_after }) in
    let r = without_room a.block.now s a.order a.out.now a.answer.now c.if-answer-lt16.true c.cut.result.refusal none in
    record {
      value = r.0;
      out_after = r.1;
      answer_after = r.2;
    }

pub returns-then-w-ne0 : goal.returns-then-w-ne0
returns-then-w-ne0 c =
    let a = c.args in
    let w = c.cut-w in
    let r =
    cut-refused a.block.now (setup a.sp a.np a.fp a.sn) a.order a.out.now a.answer.now (omega (arith, c.if-answer-lt16.false)) w.result _ (record { answers = c.cut-w.ensures.value; leaves = c.cut-w.ensures.out_after }) c.if-w-ne0.true in
    record {
      value = r.0;
      out_after = r.1;
      answer_after = r.2;
    }

pub returns : goal.returns
returns c =
    let a = c.args in
    let w = c.cut-w in
    let r =
    cut_answered a.block.now (setup a.sp a.np a.fp a.sn) a.order a.out.now a.answer.now (omega (arith, c.if-answer-lt16.false)) w.result _ (record { answers = c.cut-w.ensures.value; leaves = c.cut-w.ensures.out_after }) c.if-w-ne0.false _ c.put_numbers.ensures in
    record {
      value = r.0;
      out_after = r.1;
      answer_after = r.2;
    }
