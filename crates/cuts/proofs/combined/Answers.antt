-- SP's product and FP are worked out in 64 bits, where neither is too long, and each is one test.
use native.Mathlib.Omega.{arith}
use Rattle.cuts.specs.Cuts.{setup_as}
use Rattle.cuts.proofs.Asking.{word_product}
use Rattle.cuts.proofs.Combining.{sp_above, fp_above, one-setup}
use Rattle.cuts.proofs.combined.Goals as goal

pub overflow_mul-sp : goal.overflow_mul-sp
overflow_mul-sp c = omega (arith, word_product c.step-step.result c.step.result (omega arith) (omega arith))

pub returns-then-sp-gt268435455 : goal.returns-then-sp-gt268435455
returns-then-sp-gt268435455 c =
    sp_above (setup_as c.args.a) (setup_as c.args.b) c.args.count c.step-step.result c.step.result c.step-step.ensures c.step.ensures (omega (arith, c.if-sp-gt268435455.true))

pub overflow_mul-fp : goal.overflow_mul-fp
overflow_mul-fp c =
    omega (arith, word_product c.step-step.result c.args.b.fp (omega arith) (omega arith))

pub overflow_add-fp : goal.overflow_add-fp
overflow_add-fp c =
    omega (arith, word_product c.step-step.result c.args.b.fp (omega arith) (omega arith))

pub returns-then-fp-gt4294967295 : goal.returns-then-fp-gt4294967295
returns-then-fp-gt4294967295 c =
    fp_above (setup_as c.args.a) (setup_as c.args.b) c.args.count c.step-step.result c.step.result c.step-step.ensures c.step.ensures (omega (arith, c.if-sp-gt268435455.false)) (omega (arith, c.if-fp-gt4294967295.true))

pub returns : goal.returns
returns c =
    one-setup (setup_as c.args.a) (setup_as c.args.b) c.args.count c.step-step.result c.step.result c.step-step.ensures c.step.ensures (omega (arith, c.if-sp-gt268435455.false)) (omega (arith, c.if-fp-gt4294967295.false)) c.or_else.result c.or_else.ensures
