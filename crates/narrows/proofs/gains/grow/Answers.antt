-- Each turn doubles once more, and adds at most one to the exponent's field (`grown-most`).
use native.Mathlib.Omega.{arith}
use Rattle.narrows.proofs.Doubles.{grown-most}
use Rattle.narrows.proofs.gains.grow.Goals as goal

pub double-p-requires : goal.double-p-requires
double-p-requires c = omega (arith, c.loop.invariant, grown-most c.loop.counter c.args.pattern)
