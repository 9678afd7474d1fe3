-- Each start is the sum of the lengths before it.
use mathlib.Core.Path.{refl}
use native.Mathlib.Omega.{arith}
use Rattle.block.proofs.Loops.{begun, fits, more, ended}
use Rattle.block.proofs.opening.layout_of.Goals as goal

pub loop-i-init : goal.loop-i-init
loop-i-init c = begun c.args.lengths _ (omega arith) refl

pub overflow_add-at : goal.overflow_add-at
overflow_add-at c = let l = c.loop-i in omega (arith, fits c.args.lengths l.starts l.at l.i l.invariant c.loop-i-test.true)

pub loop-i-preserved : goal.loop-i-preserved
loop-i-preserved c = let l = c.loop-i in more c.args.lengths l.starts l.at l.i l.invariant c.loop-i-test.true

pub returns : goal.returns
returns c =
    let l = c.loop-i in
    let e = ended c.args.lengths l.starts l.at l.i l.invariant c.loop-i-test.false in
    λ i. record { lengths = c.args.lengths; starts = e i }
