-- Double by double: what is tested so far, and what is left.
use Rattle.rules.specs.Rules.{finite64}
use Rattle.block.proofs.Loops.{doubles_more, doubles_end}
use Rattle.block.proofs.tables.finite_doubles.Goals as goal

pub loop-k-preserved : goal.loop-k-preserved
loop-k-preserved c =
    let a = c.args in
    doubles_more finite64 a.order a.block.now _ c.loop-k.ok a.from a.count c.loop-k.k c.loop-k.invariant c.finite_double_at-ok.result c.loop-k-test.true c.finite_double_at-ok.ensures

pub returns : goal.returns
returns c = let a = c.args in doubles_end finite64 a.order a.block.now _ c.loop-k.ok a.from a.count c.loop-k.k c.loop-k.invariant c.loop-k-test.false
