-- Each start is the sum of the lengths before it.
use Rattle.block.proofs.Loops.{Summed}
use Rattle.block.proofs.opening.layout_of.Given as goal

abbrev pub invariant-loop-i : goal.invariant-loop-i
invariant-loop-i l = Summed l.lengths l.starts l.at l.i
