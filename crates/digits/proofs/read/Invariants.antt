-- The number of the digits read so far, until one is none.
use Rattle.digits.proofs.Runs.{ReadTo}
use Rattle.digits.proofs.read.Given as goal

abbrev pub invariant-loop-at : goal.invariant-loop-at
invariant-loop-at l = ReadTo l.s l.from l.to l.at l.value
