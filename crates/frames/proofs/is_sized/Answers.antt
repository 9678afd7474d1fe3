-- The tests of rule 2 in their order.
use native.Mathlib.Omega.{arith}
use Rattle.std.proofs.lemmas.Bool.Decides.{nat_tests}
use Rattle.rules.specs.Rules.{sized}
use Rattle.frames.proofs.is_sized.Goals as goal

pub returns-then-n-end : goal.returns-then-n-end
unfolding sized
returns-then-n-end c = grind (arith, nat_tests)

pub returns-then-n-end-2 : goal.returns-then-n-end-2
unfolding sized
returns-then-n-end-2 c = grind (arith, nat_tests)

pub returns-else-n-end-2 : goal.returns-else-n-end-2
unfolding sized
returns-else-n-end-2 c = grind (arith, nat_tests)

pub returns-else-contains : goal.returns-else-contains
unfolding sized
returns-else-contains c = grind (arith, nat_tests)
