-- Field by field.
use native.Mathlib.Omega.{arith}
use Prim.Native.Nat.{◌+◌}
use lib.ListN.{get_or}
use Rattle.block.specs.Steps.{fields_at}
use Rattle.block.proofs.opening.fields_of.Goals as goal

pub overflow_cast-order : goal.overflow_cast-order
overflow_cast-order c = omega (arith, c.type_inv.block (c.args.start + 34))

pub returns : goal.returns
unfolding fields_at
returns c =
    let a = c.args in
    let n = c.counts_of.ensures in
    let l = c.lengths_of.ensures in
    let p = c.patterns_of.ensures in
    λ i. record { order = get_or a.block.now (a.start + 34) 0; counts = n i; lengths = l i; patterns = p i }
