-- The three tests of rule 7, in 64 bits.
use Prim.Native.Nat.{◌*◌, ◌≤◌}
use native.Mathlib.Nat.{mul-le-mul, div-le_self}
use native.Mathlib.Omega.{arith}
use Rattle.numbers.proofs.Bools.{and_assoc, and_end}
use Rattle.rules.specs.Rules.{placed}
use Rattle.descriptor.proofs.judged.is_placed.Goals as goal
use Rattle.descriptor.proofs.judged.is_placed.Goals.{After-struct_known-4-1}

pub overflow_cast-counts : goal.overflow_cast-counts
overflow_cast-counts c = omega (arith, div-le_self c.args.counts.count c.at_least_one-g.result)

-- S × (M − 1), of numbers of 32 bits
product : (c : After-struct_known-4-1) → c.at_least_one-s.result * c.less_one-last.result ≤ 4294967295 * 4294967295
product c =
    let s : c.at_least_one-s.result ≤ 4294967295 = omega arith in
    let m : c.less_one-last.result ≤ 4294967295 =
    omega (arith, div-le_self c.args.counts.count c.at_least_one-g.result) in
    mul-le-mul s m

pub overflow_mul-result : goal.overflow_mul-result
overflow_mul-result c = omega (arith, product (goal.at.overflow_mul-result c).After-struct_known-4-1)

pub overflow_add-result : goal.overflow_add-result
overflow_add-result c = omega (arith, product (goal.at.overflow_add-result c).After-struct_known-4-1)

pub returns : goal.returns
unfolding placed
returns c = simp (and_assoc, and_end) cc
