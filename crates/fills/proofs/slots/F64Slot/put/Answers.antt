-- One element is written.
use native.Mathlib.Omega.{arith}
use Rattle.fills.proofs.Writes.{over-one}
use Rattle.fills.proofs.slots.F64Slot.put.Goals as goal

pub returns : goal.returns
returns c = let a = c.args in over-one a.out.now a.at a.value (omega arith)
