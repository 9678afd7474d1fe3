-- One byte is the number in every order.
use native.Mathlib.Omega.{arith}
use Rattle.numbers.proofs.Reading.{read_one}
use Rattle.numbers.proofs.reads.u8_at.Goals as goal

pub returns : goal.returns
returns c = λ o. read_one c.args.s.now c.args.at o (omega arith)
