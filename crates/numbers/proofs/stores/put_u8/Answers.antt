-- One byte is the same in every order.
use native.Mathlib.Omega.{arith}
use Rattle.numbers.proofs.Storing.{store_one}
use Rattle.numbers.proofs.stores.put_u8.Goals as goal

pub returns : goal.returns
returns c = λ o. store_one c.args.out.now c.args.at o c.args.v (omega arith) (omega arith)
