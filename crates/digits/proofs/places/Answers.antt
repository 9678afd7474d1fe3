-- The power of ten that the number reaches.
use native.Mathlib.Omega.{arith}
use Rattle.digits.proofs.Spelled.{places_power}
use Rattle.digits.proofs.places.Goals as goal

pub returns : goal.returns
returns c = places_power c.args.n c.max.result c.ilog10.result (omega arith) c.ilog10.ensures.power_le c.ilog10.ensures.next_power_gt
