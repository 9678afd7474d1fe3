-- The library stores it so.
use mir.Syntax.{w64}
use Rattle.numbers.proofs.Twos.{stored}
use Rattle.numbers.proofs.signs.unsigned.Goals as goal

pub returns : goal.returns
returns c = stored w64 c.args.z c.cast_unsigned.result c.ranges.z c.cast_unsigned.ensures
