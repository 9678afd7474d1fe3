-- The library reads it so.
use mir.Syntax.{w32}
use Rattle.numbers.proofs.Twos.{read}
use Rattle.numbers.proofs.signs.signed32.Goals as goal

pub returns : goal.returns
returns c = read w32 c.args.n c.cast_signed.result c.ranges.n c.cast_signed.ensures
