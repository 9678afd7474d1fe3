-- The library reads it so.
use mir.Syntax.{w8}
use Rattle.numbers.proofs.Twos.{read}
use Rattle.numbers.proofs.signs.signed8.Goals as goal

pub returns : goal.returns
returns c = read w8 c.args.n c.cast_signed.result c.ranges.n c.cast_signed.ensures
