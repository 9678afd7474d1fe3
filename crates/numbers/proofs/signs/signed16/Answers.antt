-- The library reads it so.
use mir.Syntax.{w16}
use Rattle.numbers.proofs.Twos.{read}
use Rattle.numbers.proofs.signs.signed16.Goals as goal

pub returns : goal.returns
returns c = read w16 c.args.n c.cast_signed.result c.ranges.n c.cast_signed.ensures
