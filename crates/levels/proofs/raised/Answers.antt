-- In 32 bits the difference fits, and in 16 bits it is the same number.
use Rattle.levels.proofs.Ranks.{difference_fits, cast_fits, cast_is}
use Rattle.levels.proofs.raised.Goals as goal

pub overflow_sub-result : goal.overflow_sub-result
overflow_sub-result c = difference_fits c.args.n c.requires

pub overflow_cast-result-2 : goal.overflow_cast-result-2
overflow_cast-result-2 c = cast_fits c.args.n c.requires

pub returns : goal.returns
returns c = cast_is c.args.n c.requires
