-- Below the pattern of 2^120 the product is finite, and nowhere else.
use mathlib.Core.Path.{sym}
use Rattle.narrows.proofs.Doubles.{pattern_range}
use Rattle.narrows.proofs.gains.is_narrow.Goals as goal

pub returns : goal.returns
returns c = sym (pattern_range c.args.gain c.requires)
