-- A finite pattern of 32 bits is no NaN.
use lib.Ieee.{binary32}
use Rattle.rules.specs.Rules.{finite32}
use Rattle.numbers.proofs.Patterns.{no_nan_bits}
use Rattle.numbers.proofs.floats.single.Goals as goal

pub float_from_bits-result : goal.float_from_bits-result
unfolding finite32
float_from_bits-result c = no_nan_bits binary32 c.args.n c.requires
