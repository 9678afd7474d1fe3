-- A finite pattern of 64 bits is no NaN.
use lib.Ieee.{binary64}
use Rattle.rules.specs.Rules.{finite64}
use Rattle.numbers.proofs.Patterns.{no_nan_bits}
use Rattle.numbers.proofs.floats.double.Goals as goal

pub float_from_bits-result : goal.float_from_bits-result
unfolding finite64
float_from_bits-result c = no_nan_bits binary64 c.args.n c.requires
