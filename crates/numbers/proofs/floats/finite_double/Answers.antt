-- The one test of a pattern of 64 bits.
use lib.Ieee.{binary64}
use Rattle.rules.specs.Rules.{finite64}
use Rattle.numbers.proofs.Patterns.{finite-bits}
use Rattle.numbers.proofs.floats.finite_double.Goals as goal

pub returns : goal.returns
unfolding finite64
returns c = finite-bits binary64 _
