-- The one test of a pattern of 32 bits.
use lib.Ieee.{binary32}
use Rattle.rules.specs.Rules.{finite32}
use Rattle.numbers.proofs.Patterns.{finite-bits}
use Rattle.numbers.proofs.floats.finite_single.Goals as goal

pub returns : goal.returns
unfolding finite32
returns c = finite-bits binary32 _
