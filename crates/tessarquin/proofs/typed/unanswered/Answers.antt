-- By whether the line fits.
use native.Mathlib.Omega.{arith}
use Rattle.cuts.specs.Cuts.{setup_as}
use Rattle.tessarquin.proofs.Typing.{untold_15, untold_13}
use Rattle.tessarquin.proofs.typed.unanswered.Goals as goal

pub returns-then-room-length_of : goal.returns-then-room-length_of
returns-then-room-length_of c = let a = c.args in untold_15 (setup_as a.setup) a.room (omega (arith, c.if-room-length_of.true, c.length_of.ensures))

pub returns-else-room-length_of : goal.returns-else-room-length_of
returns-else-room-length_of c = let a = c.args in untold_13 (setup_as a.setup) a.room (omega (arith, c.if-room-length_of.false, c.length_of.ensures))
