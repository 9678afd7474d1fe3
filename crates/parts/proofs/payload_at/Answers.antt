-- The second byte says how many digits there are.
use native.Mathlib.Omega.{arith}
use lib.Seq.{get_or-drop}
use Rattle.parts.proofs.payload_at.Goals as goal

pub returns : goal.returns
returns c = let a = c.args in omega (arith, c.requires.1, get_or-drop a.at a.parts.now 1 0)
