-- Field by field, zeros.
use mathlib.Core.Path.{refl}
use Rattle.block.proofs.opening.refused.Goals as goal

pub returns : goal.returns
returns c = refl
