-- The library's test.
use mathlib.Core.Path.{◌∙◌}
use Rattle.scale.proofs.Finite.{library_finite}
use Rattle.scale.proofs.is_finite_double.Goals as goal

pub returns : goal.returns
returns c = c.is_finite.ensures.value ∙ library_finite c.args.x
