-- The library's test of both.
use mathlib.Core.Path.{ap₂, ◌∙◌}
use mathlib.Core.Bool.{Bool, ◌&&◌}
use Rattle.scale.proofs.Finite.{library_finite}
use Rattle.scale.proofs.is_finite_value.Goals as goal

pub returns : goal.returns
returns c = ap₂ {C = Bool} (λ x y. x && y) (c.is_finite.ensures.value ∙ library_finite c.args.c.gain) (c.is_finite-2.ensures.value ∙ library_finite c.args.c.offset)
