-- The place of the start, moved to k.
use mathlib.Core.Path.{ap, ◌∙◌}
use Rattle.points.specs.declared.walk.Place.{Place}
use Rattle.points.specs.Walks.{step_at, moved_to}
use Rattle.points.proofs.walk.walked.Goals as goal

pub returns : goal.returns
returns c = let a = c.args in c.step_at.ensures ∙ ap (λ (p : Place). step_at a.block.now (moved_to a.k p)) c.place_of.ensures
