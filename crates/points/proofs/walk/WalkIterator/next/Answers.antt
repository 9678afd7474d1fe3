-- A point is one of those that were left.
use mathlib.Core.Path.{refl}
use Rattle.points.proofs.Runs.{fewer}
use Rattle.points.proofs.walk.WalkIterator.next.Goals as goal

pub returns-clause-goes : goal.returns-clause-goes
returns-clause-goes c = fewer (λ _. tt) _ _ c.stepped-point.result (record { answers = c.stepped-point.ensures; same_block = refl; moves = c.advance.ensures })
