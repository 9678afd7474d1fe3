-- The four tests, joined from the left as the code joins them.
use mathlib.Core.List.{[], ◌∷◌, map}
use Rattle.rules.specs.Rules.{zero?}
use Rattle.numbers.proofs.Bools.{joined-all}
use Rattle.descriptor.proofs.judged.all_zero.Goals as goal

pub returns : goal.returns
returns c = let x = c.args in joined-all (map zero? (x.a ∷ x.b ∷ x.c ∷ x.d ∷ []))
