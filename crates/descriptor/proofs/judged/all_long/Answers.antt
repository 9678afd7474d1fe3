-- The ten tests, joined from the left as the code joins them.
use mathlib.Core.List.{[], ◌∷◌, map}
use Rattle.rules.specs.Rules.{long≥0}
use Rattle.numbers.proofs.Bools.{joined-all}
use Rattle.descriptor.proofs.judged.all_long.Goals as goal

pub returns : goal.returns
returns c = let x = c.args in joined-all (map long≥0 (x.a ∷ x.b ∷ x.c ∷ x.d ∷ x.e ∷ x.f ∷ x.g ∷ x.h ∷ x.i ∷ x.j ∷ []))
