-- Each turn writes one number more.
use mathlib.Core.Path.{◌≡◌}
use mathlib.Core.Bool.{false}
use Rattle.rules.specs.Numbers.{splice}
use Rattle.copies.specs.Copies.{items}
use Rattle.copies.proofs.turns.turn_each.Given as goal

abbrev pub invariant-loop-i : goal.invariant-loop-i
invariant-loop-i g l =
    l.out ≡ splice l.initial.out l.at (items false l.src l.from g.N.Turned.WIDTH g.N.Turned.WIDTH l.i)
