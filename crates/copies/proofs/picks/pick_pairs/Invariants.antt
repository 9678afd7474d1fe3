-- The loop gathers one pair more at each turn.
use mathlib.Core.Path.{◌≡◌}
use Rattle.rules.specs.Numbers.{splice}
use Rattle.copies.specs.Copies.{items}
use Rattle.copies.proofs.picks.pick_pairs.Given as goal

abbrev pub invariant-loop-i : goal.invariant-loop-i
invariant-loop-i l =
    l.out ≡ splice l.initial.out l.at (items l.same l.src l.from l.step 2 l.i)
