-- The loop gathers one row more at each turn.
use mathlib.Core.Path.{◌≡◌}
use Rattle.rules.specs.Numbers.{splice}
use Rattle.copies.specs.Copies.{rows_of}
use Rattle.copies.proofs.copy_rows.Given as goal

abbrev pub invariant-loop-n : goal.invariant-loop-n
invariant-loop-n l =
    l.out ≡ splice l.initial.out l.at (rows_of l.same l.src l.from l.row l.n l.step l.width l.count)
