-- Each turn writes the seconds of a hundred and twenty-eight pairs more (`seconds_more`).
use mathlib.Core.Path.{◌≡◌}
use mathlib.Core.Bool.{true}
use Prim.Native.Nat.{◌+◌, ◌*◌}
use Rattle.rules.specs.Numbers.{splice}
use Rattle.copies.specs.Copies.{items}
use Rattle.copies.proofs.seconds.pick_blocks.Given as goal

abbrev pub invariant-loop-i : goal.invariant-loop-i
invariant-loop-i l =
    l.out ≡ splice l.initial.out l.at (items true l.src (l.from + 1) 2 1 (l.i * 128))
