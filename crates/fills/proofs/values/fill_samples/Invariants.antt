-- Each turn writes the next two values.
use mathlib.Core.Path.{◌≡◌}
use mathlib.Core.List.{map, flatten}
use Prim.Native.Nat.{◌*◌}
use lib.IntN.{pos}
use lib.ListN.{get_or}
use Rattle.rules.specs.Numbers.{up_from}
use Rattle.rules.specs.Points.{value_of}
use Rattle.fills.specs.Fills.{over}
use Rattle.fills.proofs.values.fill_samples.Given as goal

abbrev pub invariant-loop-j : goal.invariant-loop-j
invariant-loop-j g l =
    l.out ≡ over l.initial.out l.at (flatten (map (λ k. g.S.Slot.items (value_of l.c.gain l.c.offset (get_or l.wide k (pos 0)))) (up_from 0 (l.j * 2))))
