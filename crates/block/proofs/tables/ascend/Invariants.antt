-- Entry by entry: what is tested so far, the time before, and what is left.
use mathlib.Core.Path.{◌≡◌}
use mathlib.Core.Bool.{◌&&◌}
use mathlib.Core.List.{map}
use Prim.Native.Nat.{◌-◌}
use Rattle.rules.specs.Numbers.{up_from}
use Rattle.rules.specs.Rules.{ascending}
use Rattle.block.specs.Opened.{time_by, times_by}
use Rattle.block.proofs.Times.{after}
use Rattle.block.proofs.tables.ascend.Given as goal

abbrev pub invariant-loop-j : goal.invariant-loop-j
invariant-loop-j l = ascending (times_by l.order l.from l.step l.count l.s) ≡ l.ok && after l.last (map (time_by l.order l.from l.step l.s) (up_from l.j (l.count - l.j)))
