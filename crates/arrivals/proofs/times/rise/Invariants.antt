-- Each turn passes a window that rises, or ends at one that does not.
use mathlib.Core.Path.{◌≡◌}
use Prim.Native.Nat.{◌+◌, ◌-◌, ◌≤◌}
use lib.ListN.{drop}
use Rattle.rules.specs.Rules.{ascending}
use Rattle.arrivals.specs.Arrivals.{times_at}
use Rattle.arrivals.proofs.times.rise.Given as goal

abbrev pub invariant-loop-skip : goal.invariant-loop-skip
invariant-loop-skip l = (l.skip ≤ l.count + 30) × (ascending (times_at l.order l.trig l.parts) ≡ ascending (drop l.skip (times_at l.order l.trig l.parts)))

abbrev pub decreases-loop-skip : goal.decreases-loop-skip
decreases-loop-skip l = l.count - l.skip
