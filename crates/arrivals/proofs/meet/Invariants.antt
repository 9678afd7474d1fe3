-- The first part is met, then one more at each turn; a bad one ends the loop.
use mathlib.Core.Path.{◌≡◌}
use Prim.Native.Nat.{◌-◌, ◌≤◌}
use lib.ListN.{length}
use Rattle.arrivals.proofs.Meeting.{Met}
use Rattle.arrivals.proofs.meet.Given as goal

abbrev pub invariant-loop-here : goal.invariant-loop-here
invariant-loop-here l = Met l.parts l.seen l.together l.count l.here × (1 ≤ l.count) × (length l.seen ≡ 16)

abbrev pub decreases-loop-here : goal.decreases-loop-here
decreases-loop-here l = length l.parts - l.here
