-- The loop places one row more at each turn.
use mathlib.Core.Path.{◌≡◌}
use Prim.Native.Nat.{◌-◌}
use lib.ListN.{length}
use Rattle.parts.proofs.Walking.{Left}
use Rattle.parts.proofs.place_rows.Given as goal

abbrev pub invariant-loop-here : goal.invariant-loop-here
invariant-loop-here l = Left l.parts l.order l.long l.from l.size l.skip l.count l.initial.out l.at l.out l.here × (length l.out ≡ length l.initial.out)

abbrev pub decreases-loop-here : goal.decreases-loop-here
decreases-loop-here l = length l.parts - l.here
