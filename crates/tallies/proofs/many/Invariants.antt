-- Each turn takes in the next points, at most 256.
use Prim.Native.Nat.{◌-◌, ◌≤◌}
use Rattle.fills.specs.Fills.{sample_at}
use Rattle.tallies.specs.Tallies.{Seen, Spanned}
use Rattle.tallies.proofs.many.Given as goal

abbrev pub invariant-loop-i : goal.invariant-loop-i
invariant-loop-i l =
    (l.a ≤ l.i) × (l.i ≤ l.b) × Seen l.size (sample_at l.order l.size l.block l.from) l.i l.t × Spanned (sample_at l.order l.size l.block l.from) l.a l.i l.t

abbrev pub decreases-loop-i : goal.decreases-loop-i
decreases-loop-i l = l.b - l.i
