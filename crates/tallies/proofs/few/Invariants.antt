-- Each turn takes in the next sample.
use Prim.Native.Nat.{◌≤◌}
use Rattle.fills.specs.Fills.{sample_at}
use Rattle.tallies.specs.Tallies.{Seen, Spanned}
use Rattle.tallies.proofs.few.Given as goal

abbrev pub invariant-loop-k : goal.invariant-loop-k
invariant-loop-k l =
    (l.a ≤ l.k) × (l.k ≤ l.b) × Seen l.size (sample_at l.order l.size l.block l.from) l.k l.t × Spanned (sample_at l.order l.size l.block l.from) l.a l.k l.t
