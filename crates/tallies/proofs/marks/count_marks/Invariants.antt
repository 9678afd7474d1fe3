-- Each turn counts the mark of the next sample.
use mathlib.Core.Path.{◌≡◌}
use Prim.Native.Nat.{◌≤◌}
use Rattle.rules.specs.Points.{mark_count_of}
use Rattle.fills.specs.Fills.{sample_at}
use Rattle.columns.specs.Columns.{run}
use Rattle.tallies.proofs.marks.count_marks.Given as goal

abbrev pub invariant-loop-k : goal.invariant-loop-k
invariant-loop-k l = (l.a ≤ l.k) × (l.k ≤ l.b) × (l.n ≡ mark_count_of l.size (run (sample_at l.order l.size l.block l.from) l.a l.k))
