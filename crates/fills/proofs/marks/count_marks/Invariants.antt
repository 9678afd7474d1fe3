-- Sample by sample: the marks so far.
use mathlib.Core.Path.{◌≡◌}
use Prim.Native.Nat.{◌≤◌}
use lib.ListN.{take}
use Rattle.rules.specs.Points.{mark_count_of}
use Rattle.fills.proofs.marks.count_marks.Given as goal

abbrev pub invariant-loop-sample : goal.invariant-loop-sample
invariant-loop-sample l =
    (l.sample-index ≤ 64) × (l.n ≤ l.sample-index) × (l.n ≡ mark_count_of l.size (take l.sample-index l.samples))
