-- Each turn stores the next sample.
use mathlib.Core.Path.{◌≡◌}
use mathlib.Core.List.{map}
use Prim.Native.Nat.{◌≤◌}
use Rattle.rules.specs.Numbers.{up_from}
use Rattle.fills.specs.Fills.{sample_at, over}
use Rattle.fills.proofs.samples.read_samples.Given as goal

abbrev pub invariant-loop-k : goal.invariant-loop-k
invariant-loop-k l =
    (l.k ≤ 64) × (l.samples ≡ over l.initial.samples 0 (map (sample_at l.order l.size l.block l.from) (up_from l.first l.k)))
