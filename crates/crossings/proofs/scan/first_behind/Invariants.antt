-- Each turn looks at the next sample; none before it stands from low to high.
use mathlib.Core.Path.{◌≡◌}
use mathlib.Core.Bool.{false}
use Prim.Native.Nat.{ℕ, ◌<◌}
use Rattle.fills.specs.Fills.{sample_at}
use Rattle.levels.specs.Levels.{between}
use Rattle.crossings.proofs.scan.first_behind.Given as goal

abbrev pub invariant-loop-i : goal.invariant-loop-i
invariant-loop-i l = (j : ℕ) → j < l.i → between l.low l.high (sample_at l.order l.size l.block l.from j) ≡ false
