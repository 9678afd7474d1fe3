-- A block of sixty-four samples is passed over where none of them is between.
use mathlib.Core.Path.{◌≡◌}
use mathlib.Core.Bool.{false}
use Prim.Native.Nat.{ℕ, ◌*◌, ◌<◌}
use lib.ListN.{length}
use Rattle.fills.specs.Fills.{sample_at}
use Rattle.levels.specs.Levels.{between}
use Rattle.crossings.proofs.scan.passed.Given as goal

abbrev pub invariant-loop-b : goal.invariant-loop-b
invariant-loop-b l = record {
  samples_len : length l.samples ≡ 64;
  none : (j : ℕ) → j < l.b * 64 → between l.low l.high (sample_at l.order l.size l.block l.from j) ≡ false;
}
