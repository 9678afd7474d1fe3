-- Pair after pair: what comes of those that are left, with the values of those before them, is what all the pairs say.
use mathlib.Core.Path.{◌≡◌}
use Prim.Native.Nat.{◌-◌, ◌≤◌}
use lib.ListN.{length, drop}
use Rattle.lines.specs.Reader.{pairs_at}
use Rattle.setups.specs.Setups.{pairs_as}
use Rattle.setups.proofs.Folds.{going_on}
use Rattle.setups.proofs.reads.read_pairs.Given as goal

abbrev pub invariant-loop : goal.invariant-loop
invariant-loop l = record {
  four : length l.values ≡ 4;
  within : l.at ≤ length l.line;
  same : going_on l.values (pairs_at (4 - l.counter) (drop l.at l.line)) ≡ pairs_as (pairs_at 4 (drop l.start l.line));
}
