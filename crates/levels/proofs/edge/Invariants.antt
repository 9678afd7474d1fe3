-- Each turn keeps the half in which the rank is.
use mathlib.Core.Path.{◌≡◌}
use mathlib.Core.Bool.{true, false}
use Prim.Native.Nat.{ℕ, ◌-◌, ◌≤◌, ◌<◌}
use lib.Ieee.{le}
use Rattle.rules.specs.Points.{value_of}
use Rattle.levels.specs.Levels.{ranked}
use Rattle.levels.proofs.edge.Given as goal

abbrev pub invariant-loop-low : goal.invariant-loop-low
invariant-loop-low l =
    (l.low ≤ l.high) × (l.high ≤ 65536)
    × ((j : ℕ) → j < l.low → le l.level (value_of l.c.gain l.c.offset (ranked l.falling j)) ≡ false)
    × ((j : ℕ) → l.high ≤ j → j < 65536 → le l.level (value_of l.c.gain l.c.offset (ranked l.falling j)) ≡ true)

abbrev pub decreases-loop-low : goal.decreases-loop-low
decreases-loop-low l = l.high - l.low
