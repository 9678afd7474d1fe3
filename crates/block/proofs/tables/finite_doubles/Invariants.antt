-- Double by double: what is tested so far, and what is left.
use mathlib.Core.Path.{◌≡◌}
use mathlib.Core.Bool.{◌&&◌}
use Prim.Native.Nat.{◌+◌, ◌-◌, ◌*◌}
use lib.ListN.{drop}
use Rattle.rules.specs.Numbers.{numbers}
use Rattle.rules.specs.Rules.{every?, finite64}
use Rattle.block.proofs.tables.finite_doubles.Given as goal

abbrev pub invariant-loop-k : goal.invariant-loop-k
invariant-loop-k l = every? finite64 (numbers l.order 8 l.count (drop l.from l.block)) ≡ l.ok && every? finite64 (numbers l.order 8 (l.count - l.k) (drop (l.from + l.k * 8) l.block))
