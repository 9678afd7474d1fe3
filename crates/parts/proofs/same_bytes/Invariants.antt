-- The loop compares one byte more at each turn.
use mathlib.Core.Path.{◌≡◌}
use Prim.Native.Nat.{◌+◌, ◌-◌, ◌≤◌}
use mathlib.Core.Bool.{◌&&◌}
use Rattle.rules.specs.Rules.{same}
use Rattle.copies.specs.Copies.{part}
use Rattle.parts.proofs.same_bytes.Given as goal

abbrev pub invariant-loop-i : goal.invariant-loop-i
invariant-loop-i l = (l.i ≤ l.count) × (same (part l.parts l.a l.count) (part l.parts l.b l.count) ≡ l.ok && same (part l.parts (l.a + l.i) (l.count - l.i)) (part l.parts (l.b + l.i) (l.count - l.i)))
