-- Each turn writes the next value, and counts the mark of its sample.
use mathlib.Core.Path.{◌≡◌}
use mathlib.Core.List.{map, flatten}
use Prim.Native.Nat.{◌*◌, ◌-◌}
use Rattle.rules.specs.Numbers.{up_from}
use Rattle.fills.specs.Fills.{value_at, mark_count_from, over}
use Rattle.fills.proofs.values.fill_rest.Given as goal

abbrev pub invariant-loop-i : goal.invariant-loop-i
invariant-loop-i g l = let s = g.S.Slot in record {
  written : l.out ≡ over l.initial.out (l.done * s.WIDTH) (flatten (map (λ k. s.items (value_at l.c.gain l.c.offset l.order l.size l.block l.from k)) (up_from l.done (l.i - l.done))));
  marked : l.marks ≡ mark_count_from l.order l.size l.block l.from l.done (l.i - l.done);
}
