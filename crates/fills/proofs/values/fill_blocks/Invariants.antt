-- Each turn writes sixty-four values more, and counts the marks of their samples.
use mathlib.Core.Path.{◌≡◌}
use mathlib.Core.List.{map, flatten}
use Prim.Native.Nat.{◌*◌}
use lib.ListN.{length}
use Rattle.rules.specs.Numbers.{up_from}
use Rattle.fills.specs.Fills.{value_at, mark_count_from, over}
use Rattle.fills.proofs.values.fill_blocks.Given as goal

abbrev pub invariant-loop-b : goal.invariant-loop-b
invariant-loop-b g l = record {
  samples_len : length l.samples ≡ 64;
  written : l.out ≡ over l.initial.out 0 (flatten (map (λ k. g.S.Slot.items (value_at l.c.gain l.c.offset l.order l.size l.block l.from k)) (up_from 0 (l.b * 64))));
  marked : l.marks ≡ mark_count_from l.order l.size l.block l.from 0 (l.b * 64);
}
