-- Each turn writes the value, the time and the mark of the next point; the walk is done after the last.
use mathlib.Core.Path.{◌≡◌}
use mathlib.Core.List.{map}
use Prim.Native.Nat.{◌≤◌}
use lib.ListN.{length}
use Rattle.std.specs.Iterator.Adapters.{enumerate_source, enumerate_count}
use Rattle.rules.specs.Numbers.{up_from}
use Rattle.rules.specs.Wave.{points}
use Rattle.rules.specs.Rules.{opened}
use Rattle.rules.specs.Points.{value, time}
use Rattle.fills.specs.Fills.{over}
use Rattle.points.specs.Walks.{place_after}
use Rattle.compared.specs.Tested.{mark_byte}
use Rattle.compared.proofs.walks.put_steps.Given as goal

abbrev pub invariant-loop-k : goal.invariant-loop-k
invariant-loop-k l =
    let k = enumerate_count l.k-iterator in
    let walk = enumerate_source l.k-iterator in
    record {
      can_next : (goal.iterator-loop-k).can_next l.k-iterator;
      is_finite : (goal.iterator-loop-k).is_finite l.k-iterator;
      below : k ≤ points (opened l.block).head;
      same_block : walk.block.now ≡ l.block;
      stands : walk.place ≡ place_after l.block l.array l.segment k;
      values_room : length l.values ≡ length l.initial.values;
      times_room : length l.times ≡ length l.initial.times;
      marks_room : length l.marks ≡ length l.initial.marks;
      values_written : l.values ≡ over l.initial.values 0 (map (value (opened l.block) l.array l.segment) (up_from 0 k));
      times_written : l.times ≡ over l.initial.times 0 (map (time (opened l.block) l.segment) (up_from 0 k));
      marks_written : l.marks ≡ over l.initial.marks 0 (map (mark_byte (opened l.block) l.array l.segment) (up_from 0 k));
    }
