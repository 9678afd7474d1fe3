-- Each turn writes the value of the next point and counts its mark; the walk is done after the last.
use mathlib.Core.Path.{◌≡◌}
use mathlib.Core.List.{map}
use Prim.Native.Nat.{◌≤◌}
use lib.ListN.{length}
use Rattle.std.specs.Iterator.Adapters.{enumerate_source, enumerate_count}
use Rattle.rules.specs.Numbers.{up_from}
use Rattle.rules.specs.Wave.{size_of, points}
use Rattle.rules.specs.Rules.{opened}
use Rattle.rules.specs.Points.{sample, value, mark_count_of}
use Rattle.fills.specs.Fills.{over}
use Rattle.points.specs.Walks.{place_after}
use Rattle.measured.proofs.put_points.Given as goal

abbrev pub invariant-loop-k : goal.invariant-loop-k
invariant-loop-k l =
    let k = enumerate_count l.k-iterator in
    let walk = enumerate_source l.k-iterator in
    record {
      can_next : (goal.iterator-loop-k).can_next l.k-iterator;
      is_finite : (goal.iterator-loop-k).is_finite l.k-iterator;
      below : k ≤ points (opened l.block).head;
      same_block : walk.block.now ≡ l.block;
      stands : walk.place ≡ place_after l.block l.array l.segment k;
      room : length l.out ≡ length l.initial.out;
      written : l.out ≡ over l.initial.out 0 (map (value (opened l.block) l.array l.segment) (up_from 0 k));
      counted : l.marks ≡ mark_count_of (size_of (opened l.block).head) (map (sample (opened l.block) l.array l.segment) (up_from 0 k));
    }
