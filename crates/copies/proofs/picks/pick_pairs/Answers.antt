-- The loop gathers one pair more at each turn.
use mathlib.Core.Path.{◌∙◌}
use Prim.Native.Nat.{◌+◌, ◌*◌, ◌≤◌}
use native.Mathlib.Omega.{arith}
use lib.ListN.{length}
use Rattle.copies.specs.Copies.{in_order, part}
use Rattle.numbers.proofs.Reading.{part_window}
use Rattle.copies.proofs.Laws.{gather-step, length_turned}
use Rattle.copies.proofs.picks.pick_pairs.Goals as goal
use Rattle.copies.proofs.picks.pick_pairs.Goals.{In-loop-i}

-- what is required of the turn's index
room : (c : In-loop-i) → c.args.from + c.loop-i.i * c.args.step + 2 ≤ length c.args.src.now
room c = c.requires.by_index c.loop-i.i c.loop-i-test.true

pub loop-i-preserved : goal.loop-i-preserved
loop-i-preserved c =
    let a = c.args in
    let i = c.loop-i.i in
    c.put_pair.ensures
    ∙ rw (c.loop-i.invariant, ← part_window a.src.now (a.from + i * a.step) 2 (room (goal.at.loop-i-preserved c).In-loop-i))
    (gather-step (λ k. in_order a.same (part a.src.now (a.from + k * a.step) 2)) 2 i
    (λ k h. length_turned a.same a.src.now (a.from + k * a.step) 2 (c.requires.by_index k (omega arith)))
    a.out.now a.at (omega arith))
