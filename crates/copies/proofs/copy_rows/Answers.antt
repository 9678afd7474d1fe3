-- The loop gathers one row more at each turn.
use mathlib.Core.Path.{◌∙◌}
use Prim.Native.Nat.{◌+◌, ◌*◌, ◌≤◌}
use native.Mathlib.Omega.{arith}
use Rattle.copies.specs.Copies.{items}
use Rattle.copies.proofs.Laws.{gather-step}
use Rattle.copies.proofs.Items.{rows-room, length-items}
use Rattle.copies.proofs.copy_rows.Goals as goal
use Rattle.copies.proofs.copy_rows.Goals.{In-loop-n}

-- the rows up to this one end before the last does
room : (c : In-loop-n) → c.loop-n.n * (c.args.count * c.args.width) + c.args.count * c.args.width ≤ c.args.rows * (c.args.count * c.args.width)
room c = rows-room c.loop-n.n c.args.rows (c.args.count * c.args.width) c.loop-n-test.true

pub loop-n-preserved : goal.loop-n-preserved
loop-n-preserved c =
    let a = c.args in
    c.copy_row.ensures
    ∙ rw c.loop-n.invariant
    (gather-step (λ i. items a.same a.src.now (a.from + i * a.row) a.step a.width a.count) (a.count * a.width) c.loop-n.n
    (λ i b. length-items a.same a.src.now (a.from + i * a.row) a.step a.width a.count (λ k d. c.requires.by_index i k (omega arith) d))
    a.out.now a.at (omega (arith, room (goal.at.loop-n-preserved c).In-loop-n)))
