-- The blocks, and the run behind them, are all the seconds (`seconds_more`).
use mathlib.Core.Path.{◌≡◌, ◌∙◌}
use Prim.Native.Nat.{ℕ, ◌+◌, ◌*◌, ◌/◌, ◌%◌}
use native.Mathlib.Omega.{arith}
use Rattle.copies.proofs.Items.{seconds_more}
use Rattle.copies.proofs.seconds.pick_seconds.Goals as goal

pub returns : goal.returns
returns c =
    let a = c.args in
    let n : ℕ = a.count / 128 * 128 in
    let all : n + a.count % 128 ≡ a.count = omega arith in
    c.pick_run.ensures
    ∙ rw c.pick_blocks.ensures (rw all at (seconds_more a.src.now a.from n (a.count % 128) a.out.now a.at (omega arith) (omega arith)))
