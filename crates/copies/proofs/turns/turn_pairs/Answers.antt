-- The blocks and the rest behind them are all the items (`items_then`).
use mathlib.Core.Path.{◌≡◌, ◌∙◌}
use mathlib.Core.Bool.{false}
use Prim.Native.Nat.{ℕ, ◌+◌, ◌*◌, ◌/◌, ◌%◌}
use native.Mathlib.Omega.{arith}
use Rattle.copies.proofs.Items.{items_then}
use Rattle.copies.proofs.turns.turn_pairs.Goals as goal

pub returns : goal.returns
returns c =
    let a = c.args in
    let n : ℕ = a.count / 16 in
    let from_here : 16 * n * 2 ≡ n * 32 = omega arith in
    let all : 16 * n + a.count % 16 ≡ a.count = omega arith in
    c.pick_pairs.ensures
    ∙ rw c.turn_blocks.ensures
    (rw (from_here, all) at (items_then false a.src.now a.from 2 (16 * n) (a.count % 16) a.out.now a.at (omega arith) (omega arith)))
