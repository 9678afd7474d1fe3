-- Each turn writes eight items more (`items_then`).
use mathlib.Core.Path.{◌≡◌, ◌∙◌}
use mathlib.Core.Bool.{false}
use Prim.Native.Nat.{◌+◌, ◌*◌}
use native.Mathlib.Omega.{arith}
use Rattle.copies.proofs.Items.{items_then}
use Rattle.copies.proofs.turns.turn_blocks.Goals as goal

pub loop-i-preserved : goal.loop-i-preserved
loop-i-preserved c =
    let a = c.args in
    let i = c.loop-i.i in
    let from_here : 16 * i * 2 ≡ i * 32 = omega arith in
    let more : 16 * i + 16 ≡ 16 * (i + 1) = omega arith in
    c.turn_sixteen.ensures ∙ rw c.loop-i.invariant (rw (from_here, more) at (items_then false a.src.now a.from 2 (16 * i) 16 a.out.now a.at (omega arith) (omega arith)))
