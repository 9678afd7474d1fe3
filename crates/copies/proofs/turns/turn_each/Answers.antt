-- Each turn writes one number more (`gather-step`).
use mathlib.Core.Path.{◌∙◌}
use mathlib.Core.Bool.{false}
use Prim.Native.Nat.{ℕ, ◌+◌, ◌*◌}
use native.Mathlib.Omega.{arith}
use Rattle.copies.specs.Copies.{in_order, part}
use Rattle.copies.proofs.Laws.{gather-step, length_turned}
use Rattle.copies.proofs.Items.{rows-room}
use Rattle.copies.proofs.turns.turn_each.Goals as goal

pub loop-i-preserved : goal.loop-i-preserved
loop-i-preserved g c =
    let a = c.args in
    let w : ℕ = g.N.Turned.WIDTH in
    let i = c.loop-i.i in
    rw (c.WIDTH.ensures, c.WIDTH-in-loop-i.ensures) at c.turn.ensures
    ∙ rw c.loop-i.invariant
    (gather-step (λ k. in_order false (part a.src.now (a.from + k * w) w)) w i
    (λ k h. length_turned false a.src.now (a.from + k * w) w (omega (arith, rows-room k a.count w (omega arith))))
    a.out.now a.at (omega (arith, rows-room i a.count w c.loop-i-test.true)))
