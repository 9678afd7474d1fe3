-- Each turn writes the seconds of a hundred and twenty-eight pairs more (`seconds_more`).
use mathlib.Core.Path.{◌≡◌, ◌∙◌}
use Prim.Native.Nat.{◌+◌, ◌*◌}
use native.Mathlib.Omega.{arith}
use Rattle.copies.proofs.Items.{seconds_more}
use Rattle.copies.proofs.seconds.pick_blocks.Goals as goal

pub loop-i-preserved : goal.loop-i-preserved
loop-i-preserved c =
    let a = c.args in
    let i = c.loop-i.i in
    let from_here : i * 128 * 2 ≡ i * 256 = omega arith in
    let more : i * 128 + 128 ≡ (i + 1) * 128 = omega arith in
    c.pick_run.ensures ∙ rw c.loop-i.invariant (rw (from_here, more) at (seconds_more a.src.now a.from (i * 128) 128 a.out.now a.at (omega arith) (omega arith)))
