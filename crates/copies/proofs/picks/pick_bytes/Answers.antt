-- The loop gathers one byte more at each turn.
use mathlib.Core.Path.{◌≡◌, refl, ap, ◌∙◌}
use mathlib.Core.List.{[], ◌∷◌}
use Prim.Native.Nat.{◌+◌, ◌*◌}
use native.Mathlib.Nat.{mul-one}
use native.Mathlib.Omega.{arith}
use lib.ListN.{get_or}
use lib.Seq.{sets-eq}
use Rattle.rules.specs.Numbers.{splice}
use Rattle.copies.proofs.Laws.{gather-step}
use Rattle.copies.proofs.Items.{items-bytes}
use Rattle.copies.proofs.picks.pick_bytes.Goals as goal
use Rattle.copies.proofs.picks.pick_bytes.Goals.{In-loop-i}

pub loop-i-preserved : goal.loop-i-preserved
loop-i-preserved c =
    let a = c.args in
    let i = c.loop-i.i in
    sets-eq (get_or a.src.now (a.from + i * a.step) 0 ∷ []) c.loop-i.out (a.at + i) (omega arith)
    ∙ rw c.loop-i.invariant
    (rw mul-one at (gather-step (λ k. get_or a.src.now (a.from + k * a.step) 0 ∷ []) 1 i (λ k h. refl) a.out.now a.at (simp mul-one (omega arith))))

pub returns : goal.returns
returns c =
    let a = c.args in
    let e : c.loop-i.i ≡ a.count = omega arith in
    rw e at c.loop-i.invariant ∙ ap (splice a.out.now a.at) (items-bytes a.src.now a.from a.step a.count c.requires.by_index)
