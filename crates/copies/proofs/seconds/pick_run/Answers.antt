-- The loop gathers one second byte more at each turn.
use mathlib.Core.Path.{◌≡◌, refl, ap, ◌∙◌}
use mathlib.Core.List.{[], ◌∷◌}
use Prim.Native.Nat.{ℕ, ◌+◌, ◌*◌, ◌/◌}
use native.Mathlib.Nat.{mul-one}
use native.Mathlib.Omega.{arith}
use lib.ListN.{get_or}
use lib.Seq.{sets-eq}
use Rattle.rules.specs.Numbers.{splice}
use Rattle.copies.proofs.Laws.{gather-step}
use Rattle.copies.proofs.Items.{items-bytes, second_of}
use Rattle.copies.proofs.seconds.pick_run.Goals as goal
use Rattle.copies.proofs.seconds.pick_run.Goals.{After-u16_at-pair}

-- the byte that a turn stores
second : (c : After-u16_at-pair)
    → c.u16_at-pair.result / 256 ≡ get_or c.args.src.now (c.args.from + 1 + c.loop-i.i * 2) 0
second c =
    let a = c.args in
    let p : ℕ = a.from + c.loop-i.i * 2 in
    let at : p + 1 ≡ a.from + 1 + c.loop-i.i * 2 = omega arith in
    ap (λ (n : ℕ). n / 256) c.u16_at-pair.ensures
    ∙ second_of a.src.now p (c.type_inv.src p).fits (omega arith)
    ∙ ap (λ (n : ℕ). get_or a.src.now n 0) at

pub loop-i-preserved : goal.loop-i-preserved
loop-i-preserved c =
    let a = c.args in
    let i = c.loop-i.i in
    rw (second (goal.at.loop-i-preserved c).After-u16_at-pair)
    (sets-eq (get_or a.src.now (a.from + 1 + i * 2) 0 ∷ []) c.loop-i.out (a.at + i) (omega arith)
    ∙ rw c.loop-i.invariant
    (rw mul-one at (gather-step (λ k. get_or a.src.now (a.from + 1 + k * 2) 0 ∷ []) 1 i (λ k h. refl) a.out.now a.at (simp mul-one (omega arith)))))

pub returns : goal.returns
returns c =
    let a = c.args in
    let e : c.loop-i.i ≡ a.count = omega arith in
    rw e at c.loop-i.invariant ∙ ap (splice a.out.now a.at) (items-bytes a.src.now (a.from + 1) 2 a.count (λ k h. omega (arith, c.requires.count_in_bounds, c.requires.count_in_bounds_2)))
