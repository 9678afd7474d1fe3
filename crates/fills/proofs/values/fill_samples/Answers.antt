-- The widened numbers are the samples, and each turn writes the next two values.
use mathlib.Core.Path.{◌≡◌, ap, ◌∙◌}
use mathlib.Core.List.{List, map, flatten}
use Prim.Native.Nat.{ℕ, ◌+◌, ◌*◌, ◌<◌}
use native.Mathlib.Omega.{arith}
use lib.IntN.{ℤ, pos}
use lib.ListN.{length, get_or}
use mir.Syntax.{w32}
use mir.Val.{to_z, of_z}
use Rattle.rules.specs.Numbers.{up_from}
use Rattle.rules.specs.Points.{value_of}
use Rattle.scale.proofs.Finite.{near_no_nan}
use Rattle.fills.specs.Fills.{over}
use Rattle.fills.proofs.Sampling.{passed}
use Rattle.fills.proofs.Writes.{over_none, run-one, map-get_or, within}
use Rattle.fills.proofs.values.fill_samples.Goals as goal

pub loop-j-init : goal.loop-j-init
unfolding up_from flatten
loop-j-init g c = over_none c.args.out.now c.args.at

pub put-requires-clause-no_nan : goal.put-requires-clause-no_nan
put-requires-clause-no_nan g c = near_no_nan c.value_at.ensures.near

pub put-requires-in-loop-j-clause-no_nan : goal.put-requires-in-loop-j-clause-no_nan
put-requires-in-loop-j-clause-no_nan g c = near_no_nan c.value_at-in-loop-j.ensures.near

pub loop-j-preserved : goal.loop-j-preserved
loop-j-preserved g c =
    let s = g.S.Slot in
    let a = c.args in
    let l = c.loop-j in
    let k : ℕ = l.j * 2 in
    let w = c.WIDTH in
    let w2 = c.WIDTH-in-loop-j in
    let zs : List ℤ = c.widen.new.wide in
    let f : ℕ → List _ = λ j. s.items (value_of a.c.gain a.c.offset (get_or zs j (pos 0))) in
    let same : (j : ℕ) → j < 64 → value_of a.c.gain a.c.offset (to_z w32 (of_z w32 (get_or zs j (pos 0)))) ≡ value_of a.c.gain a.c.offset (get_or zs j (pos 0)) =
    λ j h. ap (value_of a.c.gain a.c.offset) (passed (get_or zs j (pos 0)) (c.widen.ensures.by_index j h)) in
    let room = within s.WIDTH (k + 1) 64 (omega (arith, c.loop-j-test.true)) in
    let e : k + 1 + 1 ≡ (l.j + 1) * 2 = omega arith in
    let one = c.put.ensures
    ∙ run-one f s.WIDTH (λ j. g.met.S.Slot.each _) a.out.now l.out a.at 0 k k (a.at + k * w.result) _
    (ap s.items (c.value_at.ensures.value ∙ same k (omega (arith, c.loop-j-test.true)))) (omega arith) (ap (λ (x : ℕ). a.at + k * x) w.ensures) (omega (arith, within s.WIDTH k 64 (omega arith))) l.invariant in
    c.put-in-loop-j.ensures
    ∙ rw e at (run-one f s.WIDTH (λ j. g.met.S.Slot.each _) a.out.now c.put.new.out a.at 0 (k + 1) (k + 1) (a.at + (k + 1) * w2.result) _
    (ap s.items (c.value_at-in-loop-j.ensures.value ∙ same (k + 1) (omega (arith, c.loop-j-test.true)))) (omega arith) (ap (λ (x : ℕ). a.at + (k + 1) * x) w2.ensures) (omega (arith, room)) one)

pub returns : goal.returns
returns g c =
    let a = c.args in
    let l = c.loop-j in
    let v : ℤ → List _ = λ z. g.S.Slot.items (value_of a.c.gain a.c.offset z) in
    let zs : List ℤ = c.widen.new.wide in
    let e : l.j * 2 ≡ length zs = omega arith in
    rw e at l.invariant ∙ ap (λ (t : List (List _)). over a.out.now a.at (flatten t)) (map-get_or v (pos 0) zs ∙ ap (map v) c.widen.ensures.wide_after)
