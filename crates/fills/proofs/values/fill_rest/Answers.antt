-- Each turn writes the next value, and counts the mark of its sample.
use mathlib.Core.Path.{◌≡◌, refl, ap, ◌∙◌}
use mathlib.Core.Bool.{Bool, true, false}
use mathlib.Core.List.{List, flatten}
use Prim.Native.Nat.{ℕ, ◌+◌, ◌*◌, ◌-◌}
use native.Mathlib.Omega.{arith}
use mir.Syntax.{w16}
use mir.Val.{bool_byte}
use mir.ValLaws.{to_z-of_z}
use Rattle.rules.specs.Numbers.{up_from}
use Rattle.rules.specs.Points.{value_of, mark_number, mark_count_of}
use Rattle.scale.proofs.Finite.{near_no_nan}
use Rattle.fills.specs.Fills.{sample_at, value_at, mark_count_from}
use Rattle.rules.proofs.Marks.{marks_few}
use Rattle.fills.proofs.Marking.{marks-one}
use Rattle.fills.proofs.Sampling.{counted}
use Rattle.fills.proofs.Writes.{over_none, run-one, within, behind}
use Rattle.fills.proofs.values.fill_rest.Goals as goal
use Rattle.fills.proofs.values.fill_rest.Goals.{After-from-marks}

pub loop-i-init : goal.loop-i-init
unfolding up_from flatten mark_count_of
loop-i-init g c =
    let a = c.args in
    let e : a.done - a.done ≡ 0 = omega arith in
    record { written = rw e (over_none a.out.now (a.done * g.S.Slot.WIDTH)); marked = rw e refl }

pub put-requires-clause-no_nan : goal.put-requires-clause-no_nan
put-requires-clause-no_nan g c = near_no_nan c.value.ensures.near

-- a mark cast to a number is the mark's number
mark_cast : (b : Bool) → bool_byte b ≡ mark_number b
mark_cast true = refl
mark_cast false = refl

-- the mark of one sample more
one : (g : _) (c : After-from-marks g)
    → (let a = c.args in
    let l = c.loop-i in
    l.marks + c.from-marks.result ≡ mark_count_from a.order a.size a.block.now a.from a.done (l.i - a.done + 1))
one g c =
    let a = c.args in
    let l = c.loop-i in
    let r = c.sample-z in
    marks-one a.size (sample_at a.order a.size a.block.now a.from) a.done (l.i - a.done) l.i l.marks c.from-marks.result _ (omega (arith, l.auto.i)) l.invariant.marked (to_z-of_z w16 r.result (record { sfits = r.type_inv }) ∙ c.sample-z.ensures) (c.from-marks.ensures ∙ mark_cast _ ∙ ap mark_number c.at_rail.ensures)

pub overflow_add-marks : goal.overflow_add-marks
overflow_add-marks g c =
    let a = c.args in
    omega (arith, one g (goal.at.overflow_add-marks g c).After-from-marks, marks_few a.size (sample_at a.order a.size a.block.now a.from) a.done (c.loop-i.i - a.done + 1), counted c.requires.holds, c.well_formed)

pub loop-i-preserved : goal.loop-i-preserved
unfolding value_at
loop-i-preserved g c =
    let s = g.S.Slot in
    let a = c.args in
    let l = c.loop-i in
    let r = c.sample-z in
    let f : ℕ → List _ = λ k. s.items (value_at a.c.gain a.c.offset a.order a.size a.block.now a.from k) in
    let same = c.value.ensures.value ∙ ap (value_of a.c.gain a.c.offset) (to_z-of_z w16 r.result (record { sfits = r.type_inv }) ∙ c.sample-z.ensures) in
    let e : l.i - a.done + 1 ≡ l.i + 1 - a.done = omega (arith, l.auto.i) in
    let place : l.i * s.WIDTH ≡ a.done * s.WIDTH + (l.i - a.done) * s.WIDTH = behind s.WIDTH a.done (l.i - a.done) l.i (omega (arith, l.auto.i)) in
    record {
      written = c.put.ensures ∙ rw e at (run-one f s.WIDTH (λ k. g.met.S.Slot.each _) a.out.now l.out (a.done * s.WIDTH) a.done (l.i - a.done) l.i _ _ (ap s.items same) (omega (arith, l.auto.i)) (ap (λ (w : ℕ). l.i * w) c.WIDTH.ensures ∙ place) (omega (arith, place, within s.WIDTH l.i a.count (omega arith))) l.invariant.written);
      marked = rw e at (one g (goal.at.loop-i-preserved g c).After-from-marks);
    }
