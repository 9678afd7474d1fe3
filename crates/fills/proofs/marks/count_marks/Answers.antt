-- Sample by sample: the marks so far.
use mathlib.Core.Path.{◌≡◌, refl, ap, ap₂, ◌∙◌}
use Prim.Native.Nat.{ℕ, ◌+◌}
use native.Mathlib.Omega.{arith}
use lib.IntN.{ℤ, pos}
use lib.ListN.{length, take, get_or}
use lib.Seq.{take-length}
use mir.Syntax.{w16}
use mir.ValLaws.{to_z-of_z}
use Rattle.rules.specs.Points.{at_rail, mark_number, mark_count_of}
use Rattle.rules.proofs.Marks.{mark_le}
use Rattle.fills.proofs.Marking.{marks_next}
use Rattle.fills.proofs.marks.count_marks.Goals as goal

pub loop-sample-init : goal.loop-sample-init
unfolding mark_count_of
loop-sample-init c = (omega arith, omega arith, refl)

pub overflow_add-n : goal.overflow_add-n
overflow_add-n c = omega (arith, c.mark_number-n.ensures, mark_le c.at_rail.result, c.loop-sample.invariant.1)

pub loop-sample-preserved : goal.loop-sample-preserved
loop-sample-preserved c =
    let a = c.args in
    let l = c.loop-sample in
    let z : ℤ = get_or a.samples.now l.sample-index (pos 0) in
    let e = c.at_rail in
    let r : e.result ≡ at_rail a.size z = c.at_rail.ensures ∙ ap (at_rail a.size) (to_z-of_z w16 z (record { sfits = c.at_rail-arg-1.given })) in (
      omega arith,
      omega (arith, c.mark_number-n.ensures, mark_le e.result, l.invariant.1),
      ap₂ {C = ℕ} (λ x y. x + y) l.invariant.2 (c.mark_number-n.ensures ∙ ap mark_number r) ∙ marks_next a.size a.samples.now l.sample-index (omega (arith, c.requires.samples_len)),
    )

pub returns : goal.returns
returns c =
    let a = c.args in
    let l = c.loop-sample in
    let e : l.sample-index ≡ length a.samples.now = omega (arith, c.requires.samples_len) in
    c.from.ensures ∙ l.invariant.2 ∙ ap (mark_count_of a.size) (ap (λ (k : ℕ). take k a.samples.now) e ∙ take-length a.samples.now)
