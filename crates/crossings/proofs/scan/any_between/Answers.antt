-- Each turn looks at the next sample.
use mathlib.Core.Path.{◌≡◌, refl, ap, ap₂, ◌∙◌}
use mathlib.Core.Bool.{Bool, ◌||◌}
use Prim.Native.Nat.{ℕ}
use native.Mathlib.Omega.{arith}
use lib.IntN.{ℤ, pos}
use lib.ListN.{length, get_or, take}
use lib.Seq.{take-length}
use mir.Syntax.{w16}
use mir.Val.{of_z}
use mir.ValLaws.{to_z-of_z}
use Rattle.levels.specs.Levels.{between}
use Rattle.crossings.specs.Answers.{some?}
use Rattle.crossings.proofs.Scans.{some_next, bits_between}
use Rattle.crossings.proofs.scan.any_between.Goals as goal

pub loop-z-init : goal.loop-z-init
loop-z-init c = refl

pub loop-z-preserved : goal.loop-z-preserved
unfolding between
loop-z-preserved c =
    let a = c.args in
    let l = c.loop-z in
    let t = bits_between (of_z w16 a.low) (of_z w16 a.high) in
    let z : ℤ = get_or a.samples.now l.z-index (pos 0) in
    ap₂ (λ (x y : Bool). x || y) l.invariant (ap t (to_z-of_z w16 z (record { sfits = c.any-1.given }))) ∙ some_next t a.samples.now l.z-index (omega (arith, c.requires))

pub returns : goal.returns
returns c =
    let a = c.args in
    let l = c.loop-z in
    let e : l.z-index ≡ length a.samples.now = omega (arith, c.requires) in
    l.invariant
    ∙ ap (some? (bits_between (of_z w16 a.low) (of_z w16 a.high))) (ap (λ (k : ℕ). take k a.samples.now) e ∙ take-length a.samples.now)
    ∙ ap₂ (λ (x y : ℤ). some? (between x y) a.samples.now) (to_z-of_z w16 a.low c.ranges.low) (to_z-of_z w16 a.high c.ranges.high)
