-- Each turn looks at the next sample; none before it stands from low to high.
use mathlib.Core.Path.{◌≡◌, sym, ap, ◌∙◌}
use mathlib.Core.Bool.{false}
use Prim.Native.Nat.{ℕ}
use native.Mathlib.Omega.{arith}
use lib.IntN.{ℤ}
use mir.Syntax.{w16}
use mir.Val.{to_z, of_z}
use mir.ValLaws.{to_z-of_z}
use Rattle.fills.specs.Fills.{sample_at}
use Rattle.fills.proofs.Sampling.{fewer}
use Rattle.fills.proofs.Writes.{all_next}
use Rattle.levels.specs.Levels.{between}
use Rattle.crossings.proofs.Scans.{bits_between, as_lent}
use Rattle.crossings.proofs.scan.first_behind.Goals as goal
use Rattle.crossings.proofs.scan.first_behind.Goals.{After-sample-z}

pub loop-i-init : goal.loop-i-init
loop-i-init c =
    let a = c.args in
    let f : ℕ → ℤ = sample_at a.order a.size a.block.now a.from in
    λ j h. sym (as_lent a.low a.high (f j) c.ranges.low c.ranges.high) ∙ c.requires.by_index j h

pub sample-z-requires : goal.sample-z-requires
sample-z-requires c = fewer c.requires.holds _ (omega arith)

-- what the comparison says of the sample looked at
looked : (c : After-sample-z) → (let a = c.args in
    let z = c.sample-z.result in bits_between (of_z w16 a.low) (of_z w16 a.high) (sample_at a.order a.size a.block.now a.from c.loop-i.i) ≡ bits_between (of_z w16 a.low) (of_z w16 a.high) (to_z w16 (of_z w16 z)))
looked c =
    let a = c.args in
    let r = c.sample-z in
    ap (bits_between (of_z w16 a.low) (of_z w16 a.high)) (sym (to_z-of_z w16 r.result (record { sfits = r.type_inv }) ∙ c.sample-z.ensures))

pub returns-then-low-z : goal.returns-then-low-z
unfolding between
returns-then-low-z c =
    let a = c.args in
    let l = c.loop-i in
    let f : ℕ → ℤ = sample_at a.order a.size a.block.now a.from in
    record {
      within = omega arith;
      passes = λ h. as_lent a.low a.high (f l.i) c.ranges.low c.ranges.high ∙ looked (goal.at.returns-then-low-z c).After-sample-z ∙ c.if-low-z.true;
      fails = λ j h. as_lent a.low a.high (f j) c.ranges.low c.ranges.high ∙ l.invariant j h;
    }

pub loop-i-preserved : goal.loop-i-preserved
unfolding between
loop-i-preserved c =
    let a = c.args in
    let l = c.loop-i in
    let f : ℕ → ℤ = sample_at a.order a.size a.block.now a.from in
    all_next (λ j. bits_between (of_z w16 a.low) (of_z w16 a.high) (f j) ≡ false) l.i l.invariant (looked (goal.at.loop-i-preserved c).After-sample-z ∙ c.if-low-z.false)

pub returns : goal.returns
returns c =
    let a = c.args in
    let l = c.loop-i in
    let f : ℕ → ℤ = sample_at a.order a.size a.block.now a.from in
    record {
      within = omega arith;
      passes = λ h. absurd (omega arith);
      fails = λ j h. as_lent a.low a.high (f j) c.ranges.low c.ranges.high ∙ l.invariant j (omega arith);
    }
