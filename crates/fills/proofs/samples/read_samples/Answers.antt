-- Each turn stores the next sample.
use mathlib.Core.Path.{◌≡◌, refl, ◌∙◌}
use mathlib.Core.List.{map}
use Prim.Native.Nat.{ℕ, ◌+◌}
use native.Mathlib.Omega.{arith}
use lib.IntN.{ℤ}
use mir.Syntax.{w16}
use mir.ValLaws.{to_z-of_z}
use borrow.Author.Rules.{rules}
use Rattle.rules.specs.Numbers.{up_from}
use Rattle.fills.specs.Fills.{sample_at}
use Rattle.fills.proofs.Sampling.{fewer, counted}
use Rattle.fills.proofs.Writes.{over_none, over-whole, length_map_up, map-one}
use Rattle.fills.proofs.samples.read_samples.Goals as goal

pub loop-k-init : goal.loop-k-init
unfolding up_from
loop-k-init c = (search rules, over_none c.args.samples.now 0)

pub overflow_add-first : goal.overflow_add-first
overflow_add-first c = omega (arith, counted c.requires.holds)

pub sample-requires : goal.sample-requires
sample-requires c = fewer c.requires.holds _ (omega arith)

pub loop-k-preserved : goal.loop-k-preserved
loop-k-preserved c =
    let a = c.args in
    let l = c.loop-k in
    let f : ℕ → ℤ = sample_at a.order a.size a.block.now a.from in
    let r = c.sample in
    (omega arith, map-one f a.samples.now l.samples 0 a.first l.k (a.first + l.k) l.k _ (to_z-of_z w16 r.result (record { sfits = r.type_inv }) ∙ c.sample.ensures) refl (omega arith) (omega arith) l.invariant.1)

pub returns : goal.returns
returns c =
    let a = c.args in
    let l = c.loop-k in
    let f : ℕ → ℤ = sample_at a.order a.size a.block.now a.from in
    let e : l.k ≡ 64 = omega arith in
    rw e at l.invariant.1 ∙ over-whole a.samples.now (map f (up_from a.first 64)) (omega (arith, length_map_up f a.first 64))
