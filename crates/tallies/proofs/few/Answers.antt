-- Each turn takes in the next sample.
use mathlib.Core.Path.{◌≡◌, sym, ap, ◌∙◌, subst}
use mathlib.Core.List.{[], ◌∷◌}
use Prim.Native.Nat.{ℕ, ◌+◌}
use native.Mathlib.Nat.{add-zero}
use native.Mathlib.Omega.{arith}
use lib.IntN.{ℤ}
use mir.Syntax.{w16}
use mir.Val.{to_z, of_z}
use mir.ValLaws.{to_z-of_z}
use Rattle.rules.specs.Points.{at_rail, mark_number, mark_count_of}
use Rattle.rules.proofs.Numbers.{below-index}
use Rattle.fills.specs.Fills.{sample_at}
use Rattle.fills.proofs.Sampling.{fewer, in_word}
use Rattle.columns.specs.Columns.{run}
use Rattle.columns.proofs.Runs.{run-one}
use Rattle.tallies.specs.Tallies.{extent_of, Seen, Spanned}
use Rattle.tallies.proofs.Heights.{Words}
use Rattle.tallies.proofs.Picking.{mark_is}
use Rattle.tallies.proofs.Tallying.{seen_next, spanned_next, next_fits}
use Rattle.tallies.proofs.few.Goals as goal
use Rattle.tallies.proofs.few.Goals.{After-one}

pub loop-k-init : goal.loop-k-init
loop-k-init c = (omega arith, c.requires.a_le_b.0, c.requires.seen, c.requires.spanned)

pub sample-z-requires : goal.sample-z-requires
sample-z-requires c = fewer c.requires.holds _ (omega arith)

pub at_rail-requires : goal.at_rail-requires
at_rail-requires c = c.requires.holds.narrow

-- the sample is that of the point, so its extent and its mark are
sampled : (c : After-one) → (let a = c.args in
    let f = sample_at a.order a.size a.block.now a.from in
    let k = c.loop-k.k in
    (c.one.result ≡ extent_of (run f k (k + 1))) × (c.from-mark.result ≡ mark_count_of a.size (run f k (k + 1))))
unfolding mark_count_of
sampled c =
    let a = c.args in
    let f : ℕ → ℤ = sample_at a.order a.size a.block.now a.from in
    let k = c.loop-k.k in
    let r = c.sample-z in
    let z : to_z w16 (of_z w16 r.result) ≡ f k = to_z-of_z w16 r.result (record { sfits = r.type_inv }) ∙ c.sample-z.ensures in (
      c.one.ensures ∙ ap (λ (x : ℤ). extent_of (x ∷ [])) z ∙ ap extent_of (sym (run-one f k)),
      c.from-mark.ensures ∙ mark_is c.at_rail.result ∙ ap mark_number (c.at_rail.ensures ∙ ap (at_rail a.size) z) ∙ sym (add-zero (mark_number (at_rail a.size (f k)))) ∙ ap (mark_count_of a.size) (sym (run-one f k)),
    )

pub join-t-requires : goal.join-t-requires
join-t-requires c =
    let a = c.args in
    let l = c.loop-k in
    let f : ℕ → ℤ = sample_at a.order a.size a.block.now a.from in
    let w : Words f = λ j. in_word a.order a.size a.block.now a.from j (below-index 256 a.block.now (λ i h. (c.type_inv.block i).fits)) c.requires.holds.narrow in
    next_fits f l.k (l.k + 1) (omega arith) l.t c.one.result (sampled (goal.at.join-t-requires c).After-one).0 a.size c.from-mark.result (sampled (goal.at.join-t-requires c).After-one).1 l.invariant.2 w
    (omega (arith, c.loop-k-test.true, c.requires.a_le_b.1))

pub loop-k-preserved : goal.loop-k-preserved
loop-k-preserved c =
    let a = c.args in
    let l = c.loop-k in
    let f : ℕ → ℤ = sample_at a.order a.size a.block.now a.from in
    let m = c.from-mark.result in (
      omega (arith, l.invariant.0),
      omega (arith, c.loop-k-test.true),
      subst (Seen a.size f (l.k + 1)) (sym c.join-t.ensures) (seen_next f l.k (l.k + 1) (omega arith) l.t c.one.result (sampled (goal.at.loop-k-preserved c).After-one).0 a.size m (sampled (goal.at.loop-k-preserved c).After-one).1 l.invariant.2),
      subst (Spanned f a.a (l.k + 1)) (sym c.join-t.ensures) (spanned_next f l.k (l.k + 1) (omega arith) l.t c.one.result (sampled (goal.at.loop-k-preserved c).After-one).0 a.a m l.k l.invariant.0 l.invariant.3),
    )

pub returns : goal.returns
returns c =
    let a = c.args in
    let l = c.loop-k in
    let f : ℕ → ℤ = sample_at a.order a.size a.block.now a.from in
    let e : l.k ≡ a.b = omega (arith, l.invariant.1, c.loop-k-test.false) in
    record {
      seen_2 = subst (λ (k : ℕ). Seen a.size f k l.t) e l.invariant.2;
      spanned_2 = subst (λ (k : ℕ). Spanned f a.a k l.t) e l.invariant.3;
    }
