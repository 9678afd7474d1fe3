-- Each turn takes in the next points, at most 256.
use mathlib.Core.Path.{◌≡◌, sym, subst}
use Prim.Native.Nat.{ℕ, ◌+◌, ◌≤◌, ◌<◌}
use native.Mathlib.Omega.{arith}
use lib.IntN.{ℤ}
use Rattle.rules.proofs.Numbers.{below-index}
use Rattle.fills.specs.Fills.{sample_at}
use Rattle.fills.proofs.Sampling.{fewer, in_word}
use Rattle.tallies.specs.Tallies.{Seen, Spanned}
use Rattle.tallies.proofs.Heights.{Words}
use Rattle.tallies.proofs.Tallying.{seen_next, spanned_next, next_fits}
use Rattle.tallies.proofs.many.Goals as goal
use Rattle.tallies.proofs.many.Goals.{After-min-e}

pub loop-i-init : goal.loop-i-init
loop-i-init c = (omega arith, c.requires.a_le_b.0, c.requires.seen, c.requires.spanned)

-- of the points that a turn takes in
taken : (c : After-min-e) → (let i = c.loop-i.i in let e = c.min-e.result in (i < e) × (e ≤ c.args.b) × (e ≤ i + 256))
taken c = omega (arith, c.loop-i-test.true, c.min-e.ensures)

pub measure-x-requires : goal.measure-x-requires
measure-x-requires c = record {
  holds = fewer c.requires.holds _ (taken (goal.at.measure-x-requires c).After-min-e).1;
  a_lt_b = ((taken (goal.at.measure-x-requires c).After-min-e).0, (taken (goal.at.measure-x-requires c).After-min-e).2);
}

pub marks_of-m-requires : goal.marks_of-m-requires
marks_of-m-requires c = let t = taken (goal.at.marks_of-m-requires c).After-min-e in record {
  holds = fewer c.requires.holds _ t.1;
  a_lt_b = (t.0, t.2);
  e_value = c.measure-x.ensures;
}

pub join-t-requires : goal.join-t-requires
join-t-requires c =
    let a = c.args in
    let l = c.loop-i in
    let t = taken (goal.at.join-t-requires c).After-min-e in
    let f : ℕ → ℤ = sample_at a.order a.size a.block.now a.from in
    let w : Words f = λ j. in_word a.order a.size a.block.now a.from j (below-index 256 a.block.now (λ i h. (c.type_inv.block i).fits)) c.requires.holds.narrow in
    next_fits f l.i c.min-e.result t.0 l.t c.measure-x.result c.measure-x.ensures a.size c.marks_of-m.result c.marks_of-m.ensures l.invariant.2 w (omega (arith, t.1, c.requires.a_le_b.1))

pub loop-i-smaller : goal.loop-i-smaller
loop-i-smaller c = let t = taken (goal.at.loop-i-smaller c).After-min-e in omega (arith, t.0, t.1)

pub loop-i-preserved : goal.loop-i-preserved
loop-i-preserved c =
    let a = c.args in
    let l = c.loop-i in
    let t = taken (goal.at.loop-i-preserved c).After-min-e in
    let e = c.min-e.result in
    let f : ℕ → ℤ = sample_at a.order a.size a.block.now a.from in (
      omega (arith, l.invariant.0, t.0),
      t.1,
      subst (Seen a.size f e) (sym c.join-t.ensures) (seen_next f l.i e t.0 l.t c.measure-x.result c.measure-x.ensures a.size c.marks_of-m.result c.marks_of-m.ensures l.invariant.2),
      subst (Spanned f a.a e) (sym c.join-t.ensures) (spanned_next f l.i e t.0 l.t c.measure-x.result c.measure-x.ensures a.a c.marks_of-m.result l.i l.invariant.0 l.invariant.3),
    )

pub returns : goal.returns
returns c =
    let a = c.args in
    let l = c.loop-i in
    let f : ℕ → ℤ = sample_at a.order a.size a.block.now a.from in
    let e : l.i ≡ a.b = omega (arith, l.invariant.1, c.loop-i-test.false) in
    record {
      seen_2 = subst (λ (k : ℕ). Seen a.size f k l.t) e l.invariant.2;
      spanned_2 = subst (λ (k : ℕ). Spanned f a.a k l.t) e l.invariant.3;
    }
