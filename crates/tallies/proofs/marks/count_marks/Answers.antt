-- Each turn counts the mark of the next sample.
use mathlib.Core.Path.{◌≡◌, refl, ap, ◌∙◌}
use mathlib.Core.List.{map}
use Prim.Native.Nat.{ℕ, ◌+◌, ◌-◌}
use native.Mathlib.Omega.{arith}
use lib.IntN.{ℤ}
use mir.Syntax.{w16}
use mir.ValLaws.{to_z-of_z}
use Rattle.rules.specs.Numbers.{up_from}
use Rattle.rules.specs.Points.{mark_number, mark_count_of}
use Rattle.rules.proofs.Marks.{marks_few}
use Rattle.fills.specs.Fills.{sample_at}
use Rattle.fills.proofs.Marking.{marks-one}
use Rattle.fills.proofs.Sampling.{fewer}
use Rattle.columns.specs.Columns.{run}
use Rattle.tallies.proofs.Picking.{mark_is}
use Rattle.tallies.proofs.marks.count_marks.Goals as goal
use Rattle.tallies.proofs.marks.count_marks.Goals.{After-from-n}

pub loop-k-init : goal.loop-k-init
unfolding up_from mark_count_of
loop-k-init c = let a = c.args in let e : a.a - a.a ≡ 0 = omega arith in (omega arith, c.requires.a_le_b.0, rw e refl)

pub sample-z-requires : goal.sample-z-requires
sample-z-requires c = fewer c.requires.holds _ (omega arith)

pub at_rail-requires : goal.at_rail-requires
at_rail-requires c = c.requires.holds.narrow

-- the mark of one sample more
one : (c : After-from-n)
    → (let a = c.args in
    let l = c.loop-k in
    l.n + c.from-n.result ≡ mark_count_of a.size (run (sample_at a.order a.size a.block.now a.from) a.a (l.k + 1)))
one c =
    let a = c.args in
    let l = c.loop-k in
    let r = c.sample-z in
    let f : ℕ → ℤ = sample_at a.order a.size a.block.now a.from in
    let e : l.k - a.a + 1 ≡ l.k + 1 - a.a = omega (arith, l.invariant.0) in
    marks-one a.size f a.a (l.k - a.a) l.k l.n c.from-n.result _ (omega (arith, l.invariant.0)) l.invariant.2 (to_z-of_z w16 r.result (record { sfits = r.type_inv }) ∙ c.sample-z.ensures) (c.from-n.ensures ∙ mark_is c.at_rail.result ∙ ap mark_number c.at_rail.ensures)
    ∙ ap (λ (n : ℕ). mark_count_of a.size (map f (up_from a.a n))) e

pub overflow_add-n : goal.overflow_add-n
overflow_add-n c =
    let l = c.loop-k in
    let a = c.args in
    omega (arith, one (goal.at.overflow_add-n c).After-from-n, marks_few a.size (sample_at a.order a.size a.block.now a.from) a.a (l.k + 1 - a.a), c.requires.a_le_b.1, c.loop-k-test.true)

pub loop-k-preserved : goal.loop-k-preserved
loop-k-preserved c = (omega (arith, c.loop-k.invariant.0), omega arith, one (goal.at.loop-k-preserved c).After-from-n)

pub returns : goal.returns
returns c =
    let a = c.args in
    let l = c.loop-k in
    let e : l.k ≡ a.b = omega (arith, l.invariant.1, c.loop-k-test.false) in
    c.from.ensures ∙ l.invariant.2 ∙ ap (λ (k : ℕ). mark_count_of a.size (run (sample_at a.order a.size a.block.now a.from) a.a k)) e
