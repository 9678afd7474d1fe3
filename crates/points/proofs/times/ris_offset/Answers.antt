-- The offset is read where it is in the block and finite.
use mathlib.Core.Path.{◌≡◌, sym, ap, ◌∙◌}
use mathlib.Core.Bool.{Bool, cond}
use Prim.Native.Nat.{ℕ, ◌+◌, ◌*◌, ◌≤◌}
use native.Mathlib.Omega.{arith}
use lib.ListN.{length, take, drop}
use lib.Ieee.{binary64, of_bits}
use borrow.Author.Tests.{leb-true}
use Rattle.rules.specs.Numbers.{number}
use Rattle.rules.specs.Rules.{finite64}
use Rattle.block.proofs.Ladder.{passes, fails}
use Rattle.points.specs.Walks.{infinite, ris_offset}
use Rattle.points.proofs.times.ris_offset.Goals as goal
use Rattle.points.proofs.times.ris_offset.Goals.{After-finite_double_at, Else-not-fits}

-- it is in the block
inside : (c : Else-not-fits) → c.args.table + (c.args.j * 8 + 8) ≤ length c.args.block.now
inside c =
    let a = c.args in
    leb-true (a.table + (a.j * 8 + 8)) (length a.block.now) (passes c.fits.ensures c.if-not-fits.false-raw)

pub returns-then-not-fits : goal.returns-then-not-fits
unfolding ris_offset
returns-then-not-fits c =
    let a = c.args in
    let n : ℕ = number a.order (take 8 (drop (a.table + a.j * 8) a.block.now)) in
    sym (ap (λ (t : Bool). cond t (cond (finite64 n) (of_bits binary64 n) infinite) infinite) (fails c.fits.ensures c.if-not-fits.true-raw))

pub overflow_add-at : goal.overflow_add-at
overflow_add-at c = omega (arith, inside (goal.at.overflow_add-at c).Else-not-fits, c.well_formed.0)

pub finite_double_at-requires : goal.finite_double_at-requires
finite_double_at-requires c = omega (arith, inside (goal.at.finite_double_at-requires c).Else-not-fits)

-- by the test of the pattern
module _ (c : After-finite_double_at) where
  abbrev pattern : ℕ
  pattern = let a = c.args in number a.order (take 8 (drop (a.table + a.j * 8) a.block.now))

  by_test : cond (finite64 pattern) (of_bits binary64 pattern) infinite
      ≡ ris_offset c.args.block.now c.args.order c.args.table c.args.j
  unfolding ris_offset
  by_test = sym (ap (λ (t : Bool). cond t (cond (finite64 pattern) (of_bits binary64 pattern) infinite) infinite) (passes c.fits.ensures c.if-not-fits.false-raw))

pub returns-then-not-finite_double_at : goal.returns-then-not-finite_double_at
returns-then-not-finite_double_at c =
    let n : ℕ = pattern (goal.at.returns-then-not-finite_double_at c).After-finite_double_at in
    sym (ap (λ (t : Bool). cond t (of_bits binary64 n) infinite) (fails c.finite_double_at.ensures c.if-not-finite_double_at.true-raw)) ∙ by_test (goal.at.returns-then-not-finite_double_at c).After-finite_double_at

pub double_at-requires : goal.double_at-requires
double_at-requires c = record {
  at_in_bounds = omega (arith, inside (goal.at.double_at-requires c).Else-not-fits);
  s_value = passes c.finite_double_at.ensures c.if-not-finite_double_at.false-raw;
}

pub returns : goal.returns
returns c =
    let n : ℕ = pattern (goal.at.returns c).After-finite_double_at in
    c.double_at.ensures
    ∙ sym (ap (λ (t : Bool). cond t (of_bits binary64 n) infinite) (passes c.finite_double_at.ensures c.if-not-finite_double_at.false-raw))
    ∙ by_test (goal.at.returns c).After-finite_double_at
