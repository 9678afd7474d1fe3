-- At once, or by each rule.
use mathlib.Core.Path.{refl, sym, ap}
use Prim.Native.Nat.{ℕ}
use native.Mathlib.Omega.{arith}
use Rattle.rules.specs.Numbers.{pieces, up_from}
use Rattle.rules.specs.Rules.{first}
use Rattle.block.specs.Opened.{entry_rules}
use Rattle.block.proofs.Ladder.{passes, fails}
use Rattle.block.proofs.Times.{time-finite}
use Rattle.block.proofs.tables.number_of_entries.Goals as goal

pub returns-then-count-eq0 : goal.returns-then-count-eq0
unfolding pieces up_from
returns-then-count-eq0 c = let a = c.args in sym (ap (λ (n : ℕ). first (entry_rules a.order a.from n a.block.now)) c.if-count-eq0.true)

pub returns-then-rise : goal.returns-then-rise
returns-then-rise c = sym (c.rise.ensures c.if-rise.true)

pub returns-then-not-finite_doubles : goal.returns-then-not-finite_doubles
returns-then-not-finite_doubles c = rw (fails c.finite_doubles.ensures c.if-not-finite_doubles.true-raw) refl

pub ascend-requires : goal.ascend-requires
ascend-requires c =
    let a = c.args in
    λ j h. (omega (arith, c.requires), time-finite a.order a.from a.count a.block.now (passes c.finite_doubles.ensures c.if-not-finite_doubles.false-raw) j h)

pub returns-then-not-ascend : goal.returns-then-not-ascend
returns-then-not-ascend c =
    rw (passes c.finite_doubles.ensures c.if-not-finite_doubles.false-raw, fails c.ascend.ensures c.if-not-ascend.true-raw) refl

pub returns : goal.returns
returns c =
    rw (passes c.finite_doubles.ensures c.if-not-finite_doubles.false-raw, passes c.ascend.ensures c.if-not-ascend.false-raw) refl
