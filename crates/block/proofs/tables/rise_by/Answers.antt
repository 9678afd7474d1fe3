-- Entry by entry: the others have only to rise from here.
use native.Mathlib.Omega.{arith}
use mathlib.Core.Path.{◌≡◌, subst}
use mathlib.Core.Bool.{false≢true}
use Prim.Native.Nat.{ℕ, ◌-◌}
use borrow.Author.Tests.{ltb-true}
use Rattle.block.proofs.Ladder.{passes}
use Rattle.block.proofs.Times.{Rising, rising_more, rising_end, rising_all}
use Rattle.block.proofs.tables.rise_by.Goals as goal

pub loop-j-init : goal.loop-j-init
loop-j-init c =
    let a = c.args in
    let all : a.count - 0 ≡ a.count = omega arith in
    λ r. rising_all a.order a.from a.block.now a.count (subst (λ (n : ℕ). Rising a.order a.from a.block.now n 0 0) all r)

pub returns-then-time-last : goal.returns-then-time-last
returns-then-time-last c e = absurd (false≢true e)

pub returns-then-not-finite_double_at : goal.returns-then-not-finite_double_at
returns-then-not-finite_double_at c e = absurd (false≢true e)

pub loop-j-preserved : goal.loop-j-preserved
loop-j-preserved c =
    let l = c.loop-j in
    let a = c.args in
    λ r. l.invariant
    (rising_more a.order a.from a.block.now a.count l.j l.last c.u64_at-time.result c.loop-j-test.true c.u64_at-time.ensures (omega (arith, c.if-time-last.false))
    (passes c.finite_double_at.ensures c.if-not-finite_double_at.false-raw) r)

pub returns : goal.returns
returns c e =
    let a = c.args in
    let l = c.loop-j in
    l.invariant (rising_end a.order a.from a.block.now a.count l.j l.last c.loop-j-test.false (omega (arith, ltb-true l.last _ e)))
