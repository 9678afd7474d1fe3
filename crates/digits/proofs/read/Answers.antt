-- Digit by digit: the number of those read so far, until one is none.
use mathlib.Core.Path.{◌≡◌, sym, ap, ◌∙◌, subst}
use Prim.Native.Nat.{ℕ, ◌-◌}
use native.Mathlib.Omega.{arith}
use lib.ListN.{take}
use Rattle.rules.specs.Numbers.{low}
use Rattle.rules.specs.Rules.{digit?}
use Rattle.digits.specs.Digits.{value_of, digits_at, run_of}
use Rattle.digits.proofs.Runs.{text, read_stops, read_ends, read_more, read_bound}
use Rattle.digits.proofs.read.Goals as goal

pub loop-at-init : goal.loop-at-init
unfolding low
loop-at-init c =
    let a = c.args in
    let z : a.from - a.from ≡ 0 = omega arith in
    (omega arith, sym (ap (λ (n : ℕ). value_of (take n (digits_at (text a.s.now a.from a.to)))) z))

pub returns-then-not-is_digit : goal.returns-then-not-is_digit
returns-then-not-is_digit c =
    let a = c.args in
    let l = c.loop-at in
    read_stops a.s.now a.from a.to l.at l.value l.auto.at c.requires.2 l.invariant c.loop-at-test.true (ap digit? (sym c.from-b.ensures) ∙ sym c.is_digit.ensures ∙ c.if-not-is_digit.true)

pub overflow_mul-value : goal.overflow_mul-value
overflow_mul-value c =
    let a = c.args in
    let l = c.loop-at in
    omega (arith, read_bound a.s.now a.from a.to l.at l.value l.auto.at c.requires.2 l.invariant c.loop-at-test.true (ap digit? (sym c.from-b.ensures) ∙ sym c.is_digit.ensures ∙ c.if-not-is_digit.false) c.requires.1)

pub overflow_add-value : goal.overflow_add-value
overflow_add-value c =
    let a = c.args in
    let l = c.loop-at in
    omega (arith, read_bound a.s.now a.from a.to l.at l.value l.auto.at c.requires.2 l.invariant c.loop-at-test.true (ap digit? (sym c.from-b.ensures) ∙ sym c.is_digit.ensures ∙ c.if-not-is_digit.false) c.requires.1)

pub loop-at-preserved : goal.loop-at-preserved
loop-at-preserved c =
    let a = c.args in
    let l = c.loop-at in
    rw c.from-b.ensures
    (read_more a.s.now a.from a.to l.at l.value l.auto.at c.requires.2 l.invariant c.loop-at-test.true (ap digit? (sym c.from-b.ensures) ∙ sym c.is_digit.ensures ∙ c.if-not-is_digit.false))

pub returns : goal.returns
returns c =
    let a = c.args in
    let l = c.loop-at in
    let e : l.at ≡ a.to = omega arith in
    subst (λ (n : ℕ). record { end = n; value = l.value } ≡ run_of a.from (text a.s.now a.from a.to)) e
    (read_ends a.s.now a.from a.to l.at l.value l.auto.at c.requires.2 l.invariant e)
