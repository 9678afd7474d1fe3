-- Each return is one outcome of the pair that stands there.
use mathlib.Core.Path.{◌≡◌, sym, ap, ◌∙◌}
use mathlib.Core.List.{List}
use Prim.Native.Nat.{ℕ, ◌+◌, ◌-◌, min}
use native.Mathlib.Omega.{arith}
use lib.ListN.{length, take, drop, length-drop}
use borrow.Author.Tests.{not-true, not-false}
use Rattle.std.specs.Prelude.{Some}
use Rattle.digits.specs.Digits.{digits_at, run_of}
use Rattle.lines.specs.Reader.{value?}
use Rattle.setups.proofs.Steps.{too_short, no_key, no_comma, no_value, pair_found, tested, tested_is, run_found, run-behind}
use Rattle.setups.proofs.reads.pair_at.Goals as goal
use Rattle.setups.proofs.reads.pair_at.Goals.{After-read-run}

pub returns-then-line-at-lt3 : goal.returns-then-line-at-lt3
returns-then-line-at-lt3 c = let a = c.args in too_short a.line.now a.at (omega (arith, c.if-line-at-lt3.true, c.requires))

pub returns-in_err-key : goal.returns-in_err-key
returns-in_err-key c = let a = c.args in c.from_residual.ensures ∙ no_key a.line.now a.at (sym c.key_at.ensures ∙ c.in_err-key.was)

pub returns-then-line-at-ne44 : goal.returns-then-line-at-ne44
returns-then-line-at-ne44 c = let a = c.args in no_comma a.line.now a.at c.if-line-at-ne44.true

-- where a value stands: behind the comma
abbrev from : After-read-run → ℕ
from c = c.args.at + 3

abbrev value : After-read-run → List ℕ
value c = drop (from c) c.args.line.now

abbrev room : After-read-run → ℕ
room c = length c.args.line.now - from c

room_is : (c : After-read-run) → room c ≡ length (value c)
room_is c = sym (length-drop (from c) c.args.line.now)

-- and what was read of it
run_is : (c : After-read-run) → c.read-run.result ≡ run_of (from c) (take (from c + min (room c) 11 - from c) (value c))
run_is c = c.read-run.ensures ∙ ap (λ (n : ℕ). run_of (from c) (take (from c + n - from c) (value c))) c.min.ensures

-- whether it is a value
test_is : (c : After-read-run) → tested (from c) c.read-run.result ≡ value? (digits_at (value c))
test_is c = tested_is (from c) (value c) (room c) (room_is c) c.read-run.result (run_is c)

pub overflow_sub-count : goal.overflow_sub-count
overflow_sub-count c = run-behind (from (goal.at.overflow_sub-count c).After-read-run) (value (goal.at.overflow_sub-count c).After-read-run) (room (goal.at.overflow_sub-count c).After-read-run) (room_is (goal.at.overflow_sub-count c).After-read-run) c.read-run.result (run_is (goal.at.overflow_sub-count c).After-read-run)

pub returns-then-not-count-run : goal.returns-then-not-count-run
returns-then-not-count-run c =
    let a = c.args in
    no_value a.line.now a.at (sym (test_is (goal.at.returns-then-not-count-run c).After-read-run) ∙ not-true _ c.if-not-count-run.true-raw)

pub returns : goal.returns
returns c =
    let a = c.args in
    let w = run_found (from (goal.at.returns c).After-read-run) (value (goal.at.returns c).After-read-run) (room (goal.at.returns c).After-read-run) (room_is (goal.at.returns c).After-read-run) c.read-run.result (run_is (goal.at.returns c).After-read-run) (not-false _ c.if-not-count-run.false-raw) in
    (λ i. Some (record { key = c.in_ok-key.key; value = (w i).value; next = (w i).end }))
    ∙ pair_found a.line.now a.at c.in_ok-key.key (sym c.key_at.ensures ∙ c.in_ok-key.was) c.if-line-at-ne44.false (sym (test_is (goal.at.returns c).After-read-run) ∙ not-false _ c.if-not-count-run.false-raw)
