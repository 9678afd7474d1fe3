-- Fewer digits than d, or all d of them.
use mathlib.Core.Path.{◌≡◌, ap, ◌∙◌}
use Prim.Native.Nat.{ℕ, ◌+◌, ◌-◌}
use native.Mathlib.Omega.{arith}
use lib.ListN.{length, take, drop, length-take}
use Rattle.rules.specs.Rules.{digit_count}
use Rattle.digits.specs.Digits.{digits_at, run_of}
use Rattle.digits.specs.declared.Run.{Run}
use Rattle.digits.proofs.Runs.{digits_few}
use Rattle.frames.proofs.Digits.{standing, digits_fewer, digits-read}
use Rattle.frames.proofs.digits_of.Goals as goal
use Rattle.frames.proofs.digits_of.Goals.{After-read-run}

-- what is read where the digits stand
run_is : (c : After-read-run) → c.read-run.result ≡ run_of 2 (standing c.args.block.now)
run_is c =
    let e : c.args.start - 2 ≡ digit_count c.args.block.now = omega (arith, c.requires.0) in
    c.read-run.ensures ∙ ap (λ (n : ℕ). run_of 2 (take n (drop 2 c.args.block.now))) e

ends : (c : After-read-run) → c.read-run.result.end ≡ 2 + length (digits_at (standing c.args.block.now))
ends c = ap (λ (x : Run). x.end) (run_is c)

pub returns-then-run-start : goal.returns-then-run-start
returns-then-run-start c =
    digits_fewer c.args.block.now (omega (arith, c.requires.0, c.requires.2)) (λ n. omega (arith, ends (goal.at.returns-then-run-start c).After-read-run, n, c.requires.0, c.if-run-start.true))

pub returns : goal.returns
returns c =
    let few = digits_few (standing c.args.block.now) in
    let most = length-take (digit_count c.args.block.now) (drop 2 c.args.block.now) in
    digits-read c.args.block.now (omega (arith, c.requires.0, c.requires.2)) (omega (arith, ends (goal.at.returns c).After-read-run, c.if-run-start.false, c.requires.0, few, most)) c.args.start c.read-run.result.value c.requires.0
    (ap (λ (x : Run). x.value) (run_is (goal.at.returns c).After-read-run))
