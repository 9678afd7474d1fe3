-- Each turn doubles once more, and adds at most one to the exponent's field (`grown-most`).
use mathlib.Core.Path.{◌≡◌}
use Rattle.narrows.specs.Steps.{grown}
use Rattle.narrows.proofs.gains.grow.Given as goal

abbrev pub invariant-loop : goal.invariant-loop
invariant-loop l = l.p ≡ grown l.counter l.pattern
