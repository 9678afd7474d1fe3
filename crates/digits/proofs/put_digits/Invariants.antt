-- What is left of the digits, written over what stands there, is always the whole.
use mathlib.Core.Path.{◌≡◌}
use Rattle.rules.specs.Numbers.{splice}
use Rattle.digits.specs.Digits.{spelled}
use Rattle.digits.proofs.put_digits.Given as goal

abbrev pub invariant-loop-k : goal.invariant-loop-k
invariant-loop-k l = splice l.out l.at (spelled l.base l.k l.rest) ≡ splice l.initial.out l.at (spelled l.base l.width l.n)
