-- What is left of the digits, written over what stands there, is always the whole.
use mathlib.Core.Path.{◌≡◌, sym, ap, ◌∙◌}
use Prim.Native.Nat.{ℕ}
use native.Mathlib.Omega.{arith}
use Rattle.rules.specs.Numbers.{digits, splice}
use Rattle.digits.specs.Digits.{spelled}
use Rattle.rules.proofs.Splices.{splice_none}
use Rattle.digits.proofs.Spelled.{digit-step}
use Rattle.digits.proofs.put_digits.Goals as goal

pub loop-k-preserved : goal.loop-k-preserved
loop-k-preserved c =
    let a = c.args in
    let l = c.loop-k in
    rw c.sign_of.ensures (digit-step l.out a.at a.base l.k l.rest (omega arith) (omega arith)) ∙ l.invariant

pub returns : goal.returns
unfolding spelled digits
returns c =
    let a = c.args in
    let l = c.loop-k in
    let z : l.k ≡ 0 = omega arith in
    splice_none l.out a.at ∙ ap (λ (w : ℕ). splice l.out a.at (spelled a.base w l.rest)) (sym z) ∙ l.invariant
