-- Each turn stores the last digit of those that are left (`digit_stored`), and then stand the two signs before them.
use mathlib.Core.Path.{◌≡◌, sym, ap, ◌∙◌}
use mathlib.Core.List.{[], ◌∷◌}
use Prim.Native.Nat.{ℕ, suc, ◌+◌, ◌-◌, ◌/◌, ◌%◌}
use native.Mathlib.Omega.{arith}
use lib.ListN.{set}
use lib.Seq.{sets-eq}
use Rattle.rules.specs.Numbers.{splice}
use Rattle.copies.proofs.Head.{digits_left, digit_stored, header_is, none_left}
use Rattle.copies.proofs.put_header.Goals as goal

pub loop-k-preserved : goal.loop-k-preserved
loop-k-preserved c =
    let l = c.loop-k in
    let w : ℕ = 8 - l.k in
    let at : 10 - l.k ≡ 2 + w = omega arith in
    let next : 9 - (l.k + 1) ≡ w = omega arith in
    let now : suc w ≡ 9 - l.k = omega arith in
    (λ i. splice (set l.out (at i) (48 + l.rest % 10)) 0 (digits_left (next i) (l.rest / 10)))
    ∙ digit_stored w l.rest l.out (omega arith)
    ∙ ap (λ (v : ℕ). splice l.out 0 (digits_left v l.rest)) now
    ∙ l.invariant

pub returns : goal.returns
returns c =
    let l = c.loop-k in
    let none : 0 ≡ 9 - l.k = omega arith in
    sets-eq (35 ∷ 57 ∷ []) l.out 0 (omega arith)
    ∙ ap (splice l.out 0) (sym (none_left l.rest))
    ∙ ap (λ (v : ℕ). splice l.out 0 (digits_left v l.rest)) none
    ∙ l.invariant
    ∙ ap (splice c.args.out.now 0) (header_is c.args.n)
