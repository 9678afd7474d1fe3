-- One element is written over.
use mathlib.Core.Path.{sym, ap, ◌∙◌}
use mathlib.Core.List.{[], ◌∷◌}
use Prim.Native.Nat.{ℕ}
use native.Mathlib.Nat.{mul-one}
use native.Mathlib.Omega.{arith}
use lib.ListN.{set}
use mir.Syntax.{w16}
use mir.ValLaws.{to_z-of_z}
use Rattle.fills.specs.Fills.{over}
use Rattle.fills.proofs.Writes.{over-one}
use Rattle.strips.proofs.elements.I16Element.put.Goals as goal

pub returns : goal.returns
returns c =
    let a = c.args in
    ap (set a.out.now a.q) (to_z-of_z w16 a.z c.ranges.z) ∙ over-one a.out.now a.q a.z (omega (arith, c.requires)) ∙ ap (λ (n : ℕ). over a.out.now n (a.z ∷ [])) (sym (mul-one a.q))
