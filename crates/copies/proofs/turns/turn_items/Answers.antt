-- Single bytes are the same turned round (`items-single`).
use mathlib.Core.Path.{◌≡◌, sym, ap, ◌∙◌}
use mathlib.Core.Bool.{false}
use Prim.Native.Nat.{ℕ, ◌*◌}
use native.Mathlib.Nat.{mul-one}
use native.Mathlib.Omega.{arith}
use Rattle.rules.specs.Numbers.{splice}
use Rattle.copies.specs.Copies.{items}
use Rattle.copies.proofs.Items.{items-single}
use Rattle.copies.proofs.turns.turn_items.Goals as goal

pub returns-in-1 : goal.returns-in-1
returns-in-1 c =
    let a = c.args in
    let e : a.count * a.width ≡ a.count = ap (λ (w : ℕ). a.count * w) c.in-1.is ∙ mul-one a.count in
    c.copy_bytes.ensures
    ∙ ap (splice a.out.now a.at) (items-single false a.src.now a.from a.count (omega arith))
    ∙ ap (λ (w : ℕ). splice a.out.now a.at (items false a.src.now a.from w w a.count)) (sym c.in-1.is)
