-- As they are the items are the bytes there (`items-part`), and else `turn_items` turns them.
use mathlib.Core.Path.{sym, ap, ◌∙◌}
use mathlib.Core.Bool.{Bool}
use Rattle.rules.specs.Numbers.{splice}
use Rattle.copies.specs.Copies.{items}
use Rattle.copies.proofs.Items.{items-part}
use Rattle.copies.proofs.copy_items.Goals as goal

pub returns-then-same : goal.returns-then-same
returns-then-same c =
    let a = c.args in
    c.copy_bytes.ensures
    ∙ ap (splice a.out.now a.at) (sym (items-part a.src.now a.from a.width a.count))
    ∙ ap (λ (s : Bool). splice a.out.now a.at (items s a.src.now a.from a.width a.width a.count)) (sym c.if-same.true)
