-- Bytes one behind the other are items of one byte (`items-single`).
use mathlib.Core.Path.{sym, ap, ◌∙◌}
use mathlib.Core.Bool.{true}
use Rattle.rules.specs.Numbers.{splice}
use Rattle.copies.proofs.Items.{items-single}
use Rattle.copies.proofs.copy_bytes.Goals as goal

pub returns : goal.returns
returns c =
    let a = c.args in
    c.pick_bytes.ensures ∙ ap (splice a.out.now a.at) (sym (items-single true a.src.now a.from a.count c.requires.count_in_bounds))
