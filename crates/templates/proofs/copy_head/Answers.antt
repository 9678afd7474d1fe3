-- As it is the descriptor is 346 bytes (`turned_plain`), and else `turn_head` turns it.
use mathlib.Core.Path.{sym, ap, ◌∙◌}
use mathlib.Core.Bool.{Bool}
use Prim.Native.Nat.{ℕ}
use lib.ListN.{take, drop}
use Rattle.rules.specs.Numbers.{splice}
use Rattle.rules.specs.Template.{template}
use Rattle.rules.proofs.Template.{total-template}
use Rattle.copies.specs.Copies.{turned_pieces}
use Rattle.templates.proofs.Runs.{turned_plain}
use Rattle.templates.proofs.copy_head.Goals as goal

pub returns-then-same : goal.returns-then-same
returns-then-same c =
    let a = c.args in
    c.copy_bytes.ensures
    ∙ ap (λ (n : ℕ). splice a.out.now a.at (take n (drop a.from a.src.now))) (sym total-template)
    ∙ ap (splice a.out.now a.at) (sym (turned_plain template (drop a.from a.src.now)))
    ∙ ap (λ (s : Bool). splice a.out.now a.at (turned_pieces s template (drop a.from a.src.now))) (sym c.if-same.true)

pub returns : goal.returns
returns c =
    let a = c.args in
    c.turn_head.ensures
    ∙ ap (λ (s : Bool). splice a.out.now a.at (turned_pieces s template (drop a.from a.src.now))) (sym c.if-same.false)
