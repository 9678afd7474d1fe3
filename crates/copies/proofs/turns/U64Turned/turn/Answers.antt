-- What is read and stored is the number turned round (`turned_part`).
use mathlib.Core.Path.{ap, ◌∙◌}
use Prim.Native.Nat.{ℕ}
use Rattle.rules.specs.Numbers.{bytes, splice}
use Rattle.rules.proofs.Numbers.{below-index}
use Rattle.copies.proofs.Head.{turned_part}
use Rattle.copies.proofs.turns.U64Turned.turn.Goals as goal

pub returns : goal.returns
returns c =
    let a = c.args in
    c.put_u64.ensures
    ∙ ap (λ (n : ℕ). splice a.out.now a.at (bytes 0 8 n)) c.u64_at.ensures
    ∙ ap (splice a.out.now a.at) (turned_part a.src.now (below-index 256 a.src.now (λ j h. (c.type_inv.src j).fits)) a.from 8 c.requires.from_in_bounds)
