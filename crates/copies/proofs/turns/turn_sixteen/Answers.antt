-- The pairs turned round are those of the copy (`items_of_part`).
use mathlib.Core.Path.{◌≡◌, ap, ◌∙◌}
use mathlib.Core.Bool.{false}
use mathlib.Core.List.{List}
use Prim.Native.Nat.{ℕ, ◌+◌, ◌-◌}
use native.Mathlib.Omega.{arith}
use lib.ListN.{take, drop}
use Rattle.rules.specs.Numbers.{splice}
use Rattle.copies.specs.Copies.{part, items}
use Rattle.copies.proofs.Head.{items_of_part}
use Rattle.copies.proofs.turns.turn_sixteen.Goals as goal

pub returns : goal.returns
returns c =
    let a = c.args in
    let n : a.from + 32 - a.from ≡ 32 = omega arith in
    let copied : c.copy_from_slice.new.self ≡ part a.src.now a.from 32 = c.copy_from_slice.ensures.after ∙ ap (λ (k : ℕ). take k (drop a.from a.src.now)) n in
    c.pick_pairs.ensures
    ∙ ap (λ (l : List ℕ). splice a.out.now a.at (items false l 0 2 2 16)) copied
    ∙ ap (splice a.out.now a.at) (items_of_part false a.src.now a.from 2 16 c.requires.from_in_bounds)
