-- The tests of rule 5, over the ten lengths taken out of their array.
use mathlib.Core.Path.{◌≡◌, sym, ap, ◌∙◌}
use mathlib.Core.List.{List}
use Prim.Native.Nat.{ℕ}
use native.Mathlib.Omega.{arith}
use lib.Seq.{take_all}
use Rattle.rules.specs.Rules.{all, tiles}
use Rattle.numbers.proofs.Reading.{window, part_window}
use Rattle.numbers.proofs.Bools.{joined-all}
use Rattle.descriptor.proofs.judged.is_tiled.Goals as goal

pub returns : goal.returns
returns c =
    let x = c.args in
    let e : x.lengths ≡ window x.lengths 0 10 = sym (take_all 10 x.lengths (omega arith)) ∙ part_window x.lengths 0 10 (omega arith) in
    rw (c.sum_of.ensures, c.all_long.ensures, c.all_zero.ensures) (joined-all (tiles x.size (window x.lengths 0 10)) ∙ ap (λ (l : List ℕ). all (tiles x.size l)) (sym e))
