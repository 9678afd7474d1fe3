-- The place of the first zero, or the length.
use mathlib.Core.Path.{◌∙◌, ap}
use Prim.Native.Nat.{ℕ}
use Rattle.std.proofs.Common.{rules, tests}
use Rattle.std.specs.Prelude.{Option, ◌==◌, length, unwrap_or}
use Rattle.std.proofs.lemmas.Iterator.{YieldsList-from_slice}
use Rattle.std.proofs.lemmas.Iterator.Search.{position_from_yields_List}
use Rattle.block.proofs.Parts.{zero_place}
use Rattle.block.proofs.texts.before_zero.Goals as goal

pub returns : goal.returns
returns c =
    let s = c.args.s.now in
    c.unwrap_or.ensures
    ∙ ap (λ (r : Option ℕ). unwrap_or r (length c.args.s.now))
    (position_from_yields_List (λ (x : ℕ). x == 0) _ _ c.position.result c.position.ensures.ran (YieldsList-from_slice c.args.s.now cc) (λ x b q k. search (rules, tests)))
    ∙ zero_place c.args.s.now
