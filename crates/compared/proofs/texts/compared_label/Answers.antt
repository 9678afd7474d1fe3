-- The part that is copied is the label.
use mathlib.Core.Path.{ap, ◌∙◌}
use mathlib.Core.List.{List}
use Prim.Native.Nat.{ℕ}
use lib.ListN.{length}
use Rattle.compared.specs.Tested.{copied}
use Rattle.compared.proofs.texts.compared_label.Goals as goal

pub returns : goal.returns
returns c =
    let a = c.args in
    let t = c.label-label.ensures.result_value in
    record {
      value = c.copy_part.ensures.value ∙ ap length t;
      out_after = c.copy_part.ensures.out_after ∙ ap (λ (l : List ℕ). copied l a.out.now) t;
    }
