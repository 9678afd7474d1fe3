-- The whole part is copied where it has room.
use mathlib.Core.Path.{refl, ap, ◌∙◌}
use mathlib.Core.List.{List}
use Prim.Native.Nat.{ℕ}
use lib.ListN.{length}
use lib.Seq.{take-length}
use Rattle.rules.specs.Numbers.{splice}
use Rattle.fills.proofs.Writes.{over-start}
use Rattle.compared.proofs.Tested.{copied-fits, copied_short}
use Rattle.compared.proofs.texts.copy_part.Goals as goal

pub returns-then-out-n : goal.returns-then-out-n
returns-then-out-n c = let a = c.args in record {
  value = refl;
  out_after = copied_short a.part.now a.out.now c.if-out-n.true;
}

pub returns : goal.returns
returns c =
    let a = c.args in
    let part : List ℕ = a.part.now in
    let out : List ℕ = a.out.now in record {
      value = refl;
      out_after = c.copy_bytes.ensures ∙ ap (λ (l : List ℕ). splice out 0 l) (take-length part) ∙ over-start out part (length part) refl ∙ copied-fits part out c.if-out-n.false;
    }
