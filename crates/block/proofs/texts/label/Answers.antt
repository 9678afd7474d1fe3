-- The block refused, the label empty, or some bytes of it.
use mathlib.Core.Path.{◌≡◌, sym, ◌∙◌}
use Prim.Native.Nat.{◌+◌}
use native.Mathlib.Omega.{arith}
use Rattle.rules.specs.Rules.{refusal}
use Rattle.block.proofs.Answers.{number_is}
use Rattle.block.proofs.Parts.{no_label, no_label_place, label_none, label_some}
use Rattle.block.proofs.texts.label.Goals as goal
use Rattle.block.proofs.texts.label.Goals.{Else-o-ne0}

accepts : (c : Else-o-ne0) → refusal c.args.block.now ≡ 0
accepts c = sym (number_is c.args.block.now c.open-o.result c.open-o.ensures) ∙ c.if-o-ne0.false

pub returns-then-o-ne0 : goal.returns-then-o-ne0
returns-then-o-ne0 c =
    let a = c.args in
    let z : 0 + a.fallback.ref_ptr.1 ≡ a.fallback.ref_ptr.1 = omega arith in
    record {
      result_value = no_label a.block.now c.open-o.result c.open-o.ensures c.if-o-ne0.true a.fallback.now;
      ref_ptr_value = (λ i. (a.fallback.ref_ptr.0, z i)) ∙ no_label_place a.block.now c.open-o.result c.open-o.ensures c.if-o-ne0.true a.block.ref_ptr a.fallback.ref_ptr;
    }

pub returns-then-s : goal.returns-then-s
returns-then-s c =
    let a = c.args in
    let s = c.label_span-s in
    let told = label_none a.block.now (accepts (goal.at.returns-then-s c).Else-o-ne0) s.result c.label_span-s.ensures a.fallback.now a.block.ref_ptr a.fallback.ref_ptr c.if-s.true in record {
      result_value = told.0;
      ref_ptr_value = told.1;
    }

pub returns : goal.returns
returns c =
    let a = c.args in
    let s = c.label_span-s in
    let told = label_some a.block.now (accepts (goal.at.returns c).Else-o-ne0) s.result c.label_span-s.ensures a.fallback.now a.block.ref_ptr a.fallback.ref_ptr c.if-s.false in record {
      result_value = told.0;
      ref_ptr_value = told.1;
    }
