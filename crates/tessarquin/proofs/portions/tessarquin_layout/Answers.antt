-- Refused by the opening, without room, or answered by the 25 numbers.
use mathlib.Core.Path.{◌≡◌, sym, ap, ◌∙◌}
use mathlib.Core.List.{List, ◌∷◌, ◌++◌}
use Prim.Native.Nat.{ℕ}
use native.Mathlib.Omega.{arith}
use lib.ListN.{length}
use Rattle.rules.specs.Numbers.{all_bytes, splice}
use Rattle.rules.specs.Wave.{starts_of}
use Rattle.rules.specs.Rules.{refusal}
use Rattle.block.specs.declared.Opened.{Opened}
use Rattle.block.proofs.Answers.{number_is, accepted_as_lem}
use Rattle.tessarquin.specs.Calls.{layout_bytes, layout_number, layout_left}
use Rattle.tessarquin.proofs.Slices.{layout_length, own_refused, own_short, own_left}
use Rattle.tessarquin.proofs.portions.tessarquin_layout.Goals as goal
use Rattle.tessarquin.proofs.portions.tessarquin_layout.Goals.{Else-o-ne0}

module _ (c : Else-o-ne0) where
  accepts : refusal c.args.block.now ≡ 0
  accepts = sym (number_is c.args.block.now c.open-o.result c.open-o.ensures) ∙ c.if-o-ne0.false

pub returns-then-o-ne0 : goal.returns-then-o-ne0
unfolding layout_number layout_left
returns-then-o-ne0 c =
    let a = c.args in
    let o = c.open-o in
    let told = own_refused (refusal a.block.now) (layout_bytes a.block.now) a.answer.now o.result.refusal (number_is a.block.now o.result c.open-o.ensures) c.if-o-ne0.true in record {
      value = told.0;
      answer_after = told.1;
    }

pub returns-then-answer-lt200 : goal.returns-then-answer-lt200
unfolding layout_number layout_left
returns-then-answer-lt200 c =
    let a = c.args in
    let told = own_short (refusal a.block.now) (layout_bytes a.block.now) a.answer.now (accepts (goal.at.returns-then-answer-lt200 c).Else-o-ne0) (omega (arith, c.if-answer-lt200.true, layout_length a.block.now)) in record {
      value = told.0;
      answer_after = told.1;
    }

pub put_layout-requires : goal.put_layout-requires
put_layout-requires c =
    let a = c.args in
    let o = c.open-o in
    record {
      in_bounds = omega arith;
      lengths_len = ap (λ (x : Opened). length x.layout.lengths) (accepted_as_lem a.block.now o.result c.open-o.ensures (accepts (goal.at.put_layout-requires c).Else-o-ne0));
    }

pub returns : goal.returns
unfolding layout_number layout_left starts_of
returns c =
    let a = c.args in
    let o = c.open-o in
    let z = accepts (goal.at.returns c).Else-o-ne0 in
    let r = own_left (refusal a.block.now) (layout_bytes a.block.now) a.answer.now z (omega (arith, c.if-answer-lt200.false, layout_length a.block.now)) in
    record {
      value = r.0;
      answer_after = c.put_layout.ensures ∙ ap {B = List ℕ} (λ (x : Opened). splice a.answer.now 0 (all_bytes 0 8 (x.start ∷ x.first ∷ x.sparsing ∷ x.index ∷ x.subarrays ∷ x.layout.lengths ++ x.layout.starts))) (accepted_as_lem a.block.now o.result c.open-o.ensures z) ∙ r.1;
    }
