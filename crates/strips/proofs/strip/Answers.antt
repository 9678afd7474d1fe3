-- Refused by its number, or drawn.
use mathlib.Core.Path.{sym, ap, ap₂, ◌∙◌}
use native.Mathlib.Nat.{div-one}
use Rattle.rules.specs.Rules.{opened}
use lib.ListN.{length}
use Rattle.fills.specs.Fills.{over}
use Rattle.strips.specs.Strips.{strip_of, strip_refusal}
use Rattle.strips.specs.Answers.{leasts_left, greatests_left}
use Rattle.strips.proofs.Written.{themselves}
use Rattle.strips.proofs.Calls.{refused, kept, drawn_is, left_is}
use Rattle.strips.proofs.strip.Goals as goal

pub returns-then-number-ne0 : goal.returns-then-number-ne0
unfolding leasts_left greatests_left
returns-then-number-ne0 c =
    let o = c.open-o in
    let a = c.args in
    let t = strip_of (opened a.block.now) a.array a.segment a.columns in
    let e = c.judged-number.ensures a.block.now c.open-o.ensures in
    let h = c.if-number-ne0.true in
    let low = length a.least.now in
    let high = length a.greatest.now in record {
      value = c.refused.ensures ∙ refused a.block.now a.array a.segment a.columns low high c.judged-number.result e h;
      least_after = kept a.block.now a.array a.segment a.columns low high c.judged-number.result e h t.leasts a.least.now;
      greatest_after = kept a.block.now a.array a.segment a.columns low high c.judged-number.result e h t.greatests a.greatest.now;
    }

pub columns_of-requires : goal.columns_of-requires
columns_of-requires c =
    let o = c.open-o in
    let a = c.args in
    let number = strip_refusal a.block.now a.array a.segment a.columns in
    record {
      opens = c.open-o.ensures;
      accepts = ap₂ number (div-one (length a.least.now)) (div-one (length a.greatest.now)) ∙ sym (c.judged-number.ensures a.block.now c.open-o.ensures) ∙ c.if-number-ne0.false;
    }

pub returns : goal.returns
unfolding leasts_left greatests_left
returns c =
    let o = c.open-o in
    let a = c.args in
    let t = strip_of (opened a.block.now) a.array a.segment a.columns in
    let e = sym (c.judged-number.ensures a.block.now c.open-o.ensures) ∙ c.if-number-ne0.false in
    let low = length a.least.now in
    let high = length a.greatest.now in record {
      value = c.columns_of.ensures.value ∙ drawn_is a.block.now a.array a.segment a.columns low high e;
      least_after = c.columns_of.ensures.least_after ∙ ap (over a.least.now 0) (themselves t.leasts) ∙ left_is a.block.now a.array a.segment a.columns low high e t.leasts a.least.now;
      greatest_after = c.columns_of.ensures.greatest_after ∙ ap (over a.greatest.now 0) (themselves t.greatests) ∙ left_is a.block.now a.array a.segment a.columns low high e t.greatests a.greatest.now;
    }
