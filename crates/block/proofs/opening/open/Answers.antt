-- Rules 1 and 2, and what the number of the others says.
use mathlib.Core.Path.{◌≡◌, sym, ap, ◌∙◌}
use mathlib.Core.Bool.{true}
use native.Mathlib.Omega.{arith}
use Rattle.rules.specs.Numbers.{Bytes}
use Rattle.rules.specs.Rules.{all, payload_start, stated, frame, refusal}
use Rattle.rules.proofs.Numbers.{below-index}
use Rattle.frames.specs.declared.Header.{Header}
use Rattle.frames.specs.Headers.{framed_as}
use Rattle.frames.proofs.Headers.{unframed_says, framed-says, framed-small}
use Rattle.block.specs.Steps.{Framed}
use Rattle.block.proofs.Ladder.{passes, fails, room2, rung1, rung2, refused_is, lengths_fit, finites, accepted_is}
use Rattle.block.proofs.opening.open.Goals as goal
use Rattle.block.proofs.opening.open.Goals.{After-shared_slice_known-1, In-Some, Else-not-is_sized, Else-number-ne0}

-- every element of a slice is a byte
bytes : (c : After-shared_slice_known-1) → Bytes c.args.block.now
bytes c = below-index 256 c.args.block.now (λ i h. (c.type_inv.block i).fits)

-- rule 1 is kept, and this is what its header says
framed : (c : In-Some) → (all (frame c.args.block.now) ≡ true) × (c.in-Some.field-0 ≡ framed_as c.args.block.now)
framed c = framed-says c.args.block.now c.in-Some.field-0 c.in-Some.ensures

-- and rule 2
sized : (c : Else-not-is_sized) → let h = c.in-Some.field-0 in Framed c.args.block.now h.start h.length
sized c =
    let said = framed (goal.at.Else-not-is_sized c).In-Some in
    record { frames = said.0; sizes = passes c.is_sized.ensures c.if-not-is_sized.false-raw; starts = ap (λ (h : Header). h.start) said.1; lasts = ap (λ (h : Header). h.length) said.1 }

pub returns-in_default : goal.returns-in_default
returns-in_default c =
    let s = c.args.block.now in
    c.refused.ensures ∙ refused_is s 1 (omega arith) (rung1 s (unframed_says s c.in_default.ensures))

pub is_sized-requires : goal.is_sized-requires
is_sized-requires c =
    let said = framed (goal.at.is_sized-requires c).In-Some in
    let small = framed-small c.args.block.now said.0 in
    let start : c.in-Some.field-0.start ≡ payload_start c.args.block.now = ap (λ (h : Header). h.start) said.1 in
    let long : c.in-Some.field-0.length ≡ stated c.args.block.now = ap (λ (h : Header). h.length) said.1 in
    (start, omega (arith, small.0), long, omega (arith, small.1))

pub returns-then-not-is_sized : goal.returns-then-not-is_sized
returns-then-not-is_sized c =
    let s = c.args.block.now in
    let said = framed (goal.at.returns-then-not-is_sized c).In-Some in
    c.refused-then-not-is_sized.ensures ∙ refused_is s 2 (omega arith) (rung2 s said.0 (fails c.is_sized.ensures c.if-not-is_sized.true-raw))

pub fields_of-fields-requires : goal.fields_of-fields-requires
fields_of-fields-requires c = room2 _ _ _ (sized (goal.at.fields_of-fields-requires c).Else-not-is_sized)

pub number_of-number-requires : goal.number_of-number-requires
number_of-number-requires c = record {
  framed = sized (goal.at.number_of-number-requires c).Else-not-is_sized;
  fields_value = c.fields_of-fields.ensures;
}

pub returns-then-number-ne0 : goal.returns-then-number-ne0
returns-then-number-ne0 c =
    let n = c.number_of-number in
    c.refused-then-number-ne0.ensures ∙ refused_is _ n.result (omega arith) c.number_of-number.ensures

-- no rule is broken
kept : (c : Else-number-ne0) → refusal c.args.block.now ≡ 0
kept c = sym c.number_of-number.ensures ∙ c.if-number-ne0.false

pub accepted-requires : goal.accepted-requires
accepted-requires c =
    let b = bytes (goal.at.accepted-requires c).After-shared_slice_known-1 in
    let f = sized (goal.at.accepted-requires c).Else-not-is_sized in
    record {
      lengths_bound = lengths_fit _ _ _ f c.fields_of-fields.result c.fields_of-fields.ensures b (kept (goal.at.accepted-requires c).Else-number-ne0);
      finite = finites _ _ _ f c.fields_of-fields.result c.fields_of-fields.ensures b (kept (goal.at.accepted-requires c).Else-number-ne0);
    }

pub returns : goal.returns
returns c =
    c.accepted.ensures
    ∙ accepted_is _ _ _ (sized (goal.at.returns c).Else-not-is_sized) c.fields_of-fields.result c.fields_of-fields.ensures (bytes (goal.at.returns c).After-shared_slice_known-1) (kept (goal.at.returns c).Else-number-ne0)
