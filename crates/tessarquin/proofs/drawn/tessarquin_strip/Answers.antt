-- Refused by its number, 13 for an answer without room too; or drawn, and answered by its three numbers.
use mathlib.Core.Path.{◌≡◌, ap, ◌∙◌}
use Prim.Native.Nat.{◌/◌, ◌≤◌}
use lib.ListN.{length}
use mir.Syntax.{w64}
use mir.ValLaws.{to_z-of_z}
use Rattle.strips.specs.Strips.{strip_refusal}
use Rattle.strips.specs.Answers.{unsigned}
use native.Mathlib.Omega.{arith}
use Rattle.tessarquin.proofs.Stripping.{strip-refused, strip-room, strip_answered}
use Rattle.tessarquin.proofs.drawn.tessarquin_strip.Goals as goal
use Rattle.tessarquin.proofs.drawn.tessarquin_strip.Goals.{Else-number-ne0}

pub returns-then-number-ne0 : goal.returns-then-number-ne0
returns-then-number-ne0 c =
    let a = c.args in
    let r = strip-refused a.block.now a.array a.segment a.columns a.least.now a.greatest.now a.answer.now c.room_for-low.result c.room_for-low.ensures c.judged-number.result (c.judged-number.ensures a.block.now c.open-o.ensures) c.if-number-ne0.true in
    record {
      value = r.0;
      least_after = r.1;
      greatest_after = r.2;
      answer_after = r.3;
    }

-- there is room for the answer, and the strip is not refused
room : (c : Else-number-ne0)
    → (let a = c.args in (24 ≤ length a.answer.now) × (strip_refusal a.block.now a.array a.segment a.columns (length a.least.now / 8) (length a.greatest.now / 8) ≡ 0))
room c =
    let a = c.args in
    strip-room a.block.now a.array a.segment a.columns a.least.now a.greatest.now a.answer.now c.room_for-low.result c.room_for-low.ensures c.judged-number.result (c.judged-number.ensures a.block.now c.open-o.ensures) c.if-number-ne0.false

pub put_columns-d-requires : goal.put_columns-d-requires
put_columns-d-requires c = record { opens = c.open-o.ensures; accepts = (room (goal.at.put_columns-d-requires c).Else-number-ne0).1 }

pub put_numbers-requires : goal.put_numbers-requires
put_numbers-requires c = (omega arith, (room (goal.at.put_numbers-requires c).Else-number-ne0).0)

pub returns : goal.returns
returns c =
    let a = c.args in
    let r = strip_answered a.block.now a.array a.segment a.columns a.least.now a.greatest.now a.answer.now c.room_for-low.result c.room_for-low.ensures c.judged-number.result (c.judged-number.ensures a.block.now c.open-o.ensures) c.if-number-ne0.false
    c.put_columns-d.result c.put_columns-d.ensures.value c.unsigned.result (c.unsigned.ensures ∙ ap (unsigned 8) (to_z-of_z w64 c.put_columns-d.result.sum (record { sfits = c.struct_told-1.given.1.0.1 })))
    _ _ _ c.put_columns-d.ensures.least_after c.put_columns-d.ensures.greatest_after c.put_numbers.ensures in
    record {
      value = r.0;
      least_after = r.1;
      greatest_after = r.2;
      answer_after = r.3;
    }
