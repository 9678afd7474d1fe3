-- The step hands out the spot's point, and its line is written.
use Rattle.rules.proofs.Numbers.{below-index}
use Rattle.listing.proofs.Texts.{worded}
use Rattle.listing.proofs.Rests.{handed_line, step_never, step_handed}
use Rattle.listing.proofs.pages.put_line.Goals as goal

pub returns-in_default-clause-wrote : goal.returns-in_default-clause-wrote
returns-in_default-clause-wrote c =
    let s = c.args.block.now in
    absurd (step_never s (below-index 256 s (λ i h. (c.type_inv.block i).fits)) c.args.spot c.requires.stands c.requires.refusal_value c.step_at.result c.step_at.ensures c.in_default.is)

pub returns-in_default-clause-lower_bound : goal.returns-in_default-clause-lower_bound
returns-in_default-clause-lower_bound c =
    let s = c.args.block.now in
    absurd (step_never s (below-index 256 s (λ i h. (c.type_inv.block i).fits)) c.args.spot c.requires.stands c.requires.refusal_value c.step_at.result c.step_at.ensures c.in_default.is)

pub bits-requires : goal.bits-requires
bits-requires c =
    let s = c.args.block.now in
    let v = c.in-Some in
    (step_handed s (below-index 256 s (λ i h. (c.type_inv.block i).fits)) c.args.spot c.requires.stands c.requires.refusal_value c.step_at.result v.point c.step_at.ensures v.is).value_clean

pub bits-requires-2 : goal.bits-requires-2
bits-requires-2 c =
    let s = c.args.block.now in
    let v = c.in-Some in
    (step_handed s (below-index 256 s (λ i h. (c.type_inv.block i).fits)) c.args.spot c.requires.stands c.requires.refusal_value c.step_at.result v.point c.step_at.ensures v.is).time_clean

pub returns-clause-wrote : goal.returns-clause-wrote
returns-clause-wrote c =
    let s = c.args.block.now in
    let v = c.in-Some in
    let h = step_handed s (below-index 256 s (λ i h. (c.type_inv.block i).fits)) c.args.spot c.requires.stands c.requires.refusal_value c.step_at.result v.point c.step_at.ensures v.is in
    worded (handed_line s c.args.spot v.point h c.bits.result c.bits-2.result c.bits.ensures c.bits-2.ensures) c.put_point.ensures.wrote
