-- Field by field.
use Rattle.rules.specs.Numbers.{Bytes}
use Rattle.rules.proofs.Numbers.{below-index}
use Rattle.points.proofs.Values.{timed, from-room}
use Rattle.points.proofs.Begins.{begun_is}
use Rattle.points.proofs.begin.begun.Goals as goal
use Rattle.points.proofs.begin.begun.Goals.{After-shared_slice_known-1}

-- every element of a slice is a byte
bytes : (c : After-shared_slice_known-1) → Bytes c.args.block.now
bytes c = below-index 256 c.args.block.now (λ i h. (c.type_inv.block i).fits)

pub samples_from-samples-requires : goal.samples_from-samples-requires
samples_from-samples-requires c = let a = c.args in from-room a.block.now (bytes (goal.at.samples_from-samples-requires c).After-shared_slice_known-1) a.o a.array a.segment 0 c.requires

pub segment_rule-rule-requires : goal.segment_rule-rule-requires
segment_rule-rule-requires c = let a = c.args in timed a.block.now (bytes (goal.at.segment_rule-rule-requires c).After-shared_slice_known-1) a.o a.array a.segment 0 c.requires

pub returns : goal.returns
returns c =
    let a = c.args in
    let f = c.samples_from-samples in
    let r = c.segment_rule-rule in
    begun_is a.block.now (bytes (goal.at.returns c).After-shared_slice_known-1) a.o a.array a.segment c.requires f.result r.result c.samples_from-samples.ensures c.segment_rule-rule.ensures
