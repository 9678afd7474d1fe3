-- The value and the mark of the sample that is read, and the time by the rule and i.
use native.Mathlib.Omega.{arith}
use lib.ListN.{length}
use Rattle.rules.proofs.Tests.{Each, all_each}
use Rattle.scale.specs.Scale.{rule_as}
use Rattle.scale.proofs.Finite.{pair-finite, rule_finite}
use Rattle.points.specs.Walks.{finites, timed, point_at}
use Rattle.points.proofs.Stepping.{Inside, inside-says}
use Rattle.points.proofs.steps.answered.Goals as goal
use Rattle.points.proofs.steps.answered.Goals.{After-shared_slice_known-1}

-- what the tests say
finite : (c : After-shared_slice_known-1) → Each (finites c.args.place.calibration (rule_as c.args.rule))
finite c = all_each (finites c.args.place.calibration (rule_as c.args.rule)) c.requires.rule_value

inside : (c : After-shared_slice_known-1) → Inside (length c.args.block.now) c.args.place c.args.i
inside c = inside-says (length c.args.block.now) c.args.place c.args.i c.requires.i_value

pub sampled_at-sampled-requires : goal.sampled_at-sampled-requires
sampled_at-sampled-requires c =
    let p = c.args.place.calibration in
    let q = inside (goal.at.sampled_at-sampled-requires c).After-shared_slice_known-1 in
    record {
      finite_value = pair-finite p.gain p.offset (finite (goal.at.sampled_at-sampled-requires c).After-shared_slice_known-1).0;
      kind_bound = q.kind;
      kind_in_bounds = omega (arith, q.room);
    }

pub overflow_cast-i : goal.overflow_cast-i
overflow_cast-i c = omega (arith, (inside (goal.at.overflow_cast-i c).After-shared_slice_known-1).small)

pub time-time-requires : goal.time-time-requires
time-time-requires c = record {
  finite_rule = rule_finite c.args.rule (finite (goal.at.time-time-requires c).After-shared_slice_known-1).1.0;
  i_bound = (inside (goal.at.time-time-requires c).After-shared_slice_known-1).small;
}

pub returns : goal.returns
unfolding point_at
returns c = λ i. timed (c.sampled_at-sampled.ensures.value_value i) (c.time-time.ensures.value i) (c.sampled_at-sampled.ensures.mark_value i)
