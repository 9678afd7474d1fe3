-- The tests in turn, and the point.
use mathlib.Core.Path.{ap, ◌∙◌}
use native.Mathlib.Omega.{arith}
use lib.ListN.{length}
use Rattle.std.specs.Prelude.{Some}
use Rattle.scale.specs.Scale.{rule_as}
use Rattle.block.proofs.Ladder.{passes, fails}
use Rattle.points.proofs.Stepping.{inside-says, outside, unsound, sound}
use Rattle.points.proofs.walk.stepped.Goals as goal

pub returns-then-not-is_inside : goal.returns-then-not-is_inside
returns-then-not-is_inside c =
    let a = c.args in
    let i = c.index_of-i in
    outside a.block.now a.place.now i.result c.index_of-i.ensures (fails c.is_inside.ensures c.if-not-is_inside.true-raw)

pub overflow_cast-i : goal.overflow_cast-i
overflow_cast-i c =
    let a = c.args in
    omega (arith, (inside-says (length a.block.now) a.place.now c.index_of-i.result (passes c.is_inside.ensures c.if-not-is_inside.false-raw)).small)

pub returns-then-not-is_finite : goal.returns-then-not-is_finite
returns-then-not-is_finite c =
    let a = c.args in
    let i = c.index_of-i in
    let r = c.rule_at-rule in
    unsound a.block.now a.place.now i.result c.index_of-i.ensures (passes c.is_inside.ensures c.if-not-is_inside.false-raw) (rule_as r.result) c.rule_at-rule.ensures
    (fails c.is_finite.ensures c.if-not-is_finite.true-raw)

pub answered-requires : goal.answered-requires
answered-requires c = record {
  i_value = passes c.is_inside.ensures c.if-not-is_inside.false-raw;
  rule_value = passes c.is_finite.ensures c.if-not-is_finite.false-raw;
}

pub returns : goal.returns
returns c =
    let a = c.args in
    let i = c.index_of-i in
    let r = c.rule_at-rule in
    ap Some c.answered.ensures
    ∙ sound a.block.now a.place.now i.result c.index_of-i.ensures (passes c.is_inside.ensures c.if-not-is_inside.false-raw) (rule_as r.result) c.rule_at-rule.ensures
    (passes c.is_finite.ensures c.if-not-is_finite.false-raw)
