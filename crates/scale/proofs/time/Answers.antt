-- `scale::time` meets its contract: each rule's arm is one of the two sums.
use mathlib.Core.Path.{◌≡◌, sym, subst}
use mathlib.Core.Logic.{inl, inr}
use Prim.Native.Nat.{ℕ}
use native.Mathlib.Omega.{arith}
use lib.Ieee.{Float}
use Rattle.rules.specs.Points.{time_by, exact_time, Near}
use Rattle.scale.specs.declared.TimeRule.{TimeRule}
use Rattle.scale.specs.Scale.{rule_as, FiniteRule}
use Rattle.scale.proofs.time.Goals as goal

-- what is to be shown of the time r at the place i by a rule
abbrev Timed : ℕ → Float → TimeRule → Type 0
Timed i r rule = (r ≡ time_by (rule_as rule) i) × Near 1074 (exact_time (rule_as rule) i) r

pub returns-in-Segment : goal.returns-in-Segment
unfolding time_by
returns-in-Segment c =
    let told : Timed c.args.i c.along.result c.args.rule = elim c.in-Segment.is [
      | inl e ↦ subst (Timed c.args.i c.along.result) (sym e) (c.along.ensures.value, c.along.ensures.near)
      | inr e ↦ subst (Timed c.args.i c.along.result) (sym e) (c.along.ensures.value, c.along.ensures.near)
    ] in record {
      value = told.0;
      near = told.1;
    }
