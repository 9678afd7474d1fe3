-- `scale::along` meets its contract.
use mathlib.Core.Path.{refl}
use native.Mathlib.Omega.{arith}
use denote.Floats.{passes}
use borrow.Author.Rules.{rules}
use Rattle.rules.specs.Points.{Segment, time_by}
use Rattle.rules.proofs.Near.{time_near}
use Rattle.scale.proofs.Finite.{no_nan}
use Rattle.scale.proofs.along.Goals as goal

pub float_to_float-result : goal.float_to_float-result
float_to_float-result c = search (rules, no_nan)

pub returns : goal.returns
unfolding time_by
returns c =
    let a = c.args in
    record {
      value = refl;
      near = time_near (Segment a.interval a.offset) a.i (passes _ c.well_formed.0.1, c.requires.finite_pair.0, passes _ c.well_formed.1.1.0.1, c.requires.finite_pair.1) (omega arith);
    }
