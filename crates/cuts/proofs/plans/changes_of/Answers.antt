-- Each field is the plan's, or is worked out here.
use Prim.Native.Nat.{◌+◌, ◌*◌}
use Rattle.cuts.proofs.plans.changes_of.Goals as goal

pub returns : goal.returns
returns c =
    let a = c.args in
    let p = c.requires.plan_value in
    λ i. record {
      trig = (p i).trig;
      one = (p i).one;
      two = (p i).two;
      count = (p i).rows * (p i).count;
      first = a.o.first + a.o.sparsing * a.setup.fp;
      sparsing = a.o.sparsing * c.step.ensures i;
      index = c.or_else.ensures i;
      subarrays = c.one_if.ensures i;
    }
