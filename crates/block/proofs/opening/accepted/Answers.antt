-- Field by field.
use mathlib.Core.Path.{◌≡◌}
use mathlib.Core.Bool.{cond}
use lib.Dec.{eqb}
use lib.ListN.{get_or}
use Prim.Native.Nat.{◌/◌, max, ◌+◌}
use native.Mathlib.Omega.{arith}
use Rattle.std.proofs.lemmas.Bool.Decides.{nat_tests}
use Rattle.block.proofs.opening.accepted.Goals as goal

pub returns : goal.returns
returns c =
    let a = c.args in
    let g : c.max-g.result ≡ max 1 c.args.fields.counts.subarrays = omega arith in
    let s : c.max.result ≡ max 1 c.args.fields.counts.sparsing = omega arith in
    let n : 1 + c.from.result ≡ cond (eqb (get_or c.args.fields.lengths 7 0) 0) 1 2 = grind (arith, nat_tests) in
    λ i.
    record {
      refusal = 0;
      start = a.start;
      order = a.fields.order;
      kind = a.fields.counts.kind;
      segments = g i;
      points = a.fields.counts.count / g i;
      arrays = n i;
      first = a.fields.counts.first;
      sparsing = s i;
      index = a.fields.counts.index;
      subarrays = a.fields.counts.subarrays;
      layout = c.layout_of.ensures i;
      calibration = c.calibration_of.ensures i;
    }
