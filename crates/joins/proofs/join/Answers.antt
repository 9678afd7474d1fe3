-- The number of parts that cannot be joined, 13, and the block.
use mathlib.Core.Path.{◌∙◌}
use native.Mathlib.Omega.{arith}
use lib.ListN.{length}
use Rattle.rules.specs.Numbers.{Bytes}
use Rattle.rules.proofs.Numbers.{below-index}
use Rattle.joins.proofs.Tabled.{first-within}
use Rattle.joins.proofs.Joining.{refuses, first_good_by, ready, total-small, short_refuses, joins}
use Rattle.joins.proofs.join.Goals as goal
use Rattle.joins.proofs.join.Goals.{After-shared_slice_known-1}

bytes : (c : After-shared_slice_known-1) → Bytes c.args.parts.now
bytes c = below-index 256 c.args.parts.now (λ i h. (c.type_inv.parts i).fits)

pub returns-in-Err : goal.returns-in-Err
returns-in-Err c =
    let a = c.args in
    let k = c.in-Err.ensures.err in
    let told = refuses a.parts.now (bytes (goal.at.returns-in-Err c).After-shared_slice_known-1) a.out.now c.in-Err.number (k.1 (length a.out.now)) k.0 c.refused.result c.refused.ensures in record {
      value = told.0;
      out_after = told.1;
    }

pub slice_bounds-lead_of-end : goal.slice_bounds-lead_of-end
slice_bounds-lead_of-end c = omega (arith, c.in-Ok.ensures.ok.0.ends c.in-Ok.ensures.ok.1, first-within c.args.parts.now)

pub lead_of-lead-requires : goal.lead_of-lead-requires
lead_of-lead-requires c =
    let a = c.args in
    first_good_by a.parts.now (bytes (goal.at.lead_of-lead-requires c).After-shared_slice_known-1) a.out.now c.in-Ok.judged c.in-Ok.ensures.ok.0 c.in-Ok.ensures.ok.1

pub returns-then-out-total : goal.returns-then-out-total
returns-then-out-total c =
    let a = c.args in
    let v = c.lead_of-lead in
    let t = c.total_of-total in
    let told = short_refuses a.parts.now (bytes (goal.at.returns-then-out-total c).After-shared_slice_known-1) a.out.now c.in-Ok.judged c.in-Ok.ensures.ok.0 c.in-Ok.ensures.ok.1 c.in-Ok.ensures.ok.2 v.result c.lead_of-lead.ensures t.result c.total_of-total.ensures c.if-out-total.true c.refused-then-out-total.result c.refused-then-out-total.ensures in record {
      value = told.0;
      out_after = told.1;
    }

pub overflow_cast-total : goal.overflow_cast-total
overflow_cast-total c =
    let a = c.args in
    let v = c.lead_of-lead in
    let t = c.total_of-total in
    omega (arith, total-small a.parts.now (bytes (goal.at.overflow_cast-total c).After-shared_slice_known-1) a.out.now c.in-Ok.judged c.in-Ok.ensures.ok.0 c.in-Ok.ensures.ok.1 c.in-Ok.ensures.ok.2 v.result c.lead_of-lead.ensures t.result c.total_of-total.ensures)

pub write_joined-requires : goal.write_joined-requires
write_joined-requires c =
    let a = c.args in
    let v = c.lead_of-lead in
    let t = c.total_of-total in
    record {
      ready = ready a.parts.now (bytes (goal.at.write_joined-requires c).After-shared_slice_known-1) a.out.now c.in-Ok.judged c.in-Ok.ensures.ok.0 c.in-Ok.ensures.ok.1 c.in-Ok.ensures.ok.2 v.result c.lead_of-lead.ensures t.result c.total_of-total.ensures;
      total_in_bounds = omega (arith, c.if-out-total.false);
    }

pub overflow_cast-result-2 : goal.overflow_cast-result-2
overflow_cast-result-2 c =
    let a = c.args in
    let v = c.lead_of-lead in
    let t = c.total_of-total in
    omega (arith, total-small a.parts.now (bytes (goal.at.overflow_cast-result-2 c).After-shared_slice_known-1) a.out.now c.in-Ok.judged c.in-Ok.ensures.ok.0 c.in-Ok.ensures.ok.1 c.in-Ok.ensures.ok.2 v.result c.lead_of-lead.ensures t.result c.total_of-total.ensures)

pub returns : goal.returns
returns c =
    let a = c.args in
    let v = c.lead_of-lead in
    let t = c.total_of-total in
    let done = joins a.parts.now (bytes (goal.at.returns c).After-shared_slice_known-1) a.out.now c.in-Ok.judged c.in-Ok.ensures.ok.0 c.in-Ok.ensures.ok.1 c.in-Ok.ensures.ok.2 v.result c.lead_of-lead.ensures t.result c.total_of-total.ensures (omega (arith, c.if-out-total.false)) in
    record {
      value = done.0;
      out_after = c.write_joined.ensures ∙ done.1;
    }
