-- A point's value and time are the first two numbers, and its mark the first byte; a walk that is done hands out nothing.
use Rattle.std.specs.Prelude.{Option}
use mathlib.Core.Path.{sym, ap, ◌∙◌}
use mathlib.Core.List.{[], map}
use native.Mathlib.Omega.{arith}
use lib.ListN.{length}
use Rattle.rules.specs.Points.{mark_number}
use Rattle.points.specs.declared.walk.TimedPoint.{TimedPoint}
use Rattle.points.specs.Walks.{values_of, marks_of}
use Rattle.compared.specs.Tested.{copied}
use Rattle.compared.proofs.Tested.{copied-fits}
use Rattle.compared.proofs.walks.compared_step.Goals as goal

pub returns-in-Some : goal.returns-in-Some
returns-in-Some c =
    let a = c.args in
    let e = sym c.in-Some.is ∙ c.walked.ensures in record {
      value = ap (λ (r : Option TimedPoint). length (values_of r)) e;
      out_after = c.put_two.ensures ∙ ap (λ (r : Option TimedPoint). copied (values_of r) a.out.now) e;
      mark_after = c.put_mark.ensures ∙ ap (λ (r : Option TimedPoint). copied (map mark_number (marks_of r)) a.mark.now) e;
    }

pub returns-in-None : goal.returns-in-None
returns-in-None c =
    let a = c.args in
    let e = sym c.in-None.is ∙ c.walked.ensures in record {
      value = ap (λ (r : Option TimedPoint). length (values_of r)) e;
      out_after = copied-fits [] a.out.now (omega arith) ∙ ap (λ (r : Option TimedPoint). copied (values_of r) a.out.now) e;
      mark_after = copied-fits [] a.mark.now (omega arith) ∙ ap (λ (r : Option TimedPoint). copied (map mark_number (marks_of r)) a.mark.now) e;
    }
