-- Eight bytes for each column.
use mathlib.Core.Path.{ap, ◌∙◌}
use Rattle.rules.specs.Rules.{opened}
use Rattle.fills.specs.Fills.{over}
use Rattle.strips.specs.Strips.{strip_of}
use Rattle.strips.proofs.Written.{as_bytes}
use Rattle.strips.proofs.bytes.put_columns.Goals as goal

pub returns : goal.returns
returns c =
    let a = c.args in
    let t = strip_of (opened a.block.now) a.array a.segment a.columns in
    let e = c.columns_of.ensures in record {
      value = e.value;
      least_after = e.least_after ∙ ap (over a.least.now 0) (as_bytes t.leasts);
      greatest_after = e.greatest_after ∙ ap (over a.greatest.now 0) (as_bytes t.greatests);
    }
