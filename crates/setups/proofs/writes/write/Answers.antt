-- Too short, or written.
use mathlib.Core.Path.{◌≡◌, sym, ap, ◌∙◌}
use native.Mathlib.Omega.{arith}
use lib.ListN.{length}
use Rattle.cuts.specs.Cuts.{setup_as}
use Rattle.lines.specs.Writer.{setup_line}
use Rattle.lines.proofs.Writing.{length-line}
use Rattle.setups.specs.Setups.{line_length}
use Rattle.setups.proofs.Written.{write_refused, write_done}
use Rattle.setups.proofs.writes.write.Goals as goal
use Rattle.setups.proofs.writes.write.Goals.{After-line_length-long}

pub line_length-long-requires : goal.line_length-long-requires
line_length-long-requires c = c.widths_of-widths.ensures.result_bound

-- how long the line is
long : (c : After-line_length-long) → c.line_length-long.result ≡ length (setup_line (setup_as c.args.setup))
long c = c.line_length-long.ensures ∙ ap line_length c.widths_of-widths.ensures.value ∙ sym (length-line (setup_as c.args.setup))

pub returns-then-out-long : goal.returns-then-out-long
returns-then-out-long c =
    let a = c.args in
    let r = write_refused (setup_as a.setup) a.out.now (omega (arith, c.if-out-long.true, long (goal.at.returns-then-out-long c).After-line_length-long)) in
    record {
      value = r.0;
      out_after = r.1;
    }

pub put_line-requires : goal.put_line-requires
put_line-requires c =
    record {
      widths_value = c.widths_of-widths.ensures.value;
      widths_in_bounds = omega (arith, c.if-out-long.false, c.line_length-long.ensures);
    }

pub overflow_cast-result : goal.overflow_cast-result
overflow_cast-result c = omega (arith, c.line_length-long.ensures, c.widths_of-widths.ensures.result_bound)

pub returns : goal.returns
returns c =
    let a = c.args in
    let w = write_done (setup_as a.setup) a.out.now (omega (arith, c.if-out-long.false, long (goal.at.returns c).After-line_length-long)) c.line_length-long.result (long (goal.at.returns c).After-line_length-long) _ c.put_line.ensures in
    record {
      value = w.0;
      out_after = w.1;
    }
