-- By the digits of the four numbers.
use mathlib.Core.Path.{sym, ap, ◌∙◌}
use Rattle.cuts.specs.Cuts.{setup_as}
use Rattle.lines.proofs.Writing.{length-line}
use Rattle.setups.specs.Setups.{line_length}
use Rattle.setups.proofs.writes.length_of.Goals as goal

pub line_length-requires : goal.line_length-requires
line_length-requires c = c.widths_of.ensures.result_bound

pub returns : goal.returns
returns c = c.line_length.ensures ∙ ap line_length c.widths_of.ensures.value ∙ sym (length-line (setup_as c.args.setup))
