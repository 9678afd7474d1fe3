-- Each part follows the one before (`pieces_next`), and the parts are the template.
use mathlib.Core.Path.{refl}
use mathlib.Core.Bool.{false}
use native.Mathlib.Omega.{arith}
use Rattle.rules.specs.Template.{template}
use Rattle.templates.specs.Templates.{run_widths}
use Rattle.templates.proofs.Runs.{pieces_next}
use Rattle.templates.proofs.turn_head.Goals as goal

pub returns : goal.returns
unfolding template
returns c =
    let a = c.args in
    let e2 = pieces_next false a.src.now a.out.now a.from a.at (run_widths 0 7) (run_widths 7 5) 96 refl (omega (arith, c.requires.from_in_bounds)) (omega (arith, c.requires.at_in_bounds)) c.turn_names.ensures c.turn_counts.ensures in
    let e3 = pieces_next false a.src.now a.out.now a.from a.at (run_widths 0 12) (run_widths 12 6) 172 refl (omega (arith, c.requires.from_in_bounds)) (omega (arith, c.requires.at_in_bounds)) e2 c.turn_axes.ensures in
    let e4 = pieces_next false a.src.now a.out.now a.from a.at (run_widths 0 18) (run_widths 18 5) 296 refl (omega (arith, c.requires.from_in_bounds)) (omega (arith, c.requires.at_in_bounds)) e3 c.turn_times.ensures in
    pieces_next false a.src.now a.out.now a.from a.at (run_widths 0 23) (run_widths 23 4) 328 refl (omega (arith, c.requires.from_in_bounds)) (omega (arith, c.requires.at_in_bounds)) e4 c.turn_inputs.ensures
