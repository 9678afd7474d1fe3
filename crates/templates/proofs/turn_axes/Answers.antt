-- Each run follows the one before (`run_next`).
use mathlib.Core.Path.{refl}
use mathlib.Core.Bool.{false}
use native.Mathlib.Omega.{arith}
use Rattle.templates.specs.Templates.{run_widths}
use Rattle.templates.proofs.Runs.{run-first, run_next}
use Rattle.templates.proofs.turn_axes.Goals as goal

pub returns : goal.returns
returns c =
    let a = c.args in
    let e1 = run-first false a.src.now a.out.now a.from a.at 2 2 c.copy_items.ensures in
    let e2 = run_next false a.src.now a.out.now a.from a.at (run_widths 12 1) 4 4 1 refl (omega (arith, c.requires.from_in_bounds)) (omega (arith, c.requires.at_in_bounds)) e1 c.copy_items-2.ensures in
    let e3 = run_next false a.src.now a.out.now a.from a.at (run_widths 12 2) 8 8 2 refl (omega (arith, c.requires.from_in_bounds)) (omega (arith, c.requires.at_in_bounds)) e2 c.copy_items-3.ensures in
    let e4 = run_next false a.src.now a.out.now a.from a.at (run_widths 12 3) 24 1 96 refl (omega (arith, c.requires.from_in_bounds)) (omega (arith, c.requires.at_in_bounds)) e3 c.copy_items-4.ensures in
    run_next false a.src.now a.out.now a.from a.at (run_widths 12 5) 120 4 1 refl (omega (arith, c.requires.from_in_bounds)) (omega (arith, c.requires.at_in_bounds)) e4 c.copy_items-5.ensures
