-- Each run follows the one before (`run_next`).
use mathlib.Core.Path.{refl}
use mathlib.Core.Bool.{false}
use native.Mathlib.Omega.{arith}
use Rattle.templates.specs.Templates.{run_widths}
use Rattle.templates.proofs.Runs.{run-first, run_next}
use Rattle.templates.proofs.turn_times.Goals as goal

pub returns : goal.returns
returns c =
    let a = c.args in
    let e1 = run-first false a.src.now a.out.now a.from a.at 8 1 c.copy_items.ensures in
    let e2 = run_next false a.src.now a.out.now a.from a.at (run_widths 18 1) 8 1 4 refl (omega (arith, c.requires.from_in_bounds)) (omega (arith, c.requires.at_in_bounds)) e1 c.copy_items-2.ensures in
    let e3 = run_next false a.src.now a.out.now a.from a.at (run_widths 18 2) 12 2 2 refl (omega (arith, c.requires.from_in_bounds)) (omega (arith, c.requires.at_in_bounds)) e2 c.copy_items-3.ensures in
    let e4 = run_next false a.src.now a.out.now a.from a.at (run_widths 18 3) 16 4 1 refl (omega (arith, c.requires.from_in_bounds)) (omega (arith, c.requires.at_in_bounds)) e3 c.copy_items-4.ensures in
    run_next false a.src.now a.out.now a.from a.at (run_widths 18 4) 20 2 6 refl (omega (arith, c.requires.from_in_bounds)) (omega (arith, c.requires.at_in_bounds)) e4 c.copy_items-5.ensures
