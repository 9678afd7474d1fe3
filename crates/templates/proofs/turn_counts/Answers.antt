-- Each run follows the one before (`run_next`).
use mathlib.Core.Path.{refl}
use mathlib.Core.Bool.{false}
use native.Mathlib.Omega.{arith}
use Rattle.templates.specs.Templates.{run_widths}
use Rattle.templates.proofs.Runs.{run-first, run_next}
use Rattle.templates.proofs.turn_counts.Goals as goal

pub returns : goal.returns
returns c =
    let a = c.args in
    let e1 = run-first false a.src.now a.out.now a.from a.at 1 16 c.copy_items.ensures in
    let e2 = run_next false a.src.now a.out.now a.from a.at (run_widths 7 1) 16 2 2 refl (omega (arith, c.requires.from_in_bounds)) (omega (arith, c.requires.at_in_bounds)) e1 c.copy_items-2.ensures in
    let e3 = run_next false a.src.now a.out.now a.from a.at (run_widths 7 2) 20 4 9 refl (omega (arith, c.requires.from_in_bounds)) (omega (arith, c.requires.at_in_bounds)) e2 c.copy_items-3.ensures in
    let e4 = run_next false a.src.now a.out.now a.from a.at (run_widths 7 3) 56 2 2 refl (omega (arith, c.requires.from_in_bounds)) (omega (arith, c.requires.at_in_bounds)) e3 c.copy_items-4.ensures in
    run_next false a.src.now a.out.now a.from a.at (run_widths 7 4) 60 4 4 refl (omega (arith, c.requires.from_in_bounds)) (omega (arith, c.requires.at_in_bounds)) e4 c.copy_items-5.ensures
