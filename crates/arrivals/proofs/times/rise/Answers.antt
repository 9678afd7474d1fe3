-- Each turn passes a window that rises, or ends at one that does not.
use mathlib.Core.Path.{◌≡◌, refl, sym, ◌∙◌}
use native.Mathlib.Omega.{arith}
use lib.ListN.{length, length-map}
use borrow.Author.Tests.{not-true, not-false}
use Rattle.joining.specs.Join.{parts_in, by_index}
use Rattle.joining.proofs.Index.{length-by_index}
use Rattle.arrivals.specs.Arrivals.{part_time, times_at}
use Rattle.arrivals.proofs.Windows.{past_window, window_falls, last_window}
use Rattle.arrivals.proofs.times.rise.Goals as goal
use Rattle.arrivals.proofs.times.rise.Goals.{After-shared_slice_known-1}

-- there are as many times as parts
many : (c : After-shared_slice_known-1) → let a = c.args in a.count ≡ length (times_at a.order a.trig a.parts.now)
many c =
    let a = c.args in
    c.requires.count_value.0 ∙ sym (length-map (by_index (parts_in a.parts.now)) (part_time a.order a.trig) ∙ length-by_index (parts_in a.parts.now))

pub loop-skip-init : goal.loop-skip-init
loop-skip-init c = (omega arith, refl)

pub overflow_add-skip : goal.overflow_add-skip
overflow_add-skip c = omega (arith, c.loop-skip.invariant.0, c.requires.count_value.1)

pub rise_within-requires : goal.rise_within-requires
rise_within-requires c =
    let l = c.loop-skip in
    record {
      timed = c.requires.timed;
      count_in_bounds = (omega (arith, c.min-window.ensures, c.loop-skip-test.true, c.requires.count_value.0), omega (arith, c.min-window.ensures));
    }

pub returns-then-not-rise_within : goal.returns-then-not-rise_within
returns-then-not-rise_within c =
    let l = c.loop-skip in
    let a = c.args in
    sym (l.invariant.1
    ∙ window_falls (times_at a.order a.trig a.parts.now) a.count l.skip c.min-window.result (many (goal.at.returns-then-not-rise_within c).After-shared_slice_known-1) c.min-window.ensures
    (sym c.rise_within.ensures ∙ not-true c.rise_within.result c.if-not-rise_within.true-raw))

pub overflow_add-skip-in-loop-skip : goal.overflow_add-skip-in-loop-skip
overflow_add-skip-in-loop-skip c = omega (arith, c.loop-skip.invariant.0, c.requires.count_value.1)

pub loop-skip-smaller : goal.loop-skip-smaller
loop-skip-smaller c = omega (arith, c.loop-skip-test.true)

pub loop-skip-preserved : goal.loop-skip-preserved
loop-skip-preserved c =
    let l = c.loop-skip in
    let a = c.args in (
      omega (arith, c.loop-skip-test.true),
      l.invariant.1
          ∙ past_window (times_at a.order a.trig a.parts.now) a.count l.skip c.min-window.result (many (goal.at.loop-skip-preserved c).After-shared_slice_known-1) c.min-window.ensures
          (sym c.rise_within.ensures ∙ not-false c.rise_within.result c.if-not-rise_within.false-raw),
    )

pub returns : goal.returns
returns c =
    let l = c.loop-skip in
    let a = c.args in
    sym (l.invariant.1 ∙ last_window (times_at a.order a.trig a.parts.now) a.count l.skip (many (goal.at.returns c).After-shared_slice_known-1) (omega (arith, c.loop-skip-test.false)))
