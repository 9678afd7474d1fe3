-- Refused as the walk is, or without room in the shortest slice, or filled by the walk's points.
use mathlib.Core.Path.{◌≡◌, sym, ◌∙◌}
use mathlib.Core.List.{List}
use Prim.Native.Nat.{ℕ, min, ◌≤◌}
use native.Mathlib.Omega.{arith}
use lib.Ieee.{Float}
use lib.ListN.{length}
use Rattle.rules.specs.Rules.{opened}
use Rattle.rules.specs.Points.{value, time}
use Rattle.compared.specs.Tested.{mark_byte, steps_number, values_left, times_left, marks_left}
use Rattle.measured.proofs.Walked.{number-refused, walks, points_are, number_short, number_none}
use Rattle.compared.proofs.Tested.{steps_refused, steps_full}
use Rattle.compared.proofs.walks.compared_steps.Goals as goal
use Rattle.compared.proofs.walks.compared_steps.Goals.{Start}

-- a refused walk leaves the three slices as they were
refused : (s : List ℕ) (a n m : ℕ) (values times : List Float) (marks : List ℕ) → m ≡ steps_number s a n values times marks → (m ≡ 0 → ⊥)
    → (m ≡ steps_number s a n values times marks) × ((values ≡ values_left s a n values times marks) × ((times ≡ times_left s a n values times marks) × (marks ≡ marks_left s a n values times marks)))
unfolding values_left times_left marks_left
refused s a n m values times marks e h =
    let number : ℕ = steps_number s a n values times marks in (
      e,
      (
        steps_refused s number (value (opened s) a n) values (λ z. h (e ∙ z)),
        (steps_refused s number (time (opened s) n) times (λ z. h (e ∙ z)), steps_refused s number (mark_byte (opened s) a n) marks (λ z. h (e ∙ z))),
      ),
    )

pub returns-then-place-ne0 : goal.returns-then-place-ne0
returns-then-place-ne0 c =
    let a = c.args in
    let p = c.place_of-place in
    let room : ℕ = min (min (length a.values.now) (length a.times.now)) (length a.marks.now) in
    let told = refused a.block.now a.array a.segment p.result.refusal a.values.now a.times.now a.marks.now (number-refused a.block.now a.array a.segment p.result c.place_of-place.ensures room c.if-place-ne0.true) c.if-place-ne0.true in record {
      value = told.0;
      values_after = told.1.0;
      times_after = told.1.1.0;
      marks_after = told.1.1.1;
    }

-- the room of the shortest slice
abbrev room : Start → ℕ
room c = min (min (length c.args.values.now) (length c.args.times.now)) (length c.args.marks.now)

pub returns-then-room-place : goal.returns-then-room-place
returns-then-room-place c =
    let a = c.args in
    let p = c.place_of-place in
    let z = walks a.block.now a.array a.segment p.result p.ensures c.if-place-ne0.false in
    let short = number_short a.block.now a.array a.segment p.result p.ensures z (room (goal.at.returns-then-room-place c).Start) (omega (arith, c.if-room-place.true)) in
    let told = refused a.block.now a.array a.segment 13 a.values.now a.times.now a.marks.now short (λ z. omega arith) in record {
      value = told.0;
      values_after = told.1.0;
      times_after = told.1.1.0;
      marks_after = told.1.1.1;
    }

pub put_steps-requires : goal.put_steps-requires
put_steps-requires c =
    let a = c.args in
    let p = c.place_of-place in
    record {
      first_value = c.place_of-place.ensures;
      segment_value = walks a.block.now a.array a.segment p.result c.place_of-place.ensures c.if-place-ne0.false;
      points_in_bounds = (omega arith, omega arith, omega arith);
    }

pub returns : goal.returns
unfolding values_left times_left marks_left
returns c =
    let a = c.args in
    let p = c.place_of-place in
    let z = walks a.block.now a.array a.segment p.result c.place_of-place.ensures c.if-place-ne0.false in
    let m = points_are a.block.now a.array a.segment p.result c.place_of-place.ensures z in
    let fits : p.result.points ≤ room (goal.at.returns c).Start = omega arith in
    let e = number_none a.block.now a.array a.segment p.result c.place_of-place.ensures z (room (goal.at.returns c).Start) fits in
    let number : ℕ = steps_number a.block.now a.array a.segment a.values.now a.times.now a.marks.now in
    record {
      value = e;
      values_after = c.put_steps.ensures.values_after ∙ steps_full a.block.now number (value (opened a.block.now) a.array a.segment) a.values.now p.result.points (sym e) m;
      times_after = c.put_steps.ensures.times_after ∙ steps_full a.block.now number (time (opened a.block.now) a.segment) a.times.now p.result.points (sym e) m;
      marks_after = c.put_steps.ensures.marks_after ∙ steps_full a.block.now number (mark_byte (opened a.block.now) a.array a.segment) a.marks.now p.result.points (sym e) m;
    }
