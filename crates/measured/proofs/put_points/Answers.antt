-- Each turn writes the value of the next point and counts its mark; the walk is done after the last.
use Rattle.std.proofs.Common.{Bor}
use mathlib.Core.Path.{◌≡◌, refl, sym, ap, ◌∙◌}
use mathlib.Core.Logic.{inl}
use mathlib.Core.List.{List, map}
use Rattle.std.specs.Prelude.{Some, None}
use Rattle.std.specs.Iterator.Adapters.{enumerate_source, enumerate_count}
use Rattle.points.specs.declared.walk.Walk.{Walk}
use Prim.Native.Nat.{ℕ, ◌+◌, ◌-◌, ◌≤◌, ◌<◌}
use native.Mathlib.Numerals.{add-one}
use native.Mathlib.Omega.{arith}
use lib.Ieee.{Float}
use lib.ListN.{length, length-set}
use Rattle.rules.specs.Numbers.{Bytes, up_from}
use Rattle.rules.specs.Wave.{Wave, size_of, points}
use Rattle.rules.specs.Rules.{opened}
use Rattle.rules.specs.Points.{sample, value, mark, mark_number, mark_count_of, mark_count}
use Rattle.rules.proofs.Numbers.{below-index}
use Rattle.rules.proofs.Marks.{marks_few}
use Rattle.fills.proofs.Marking.{marks-one}
use Rattle.fills.proofs.Writes.{over_none, map-one}
use Rattle.points.specs.Walks.{step_at, after_of, place_after}
use Rattle.points.proofs.Values.{mark-from}
use Rattle.measured.proofs.Walked.{all-written, points_are, handed, stopped}
use Rattle.measured.proofs.put_points.Goals as goal
use Rattle.measured.proofs.put_points.Goals.{After-from-marks, After-shared_slice_known-1, In-Some, In-None, Start}

-- every element of a slice is a byte
bytes : (c : After-shared_slice_known-1) → Bytes c.args.block.now
bytes c = below-index 256 c.args.block.now (λ i h. (c.type_inv.block i).fits)

-- the slice is at least as long as there are points
room : (c : Start) → points (opened c.args.block.now).head ≤ length c.args.out.now
room c = let a = c.args in omega (arith, points_are a.block.now a.array a.segment a.first c.requires.first_value c.requires.segment_value, c.requires.points_in_bounds)

-- a step that hands out a point
next : (c : In-Some) → let a = c.args in let k = enumerate_count c.loop-k.k-iterator in
    (k < points (opened a.block.now).head)
    × (c.in-Some.point.value ≡ value (opened a.block.now) a.array a.segment k)
    × (c.in-Some.point.mark ≡ mark (opened a.block.now) a.array a.segment k)
next c =
    let a = c.args in
    let l = c.loop-k in
    let walk : Walk = enumerate_source l.k-iterator in
    let e = c.in-Some.ensures.steps.0.answers ∙ ap (λ (s : List ℕ). step_at s walk.place) l.invariant.same_block in
    let h = handed a.block.now a.array a.segment (bytes (goal.at.In-Some c).After-shared_slice_known-1) c.requires.segment_value (enumerate_count l.k-iterator) l.invariant.below walk.place l.invariant.stands (Some c.in-Some.point) e c.in-Some.point refl in
    (h.0, h.1, h.3)

within : (c : In-Some) → c.in-Some.k < length c.loop-k.out
within c = omega (arith, c.in-Some.ensures.steps.1, (next c).0, room (goal.at.In-Some c).Start, c.loop-k.invariant.room)

pub loop-k-init : goal.loop-k-init
unfolding up_from mark_count_of
loop-k-init c =
    let a = c.args in
    let e = c.into_iter-k-iterator.ensures.into_iter_gives in
    let from = ap enumerate_source e ∙ c.enumerate-k-items.ensures.source in
    let z : enumerate_count c.into_iter-k-iterator.result ≡ 0 = ap enumerate_count e ∙ c.enumerate-k-items.ensures.count in
    record {
      can_next = (tt, tt, inl (omega (arith, z, ap (λ (w : Walk). w.place.points - w.place.k) from, c.well_formed)));
      is_finite = tt;
      below = omega (arith, z);
      same_block = ap (λ (w : Walk). w.block.now) from;
      stands = ap (λ (w : Walk). w.place) from ∙ c.requires.first_value ∙ ap (place_after a.block.now a.array a.segment) (sym z);
      room = refl;
      written = rw z (over_none a.out.now 0);
      counted = rw z refl;
    }

pub offset_bounds-out-k : goal.offset_bounds-out-k
offset_bounds-out-k c = omega (arith, within (goal.at.offset_bounds-out-k c).In-Some)

pub bounds-out-k : goal.bounds-out-k
bounds-out-k c = within (goal.at.bounds-out-k c).In-Some

-- the mark of one point more
one : (c : After-from-marks)
    → (let a = c.args in
    let w : Wave = opened a.block.now in
    c.loop-k.marks + c.from-marks.result ≡ mark_count_of (size_of w.head) (map (sample w a.array a.segment) (up_from 0 (enumerate_count c.loop-k.k-iterator + 1))))
unfolding mark
one c =
    let a = c.args in
    let l = c.loop-k in
    let k : ℕ = enumerate_count l.k-iterator in
    let w : Wave = opened a.block.now in
    marks-one (size_of w.head) (sample w a.array a.segment) 0 k k l.marks c.from-marks.result (sample w a.array a.segment k) (omega arith) l.invariant.counted refl
    (c.from-marks.ensures ∙ mark-from c.in-Some.point.mark ∙ ap mark_number (next (goal.at.After-from-marks c).In-Some).2)

pub overflow_add-marks : goal.overflow_add-marks
overflow_add-marks c =
    let a = c.args in
    let w : Wave = opened a.block.now in
    let few = marks_few (size_of w.head) (sample w a.array a.segment) 0 (enumerate_count c.loop-k.k-iterator + 1) in
    omega (arith, one (goal.at.overflow_add-marks c).After-from-marks, few, (next (goal.at.overflow_add-marks c).In-Some).0, points_are a.block.now a.array a.segment a.first c.requires.first_value c.requires.segment_value, c.well_formed)

pub loop-k-preserved : goal.loop-k-preserved
loop-k-preserved c =
    let l = c.loop-k in
    let a = c.args in
    let k : ℕ = enumerate_count l.k-iterator in
    let f : ℕ → Float = value (opened a.block.now) a.array a.segment in
    let n = next (goal.at.loop-k-preserved c).In-Some in
    let q = c.in-Some.ensures.steps in
    record {
      can_next = c.in-Some.ensures.goes.keeps;
      is_finite = tt;
      below = omega (arith, n.0, q.2);
      same_block = ap (λ (b : Bor (List ℕ)). b.now) q.0.same_block ∙ l.invariant.same_block;
      stands = q.0.moves ∙ ap after_of l.invariant.stands ∙ ap (place_after a.block.now a.array a.segment) (sym (add-one k) ∙ sym q.2);
      room = simp length-set l.invariant.room;
      written = rw q.2 (map-one f a.out.now l.out 0 0 k k c.in-Some.k c.in-Some.point.value n.1 (omega arith) (omega (arith, q.1)) (omega (arith, within (goal.at.loop-k-preserved c).In-Some, q.1, l.invariant.room)) l.invariant.written);
      counted = rw q.2 (one (goal.at.loop-k-preserved c).After-from-marks);
    }

-- where the walk is done, all are written
all : (c : In-None) → enumerate_count c.loop-k.k-iterator ≡ points (opened c.args.block.now).head
all c =
    let a = c.args in
    let l = c.loop-k in
    let walk : Walk = enumerate_source l.k-iterator in
    let e = c.in-None.ensures.steps.0.answers ∙ ap (λ (s : List ℕ). step_at s walk.place) l.invariant.same_block in
    stopped a.block.now a.array a.segment (bytes (goal.at.In-None c).After-shared_slice_known-1) c.requires.segment_value (enumerate_count l.k-iterator) l.invariant.below walk.place l.invariant.stands None e refl

pub returns-clause-out_after : goal.returns-clause-out_after
returns-clause-out_after c =
    let l = c.loop-k in
    let a = c.args in
    let q = all (goal.at.returns-clause-out_after c).In-None in
    all-written (value (opened a.block.now) a.array a.segment) a.out.now l.out (enumerate_count l.k-iterator) a.first.points (omega (arith, q, points_are a.block.now a.array a.segment a.first c.requires.first_value c.requires.segment_value)) l.invariant.written

pub returns-clause-value : goal.returns-clause-value
unfolding mark_count
returns-clause-value c =
    let a = c.args in
    let w : Wave = opened a.block.now in
    c.loop-k.invariant.counted ∙ ap (λ (k : ℕ). mark_count_of (size_of w.head) (map (sample w a.array a.segment) (up_from 0 k))) (all (goal.at.returns-clause-value c).In-None)
