-- Each turn writes the value, the time and the mark of the next point; the walk is done after the last.
use mathlib.Core.Path.{◌≡◌, refl, sym, ap, ◌∙◌}
use mathlib.Core.Logic.{inl}
use mathlib.Core.List.{List}
use Rattle.std.proofs.Common.{Bor}
use Rattle.std.specs.Prelude.{Some, None}
use Rattle.std.specs.Iterator.Adapters.{enumerate_source, enumerate_count}
use Rattle.points.specs.declared.walk.Walk.{Walk}
use Prim.Native.Nat.{ℕ, ◌-◌, ◌<◌}
use native.Mathlib.Numerals.{add-one}
use native.Mathlib.Omega.{arith}
use lib.ListN.{length, length-set}
use Rattle.rules.specs.Numbers.{Bytes, up_from}
use Rattle.rules.specs.Wave.{Wave, points}
use Rattle.rules.specs.Rules.{opened}
use Rattle.rules.specs.Points.{value, time, mark, mark_number}
use Rattle.rules.proofs.Numbers.{below-index}
use Rattle.fills.proofs.Writes.{over_none, map-one}
use Rattle.points.specs.Walks.{step_at, after_of, place_after}
use Rattle.compared.specs.Tested.{mark_byte}
use Rattle.points.proofs.Values.{mark-from}
use Rattle.measured.proofs.Walked.{all-written, points_are, handed, stopped}
use Rattle.compared.proofs.walks.put_steps.Goals as goal
use Rattle.compared.proofs.walks.put_steps.Goals.{After-shared_slice_known-1, In-Some}

-- every element of a slice is a byte
bytes : (c : After-shared_slice_known-1) → Bytes c.args.block.now
bytes c = below-index 256 c.args.block.now (λ i h. (c.type_inv.block i).fits)

-- a step that hands out a point
next : (c : In-Some) → let a = c.args in let k = enumerate_count c.loop-k.k-iterator in
    (k < points (opened a.block.now).head)
    × (c.in-Some.point.value ≡ value (opened a.block.now) a.array a.segment k)
    × (c.in-Some.point.time ≡ time (opened a.block.now) a.segment k)
    × (c.in-Some.point.mark ≡ mark (opened a.block.now) a.array a.segment k)
next c =
    let a = c.args in
    let l = c.loop-k in
    let walk : Walk = enumerate_source l.k-iterator in
    let e = c.in-Some.ensures.steps.0.answers ∙ ap (λ (s : List ℕ). step_at s walk.place) l.invariant.same_block in
    handed a.block.now a.array a.segment (bytes (goal.at.In-Some c).After-shared_slice_known-1) c.requires.segment_value (enumerate_count l.k-iterator) l.invariant.below walk.place l.invariant.stands (Some c.in-Some.point) e c.in-Some.point refl

within : (c : In-Some) → (c.in-Some.k < length c.loop-k.values) × (c.in-Some.k < length c.loop-k.times) × (c.in-Some.k < length c.loop-k.marks)
within c =
    let a = c.args in
    let l = c.loop-k in
    let q = c.requires.points_in_bounds in
    let m = points_are a.block.now a.array a.segment a.first c.requires.first_value c.requires.segment_value in
    let e = c.in-Some.ensures.steps.1 in
    (omega (arith, e, (next c).0, m, q.0, l.invariant.values_room), omega (arith, e, (next c).0, m, q.1, l.invariant.times_room), omega (arith, e, (next c).0, m, q.2, l.invariant.marks_room))

pub loop-k-init : goal.loop-k-init
unfolding up_from
loop-k-init c =
    let a = c.args in
    let e = c.into_iter-k-iterator.ensures.into_iter_gives in
    let from = ap enumerate_source e ∙ c.enumerate-k-items.ensures.source in
    let z : enumerate_count c.into_iter-k-iterator.result ≡ 0 = ap enumerate_count e ∙ c.enumerate-k-items.ensures.count in
    record {
      can_next = (tt, tt, inl (omega (arith, z, ap (λ (w : Walk). w.place.points - w.place.k) from, c.well_formed)));
      is_finite = tt;
      below = omega (arith, z);
      same_block = ap (λ (w : Walk). w.block.now) from;
      stands = ap (λ (w : Walk). w.place) from ∙ c.requires.first_value ∙ ap (place_after a.block.now a.array a.segment) (sym z);
      values_room = refl;
      times_room = refl;
      marks_room = refl;
      values_written = rw z (over_none a.values.now 0);
      times_written = rw z (over_none a.times.now 0);
      marks_written = rw z (over_none a.marks.now 0);
    }

pub offset_bounds-values-k : goal.offset_bounds-values-k
offset_bounds-values-k c = omega (arith, (within (goal.at.offset_bounds-values-k c).In-Some).0)

pub bounds-values-k : goal.bounds-values-k
bounds-values-k c = (within (goal.at.bounds-values-k c).In-Some).0

pub offset_bounds-times-k : goal.offset_bounds-times-k
offset_bounds-times-k c = omega (arith, (within (goal.at.offset_bounds-times-k c).In-Some).1)

pub bounds-times-k : goal.bounds-times-k
bounds-times-k c = (within (goal.at.bounds-times-k c).In-Some).1

pub bounds-marks-k : goal.bounds-marks-k
bounds-marks-k c = (within (goal.at.bounds-marks-k c).In-Some).2

pub loop-k-preserved : goal.loop-k-preserved
loop-k-preserved c =
    let l = c.loop-k in
    let a = c.args in
    let k : ℕ = enumerate_count l.k-iterator in
    let n = next (goal.at.loop-k-preserved c).In-Some in
    let w = within (goal.at.loop-k-preserved c).In-Some in
    let v = c.in-Some.point in
    let q = c.in-Some.ensures.steps in
    record {
      can_next = c.in-Some.ensures.goes.keeps;
      is_finite = tt;
      below = omega (arith, n.0, q.2);
      same_block = ap (λ (b : Bor (List ℕ)). b.now) q.0.same_block ∙ l.invariant.same_block;
      stands = q.0.moves ∙ ap after_of l.invariant.stands ∙ ap (place_after a.block.now a.array a.segment) (sym (add-one k) ∙ sym q.2);
      values_room = simp length-set l.invariant.values_room;
      times_room = simp length-set l.invariant.times_room;
      marks_room = simp length-set l.invariant.marks_room;
      values_written = rw q.2 (map-one (value (opened a.block.now) a.array a.segment) a.values.now l.values 0 0 k k c.in-Some.k v.value n.1 (omega arith) (omega (arith, q.1)) (omega (arith, w.0, q.1, l.invariant.values_room)) l.invariant.values_written);
      times_written = rw q.2 (map-one (time (opened a.block.now) a.segment) a.times.now l.times 0 0 k k c.in-Some.k v.time n.2 (omega arith) (omega (arith, q.1)) (omega (arith, w.1, q.1, l.invariant.times_room)) l.invariant.times_written);
      marks_written = rw q.2 (map-one (mark_byte (opened a.block.now) a.array a.segment) a.marks.now l.marks 0 0 k k c.in-Some.k _ (c.from.ensures ∙ mark-from v.mark ∙ ap mark_number n.3) (omega arith) (omega (arith, q.1)) (omega (arith, w.2, q.1, l.invariant.marks_room)) l.invariant.marks_written);
    }

pub returns : goal.returns
returns c =
    let l = c.loop-k in
    let a = c.args in
    let w : Wave = opened a.block.now in
    let k : ℕ = enumerate_count l.k-iterator in
    let walk : Walk = enumerate_source l.k-iterator in
    let end = c.in-None.ensures.steps.0.answers ∙ ap (λ (s : List ℕ). step_at s walk.place) l.invariant.same_block in
    let q = stopped a.block.now a.array a.segment (bytes (goal.at.returns c).After-shared_slice_known-1) c.requires.segment_value k l.invariant.below walk.place l.invariant.stands None end refl in
    let e : k ≡ a.first.points = omega (arith, q, points_are a.block.now a.array a.segment a.first c.requires.first_value c.requires.segment_value) in record {
      values_after = all-written (value w a.array a.segment) a.values.now l.values k a.first.points e l.invariant.values_written;
      times_after = all-written (time w a.segment) a.times.now l.times k a.first.points e l.invariant.times_written;
      marks_after = all-written (mark_byte w a.array a.segment) a.marks.now l.marks k a.first.points e l.invariant.marks_written;
    }
