-- The samples' place, the columns, and what is told of all samples.
use mathlib.Core.Path.{ap, ◌∙◌}
use mathlib.Core.List.{map, flatten}
use Prim.Native.Nat.{ℕ, ◌*◌, ◌/◌, ◌≤◌}
use native.Mathlib.Nat.{div-mul-le_self, mul-le-mul_right}
use native.Mathlib.Omega.{arith}
use lib.ListN.{length}
use Rattle.rules.specs.Numbers.{Bytes}
use Rattle.rules.proofs.Numbers.{below-index}
use Rattle.fills.specs.Fills.{over}
use Rattle.points.proofs.Values.{from-room}
use Rattle.strips.specs.Strips.{Strip, strip}
use Rattle.strips.specs.Answers.{drawn_by}
use Rattle.strips.proofs.Strips.{room}
use Rattle.strips.proofs.Calls.{lent, counts, holds, drawn_strip}
use Rattle.strips.proofs.columns_of.Given.{Over}
use Rattle.strips.proofs.columns_of.Goals as goal
use Rattle.strips.proofs.columns_of.Goals.{After-shared_slice_known-1}

-- every element of a slice is a byte
bytes : (g : Over) (c : After-shared_slice_known-1 g) → Bytes c.args.block.now
bytes g c = below-index 256 c.args.block.now (λ i h. (c.type_inv.block i).fits)

-- there is room for so many columns
inside : (w n width : ℕ) → w ≤ n / width → w * width ≤ n
inside w n width h = omega (arith, div-mul-le_self n width, mul-le-mul_right {m = w} {n = n / width} width h)

pub samples_from-from-requires : goal.samples_from-from-requires
samples_from-from-requires g c =
    let a = c.args in
    from-room a.block.now (bytes g (goal.at.samples_from-from-requires g c).After-shared_slice_known-1) a.o a.array a.segment 0 (lent a.block.now (bytes g (goal.at.samples_from-from-requires g c).After-shared_slice_known-1) a.o a.array a.segment a.columns _ _ c.requires)

pub draw-t-requires : goal.draw-t-requires
draw-t-requires g c =
    let a = c.args in
    let r = room a.block.now a.array a.segment a.columns _ _ c.requires.accepts in record {
      holds = holds a.block.now (bytes g (goal.at.draw-t-requires g c).After-shared_slice_known-1) a.o a.array a.segment a.columns _ _ c.requires c.samples_from-from.result c.samples_from-from.ensures;
      le_columns = counts a.block.now (bytes g (goal.at.draw-t-requires g c).After-shared_slice_known-1) a.o a.array a.segment a.columns _ _ c.requires;
      columns_in_bounds = (inside a.columns (length a.least.now) g.T.Element.width r.0, inside a.columns (length a.greatest.now) g.T.Element.width r.1);
    }

pub told-requires : goal.told-requires
told-requires g c =
    let a = c.args in
    let n = counts a.block.now (bytes g (goal.at.told-requires g c).After-shared_slice_known-1) a.o a.array a.segment a.columns _ _ c.requires in record {
      holds = holds a.block.now (bytes g (goal.at.told-requires g c).After-shared_slice_known-1) a.o a.array a.segment a.columns _ _ c.requires c.samples_from-from.result c.samples_from-from.ensures;
      le_count = (omega (arith, n.0, n.1), n.2);
      seen = c.draw-t.ensures.seen;
    }

pub returns : goal.returns
unfolding strip
returns g c =
    let a = c.args in
    let is = drawn_strip a.block.now (bytes g (goal.at.returns g c).After-shared_slice_known-1) a.o a.array a.segment a.columns _ _ c.requires c.samples_from-from.result c.samples_from-from.ensures in record {
      value = c.told.ensures a.columns ∙ ap (drawn_by 0) is;
      least_after = c.draw-t.ensures.lows_after ∙ ap (λ (t : Strip). over a.least.now 0 (flatten (map g.T.Element.written t.leasts))) is;
      greatest_after = c.draw-t.ensures.highs_after ∙ ap (λ (t : Strip). over a.greatest.now 0 (flatten (map g.T.Element.written t.greatests))) is;
    }
