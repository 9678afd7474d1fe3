-- The loop places one row more at each turn.
use mathlib.Core.Path.{◌≡◌, refl, sym, ap, ◌∙◌, subst}
use Prim.Native.Nat.{ℕ, ◌+◌, ◌≤◌, ◌<◌}
use native.Mathlib.Omega.{arith}
use mathlib.Core.List.{List}
use lib.ListN.{length}
use Rattle.copies.specs.Copies.{part}
use Rattle.joining.specs.Join.{index_of}
use Rattle.parts.specs.Parts.{this, Sound, placed}
use Rattle.parts.proofs.Walking.{header_there, payload_reach, further, index_read, Left, left_first, left_end, next_sound, left_step}
use Rattle.parts.proofs.place_rows.Goals as goal
use Rattle.parts.proofs.place_rows.Goals.{After-payload_at-start, After-u32_at-index, In-loop-here}

-- the part of the turn is sound
sound : (c : In-loop-here) → let a = c.args in Sound a.order a.long (this a.parts.now c.loop-here.here)
sound c =
    let a = c.args in
    let l = c.loop-here in
    next_sound a.parts.now a.order a.long a.from a.size a.skip a.count a.out.now a.at l.out l.here l.invariant.0 c.loop-here-test.true

reaches : (c : After-payload_at-start) → let a = c.args in c.payload_at-start.result + a.long ≤ length a.parts.now
reaches c =
    let a = c.args in
    payload_reach a.parts.now c.loop-here.here a.order a.long c.loop-here-test.true (sound (goal.at.After-payload_at-start c).In-loop-here) c.requires.placeable.wide c.payload_at-start.result c.payload_at-start.ensures

goes_on : (c : After-payload_at-start) → let a = c.args in c.loop-here.here < c.payload_at-start.result + a.long
goes_on c =
    let a = c.args in
    further a.parts.now c.loop-here.here a.order a.long c.loop-here-test.true (sound (goal.at.After-payload_at-start c).In-loop-here) c.requires.placeable.wide c.payload_at-start.result c.payload_at-start.ensures

index_is : (c : After-u32_at-index) → let a = c.args in c.u32_at-index.result ≡ index_of (this a.parts.now c.loop-here.here)
index_is c =
    let a = c.args in
    c.u32_at-index.ensures
    ∙ index_read a.parts.now c.loop-here.here a.order a.long c.loop-here-test.true (sound (goal.at.After-u32_at-index c).In-loop-here) c.requires.placeable.wide c.payload_at-start.result c.payload_at-start.ensures

pub loop-here-init : goal.loop-here-init
loop-here-init c =
    let a = c.args in
    (left_first a.parts.now a.order a.long a.from a.size a.skip a.count a.out.now a.at c.requires.placeable c.requires.count_in_bounds c.requires.size_in_bounds, refl)

pub payload_at-start-requires : goal.payload_at-start-requires
payload_at-start-requires c =
    let a = c.args in
    header_there a.parts.now c.loop-here.here a.order a.long c.loop-here-test.true (sound (goal.at.payload_at-start-requires c).In-loop-here) c.requires.placeable.wide

pub overflow_add-start : goal.overflow_add-start
overflow_add-start c = omega (arith, reaches (goal.at.overflow_add-start c).After-payload_at-start, c.requires.placeable.wide)

pub u32_at-index-requires : goal.u32_at-index-requires
u32_at-index-requires c = omega (arith, reaches (goal.at.u32_at-index-requires c).After-payload_at-start, c.requires.placeable.wide)

pub overflow_add-start-in-loop-here : goal.overflow_add-start-in-loop-here
overflow_add-start-in-loop-here c = omega (arith, reaches (goal.at.overflow_add-start-in-loop-here c).After-payload_at-start, c.requires.size_bound)

pub place_row-requires : goal.place_row-requires
place_row-requires c =
    record {
      size_in_bounds = omega (arith, reaches (goal.at.place_row-requires c).After-payload_at-start, c.requires.size_bound);
      size_in_bounds_2 = omega (arith, c.requires.size_in_bounds, c.loop-here.invariant.1);
    }

pub overflow_add-here : goal.overflow_add-here
overflow_add-here c = omega (arith, reaches (goal.at.overflow_add-here c).After-payload_at-start)

pub loop-here-smaller : goal.loop-here-smaller
loop-here-smaller c = omega (arith, reaches (goal.at.loop-here-smaller c).After-payload_at-start, goes_on (goal.at.loop-here-smaller c).After-payload_at-start)

pub loop-here-preserved : goal.loop-here-preserved
loop-here-preserved c =
    let wrote = c.place_row in
    let a = c.args in
    let l = c.loop-here in (
      subst (λ (x : List ℕ). Left a.parts.now a.order a.long a.from a.size a.skip a.count a.out.now a.at x (c.payload_at-start.result + a.long))
          (sym (c.place_row.ensures ∙ ap (λ (k : ℕ). placed a.at a.size a.skip a.count k (part a.parts.now (c.payload_at-start.result + a.from) a.size) l.out) (index_is (goal.at.loop-here-preserved c).After-u32_at-index)))
          (left_step a.parts.now a.order a.long a.from a.size a.skip a.count a.out.now a.at l.out l.here l.invariant.0 c.loop-here-test.true c.requires.placeable.wide c.payload_at-start.result c.payload_at-start.ensures c.requires.size_bound c.requires.size_in_bounds),
      c.place_row.auto.out ∙ l.invariant.1,
    )

pub shape_of-out : goal.shape_of-out
shape_of-out c = c.loop-here.invariant.1

pub returns : goal.returns
returns c =
    let a = c.args in
    let l = c.loop-here in
    left_end a.parts.now a.order a.long a.from a.size a.skip a.count a.out.now a.at l.out l.here l.invariant.0 (omega arith)
