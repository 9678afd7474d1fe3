-- The tables follow the front, and the arrays the tables.
use mathlib.Core.Path.{ap, ◌∙◌}
use mathlib.Core.List.{List, ◌++◌}
use Prim.Native.Nat.{ℕ, ◌+◌, ◌≤◌}
use native.Mathlib.Omega.{arith}
use lib.ListN.{length, get_or}
use Rattle.rules.specs.Numbers.{Bytes, splice}
use Rattle.rules.specs.Template.{template, laid}
use Rattle.rules.specs.Rules.{opened}
use Rattle.rules.specs.Cut.{cut}
use Rattle.rules.proofs.Numbers.{below-index}
use Rattle.copies.specs.Copies.{header}
use Rattle.cuts.specs.Cuts.{setup_as}
use Rattle.cuts.specs.Plans.{trig_bytes, ris_bytes, array_bytes}
use Rattle.copies.proofs.Laws.{three_at}
use Rattle.cuts.proofs.Readies.{FrontNeeds, front_needs, front_bytes, table-bytes, cut_out}
use Rattle.cuts.proofs.writes.write_cut.Goals as goal
use Rattle.cuts.proofs.writes.write_cut.Goals.{After-shared_slice_known-1}

bytes : (c : After-shared_slice_known-1) → Bytes c.args.block.now
bytes c = below-index 256 c.args.block.now (λ i h. (c.type_inv.block i).fits)

needed : (c : After-shared_slice_known-1) → FrontNeeds c.args.block.now c.args.o (setup_as c.args.setup) c.args.plan
needed c = front_needs c.args.block.now (bytes c) c.args.o (setup_as c.args.setup) c.args.order c.args.plan c.requires.ready

small : (c : After-shared_slice_known-1) → 357 + get_or c.args.o.layout.lengths 1 0 + c.args.plan.trig + get_or c.args.o.layout.lengths 4 0 + c.args.plan.one + c.args.plan.two ≤ length c.args.out.now
small c = omega (arith, (needed c).total_of, c.requires.total_in_bounds)

pub overflow_cast-tables : goal.overflow_cast-tables
overflow_cast-tables c = omega (arith, small (goal.at.overflow_cast-tables c).After-shared_slice_known-1)

pub overflow_add-tables : goal.overflow_add-tables
overflow_add-tables c = omega (arith, small (goal.at.overflow_add-tables c).After-shared_slice_known-1)

pub overflow_add-arrays : goal.overflow_add-arrays
overflow_add-arrays c = omega (arith, small (goal.at.overflow_add-arrays c).After-shared_slice_known-1)

pub overflow_cast-arrays : goal.overflow_cast-arrays
overflow_cast-arrays c = omega (arith, small (goal.at.overflow_cast-arrays c).After-shared_slice_known-1)

pub overflow_add-arrays-2 : goal.overflow_add-arrays-2
overflow_add-arrays-2 c = omega (arith, small (goal.at.overflow_add-arrays-2 c).After-shared_slice_known-1)

pub write_tables-requires : goal.write_tables-requires
write_tables-requires c = record {
  ready = c.requires.ready;
  lengths_in_bounds = omega (arith, small (goal.at.write_tables-requires c).After-shared_slice_known-1, c.write_front.auto);
}

pub write_arrays-requires : goal.write_arrays-requires
write_arrays-requires c = record {
  ready = c.requires.ready;
  two_in_bounds = omega (arith, small (goal.at.write_arrays-requires c).After-shared_slice_known-1, c.write_front.auto, c.write_tables.auto);
}

pub returns : goal.returns
returns c =
    let a = c.args in
    let w = opened a.block.now in
    let s = setup_as a.setup in
    let front : List ℕ = header a.plan.total ++ laid a.order template (cut a.order s w).head ++ w.text in
    let tables : List ℕ = trig_bytes a.order s w ++ ris_bytes a.order w in
    let arrays : List ℕ = array_bytes a.order s w 1 ++ array_bytes a.order s w 2 in
    let n : ℕ = 357 + get_or a.o.layout.lengths 1 0 in
    let m : ℕ = n + a.plan.trig + get_or a.o.layout.lengths 4 0 in
    let b = bytes (goal.at.returns c).After-shared_slice_known-1 in
    let fronts = front_bytes a.block.now b a.o s a.order a.plan c.requires.ready in
    c.write_arrays.ensures
    ∙ ap (λ (l : List ℕ). splice l m arrays) (c.write_tables.ensures ∙ ap (λ (l : List ℕ). splice l n tables) c.write_front.ensures)
    ∙ three_at a.out.now n m front tables arrays fronts (omega (arith, fronts, table-bytes a.block.now b a.o s a.order a.plan c.requires.ready)) (omega (arith, small (goal.at.returns c).After-shared_slice_known-1))
    ∙ ap (splice a.out.now 0) (cut_out a.block.now b a.o s a.order a.plan c.requires.ready)
