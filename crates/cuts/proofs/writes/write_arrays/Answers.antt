-- The rows that are copied are those of the cut; array 2 follows array 1, and is empty where the plan has none of it.
use mathlib.Core.Path.{◌≡◌, refl, sym, ap, ap₂, ◌∙◌}
use mathlib.Core.Logic.{inl, inr}
use mathlib.Core.List.{List, ◌++◌, append-nil}
use Prim.Native.Nat.{ℕ, zero, suc, ◌+◌, ◌*◌, ◌<◌}
use native.Mathlib.Omega.{arith}
use lib.ListN.{get_or}
use Rattle.rules.specs.Numbers.{Bytes, splice}
use Rattle.rules.specs.Rules.{opened}
use Rattle.rules.proofs.Numbers.{below-index}
use Rattle.copies.proofs.Laws.{then}
use Rattle.cuts.specs.Cuts.{setup_as}
use Rattle.cuts.specs.Plans.{array_bytes}
use Rattle.cuts.proofs.Readies.{There, ArrayNeeds, array_needs, array-out, one-bytes, two_none, two-one}
use Rattle.cuts.proofs.writes.write_arrays.Goals as goal
use Rattle.cuts.proofs.writes.write_arrays.Goals.{After-shared_slice_known-1, After-slice_known-1, Then-plan-ne0}

bytes : (c : After-shared_slice_known-1) → Bytes c.args.block.now
bytes c = below-index 256 c.args.block.now (λ i h. (c.type_inv.block i).fits)

needed : (c : After-shared_slice_known-1) (j : ℕ) → There c.args.plan j → ArrayNeeds c.args.block.now c.args.o c.args.plan j
needed c j t = array_needs c.args.block.now (bytes c) c.args.o (setup_as c.args.setup) c.args.order c.args.plan c.requires.ready j t

-- the first sample stands in the block, so each number on the way to it is small
first : (c : After-shared_slice_known-1) (j : ℕ) → There c.args.plan j
    → c.args.o.start + get_or c.args.o.layout.starts j 0 + (c.args.plan.skip * (c.args.o.points * (c.args.o.kind + 1)) + c.args.plan.from * (c.args.o.kind + 1)) < 18446744073709551616
first c j t = let n = needed c j t in omega (arith, n.rooms 0 0 n.some.0 n.some.1)

next_small : (c : After-slice_known-1) → c.args.at + c.args.plan.one < 18446744073709551616
next_small c = omega (arith, c.requires.two_in_bounds)

array-two : (c : Then-plan-ne0) → There c.args.plan 7
array-two c = inr (refl, positive c.args.plan.two c.if-plan-ne0.true)
  where
    positive : (n : ℕ) → (n ≡ 0 → ⊥) → 0 < n
    positive zero h = absurd (h refl)
    positive (suc n) h = omega arith

pub overflow_mul-row : goal.overflow_mul-row
overflow_mul-row c = omega (arith, (needed (goal.at.overflow_mul-row c).After-shared_slice_known-1 6 (inl refl)).row)

pub overflow_mul-step : goal.overflow_mul-step
overflow_mul-step c = omega (arith, (needed (goal.at.overflow_mul-step c).After-shared_slice_known-1 6 (inl refl)).steps)

pub overflow_mul-skip : goal.overflow_mul-skip
overflow_mul-skip c = omega (arith, first (goal.at.overflow_mul-skip c).After-shared_slice_known-1 6 (inl refl))

pub overflow_mul-skip-2 : goal.overflow_mul-skip-2
overflow_mul-skip-2 c = omega (arith, first (goal.at.overflow_mul-skip-2 c).After-shared_slice_known-1 6 (inl refl))

pub overflow_add-skip : goal.overflow_add-skip
overflow_add-skip c = omega (arith, first (goal.at.overflow_add-skip c).After-shared_slice_known-1 6 (inl refl))

pub overflow_cast-one : goal.overflow_cast-one
overflow_cast-one c = omega (arith, first (goal.at.overflow_cast-one c).After-shared_slice_known-1 6 (inl refl))

pub overflow_add-one : goal.overflow_add-one
overflow_add-one c = omega (arith, first (goal.at.overflow_add-one c).After-shared_slice_known-1 6 (inl refl))

pub overflow_add-one-2 : goal.overflow_add-one-2
overflow_add-one-2 c = omega (arith, first (goal.at.overflow_add-one-2 c).After-shared_slice_known-1 6 (inl refl))

pub copy_rows-requires : goal.copy_rows-requires
copy_rows-requires c =
    let n = needed (goal.at.copy_rows-requires c).After-shared_slice_known-1 6 (inl refl) in
    record {
      le_width = n.wide;
      rows_nonzero = n.some;
      by_index = n.rooms;
      width_in_bounds = omega (arith, n.size, c.requires.two_in_bounds);
    }

pub overflow_cast-two : goal.overflow_cast-two
overflow_cast-two c = omega (arith, first (goal.at.overflow_cast-two c).After-shared_slice_known-1 7 (array-two (goal.at.overflow_cast-two c).Then-plan-ne0))

pub overflow_add-two : goal.overflow_add-two
overflow_add-two c = omega (arith, first (goal.at.overflow_add-two c).After-shared_slice_known-1 7 (array-two (goal.at.overflow_add-two c).Then-plan-ne0))

pub overflow_add-two-then-plan-ne0 : goal.overflow_add-two-then-plan-ne0
overflow_add-two-then-plan-ne0 c = omega (arith, first (goal.at.overflow_add-two-then-plan-ne0 c).After-shared_slice_known-1 7 (array-two (goal.at.overflow_add-two-then-plan-ne0 c).Then-plan-ne0))

pub overflow_add-next : goal.overflow_add-next
overflow_add-next c = omega (arith, next_small (goal.at.overflow_add-next c).After-slice_known-1)

pub copy_rows-requires-then-plan-ne0 : goal.copy_rows-requires-then-plan-ne0
copy_rows-requires-then-plan-ne0 c =
    let a = c.args in
    let n = needed (goal.at.copy_rows-requires-then-plan-ne0 c).After-shared_slice_known-1 7 (array-two (goal.at.copy_rows-requires-then-plan-ne0 c).Then-plan-ne0) in
    let e = two-one a.block.now (bytes (goal.at.copy_rows-requires-then-plan-ne0 c).After-shared_slice_known-1) a.o (setup_as a.setup) a.order a.plan c.requires.ready c.if-plan-ne0.true in
    record {
      le_width = n.wide;
      rows_nonzero = n.some;
      by_index = n.rooms;
      width_in_bounds = omega (arith, n.size, e, c.requires.two_in_bounds, c.copy_rows.auto);
    }

pub returns-then-plan-ne0 : goal.returns-then-plan-ne0
returns-then-plan-ne0 c =
    let a = c.args in
    let s = setup_as a.setup in
    let b = bytes (goal.at.returns-then-plan-ne0 c).After-shared_slice_known-1 in
    let one : List ℕ = array_bytes a.order s (opened a.block.now) 1 in
    let two : List ℕ = array_bytes a.order s (opened a.block.now) 2 in
    c.copy_rows-then-plan-ne0.ensures
    ∙ ap₂ {C = List ℕ} (λ u v. splice u (a.at + a.plan.one) v)
    (c.copy_rows.ensures ∙ ap (splice a.out.now a.at) (array-out a.block.now b a.o s a.order a.plan c.requires.ready 6 (inl refl)))
    (array-out a.block.now b a.o s a.order a.plan c.requires.ready 7 (array-two (goal.at.returns-then-plan-ne0 c).Then-plan-ne0))
    ∙ then a.out.now a.at a.plan.one one two (one-bytes a.block.now b a.o s a.order a.plan c.requires.ready) (omega (arith, c.requires.two_in_bounds))

pub returns-else-plan-ne0 : goal.returns-else-plan-ne0
returns-else-plan-ne0 c =
    let a = c.args in
    let s = setup_as a.setup in
    let b = bytes (goal.at.returns-else-plan-ne0 c).After-shared_slice_known-1 in
    let one : List ℕ = array_bytes a.order s (opened a.block.now) 1 in
    c.copy_rows.ensures
    ∙ ap (splice a.out.now a.at)
    (array-out a.block.now b a.o s a.order a.plan c.requires.ready 6 (inl refl) ∙ sym (append-nil one) ∙ ap (λ (l : List ℕ). one ++ l) (two_none a.block.now b a.o s a.order a.plan c.requires.ready c.if-plan-ne0.false))
