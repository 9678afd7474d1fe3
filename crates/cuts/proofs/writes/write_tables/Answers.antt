-- The RIS entries follow the trigger entries.
use mathlib.Core.Path.{refl, ap₂, ◌∙◌}
use mathlib.Core.Logic.{inr}
use mathlib.Core.List.{List}
use Prim.Native.Nat.{ℕ, ◌+◌}
use native.Mathlib.Omega.{arith}
use Rattle.rules.specs.Numbers.{Bytes, splice}
use Rattle.rules.specs.Rules.{opened}
use Rattle.rules.proofs.Numbers.{below-index}
use Rattle.copies.proofs.Laws.{then}
use Rattle.cuts.specs.Cuts.{setup_as}
use Rattle.cuts.specs.Plans.{trig_bytes, ris_bytes}
use Rattle.cuts.proofs.Readies.{TableNeeds, table_needs, trig-bytes, ris-out}
use Rattle.cuts.proofs.writes.write_tables.Goals as goal
use Rattle.cuts.proofs.writes.write_tables.Goals.{After-shared_slice_known-1}

bytes : (c : After-shared_slice_known-1) → Bytes c.args.block.now
bytes c = below-index 256 c.args.block.now (λ i h. (c.type_inv.block i).fits)

needed : (c : After-shared_slice_known-1) → TableNeeds c.args.block.now c.args.o c.args.plan
needed c = table_needs c.args.block.now (bytes c) c.args.o (setup_as c.args.setup) c.args.order c.args.plan c.requires.ready

pub overflow_cast-ris : goal.overflow_cast-ris
overflow_cast-ris c = omega (arith, (needed (goal.at.overflow_cast-ris c).After-shared_slice_known-1).ris-room)

pub overflow_add-ris : goal.overflow_add-ris
overflow_add-ris c = omega (arith, (needed (goal.at.overflow_add-ris c).After-shared_slice_known-1).ris-room)

pub copy_items-requires : goal.copy_items-requires
copy_items-requires c =
    let n = needed (goal.at.copy_items-requires c).After-shared_slice_known-1 in
    record {
      width = inr (inr (inr refl));
      width_in_bounds = omega (arith, n.ris-room, n.ris_eights);
      width_in_bounds_2 = omega (arith, n.ris_eights, c.requires.lengths_in_bounds, c.write_trig.auto);
    }

pub returns : goal.returns
returns c =
    let a = c.args in
    let s = setup_as a.setup in
    let b = bytes (goal.at.returns c).After-shared_slice_known-1 in
    let trig : List ℕ = trig_bytes a.order s (opened a.block.now) in
    let ris : List ℕ = ris_bytes a.order (opened a.block.now) in
    c.copy_items.ensures
    ∙ ap₂ {C = List ℕ} (λ u v. splice u (a.at + a.plan.trig) v) c.write_trig.ensures (ris-out a.block.now b a.o s a.order a.plan c.requires.ready)
    ∙ then a.out.now a.at a.plan.trig trig ris (trig-bytes a.block.now b a.o s a.order a.plan c.requires.ready) (omega (arith, c.requires.lengths_in_bounds))
