-- The head follows the header, and the text the head.
use mathlib.Core.Path.{ap₂, ◌∙◌}
use mathlib.Core.List.{List}
use Prim.Native.Nat.{ℕ}
use native.Mathlib.Omega.{arith}
use Rattle.rules.specs.Numbers.{Bytes, splice}
use Rattle.rules.specs.Rules.{opened}
use Rattle.rules.proofs.Numbers.{below-index}
use Rattle.copies.specs.Copies.{header}
use Rattle.copies.proofs.Laws.{three_at}
use Rattle.copies.proofs.Head.{length-header}
use Rattle.fronts.proofs.Fronting.{FrontNeeds, front_needs, count_room, front_head, head-out, text_out, head-long}
use Rattle.fronts.proofs.write_front.Goals as goal
use Rattle.fronts.proofs.write_front.Goals.{After-shared_slice_known-1}

bytes : (c : After-shared_slice_known-1) → Bytes c.args.part.now
bytes c = below-index 256 c.args.part.now (λ i h. (c.type_inv.part i).fits)

needed : (c : After-shared_slice_known-1) → FrontNeeds c.args.part.now c.args.lead c.args.count
needed c = front_needs c.args.part.now (bytes c) c.args.lead c.args.count c.requires.fronting

pub u32_at-points-requires : goal.u32_at-points-requires
u32_at-points-requires c = omega (arith, (needed (goal.at.u32_at-points-requires c).After-shared_slice_known-1).head-room)

pub u32_at-first-requires : goal.u32_at-first-requires
u32_at-first-requires c = omega (arith, (needed (goal.at.u32_at-first-requires c).After-shared_slice_known-1).head-room)

pub u32_at-sparsing-requires : goal.u32_at-sparsing-requires
u32_at-sparsing-requires c = omega (arith, (needed (goal.at.u32_at-sparsing-requires c).After-shared_slice_known-1).head-room)

pub overflow_mul-all : goal.overflow_mul-all
overflow_mul-all c =
    omega (arith, count_room c.args.part.now (bytes (goal.at.overflow_mul-all c).After-shared_slice_known-1) c.args.lead c.args.count c.requires.fronting c.u32_at-points.result c.u32_at-points.ensures)

pub write_head-requires : goal.write_head-requires
write_head-requires c =
    let n = needed (goal.at.write_head-requires c).After-shared_slice_known-1 in
    record {
      was_bound = (n.order, n.order);
      start_in_bounds = n.head-room;
      at_in_bounds = omega (arith, c.requires.lengths_in_bounds, c.put_header.auto);
    }

pub copy_bytes-requires : goal.copy_bytes-requires
copy_bytes-requires c =
    record {
      count_in_bounds = (needed (goal.at.copy_bytes-requires c).After-shared_slice_known-1).text-room;
      count_in_bounds_2 = omega (arith, c.requires.lengths_in_bounds, c.put_header.auto, c.write_head.auto);
    }

pub returns : goal.returns
returns c =
    let a = c.args in
    let b = bytes (goal.at.returns c).After-shared_slice_known-1 in
    let p : List ℕ = a.part.now in
    let head : List ℕ = front_head p b a.lead a.count c.requires.fronting c.u32_at-points.result c.u32_at-points.ensures in
    let text : List ℕ = (opened p).text in
    c.copy_bytes.ensures
    ∙ ap₂ {C = List ℕ} (λ u c. splice u 357 c) (c.write_head.ensures ∙ ap₂ {C = List ℕ} (λ u c. splice u 11 c) c.put_header.ensures (head-out p b a.lead a.count c.requires.fronting c.u32_at-points.result c.u32_at-points.ensures c.u32_at-first.result c.u32_at-sparsing.result c.u32_at-first.ensures c.u32_at-sparsing.ensures)) (text_out p b a.lead a.count c.requires.fronting)
    ∙ three_at a.out.now 11 357 (header a.total) head text (length-header a.total) (omega (arith, length-header a.total, head-long p a.count)) (omega (arith, c.requires.lengths_in_bounds))
