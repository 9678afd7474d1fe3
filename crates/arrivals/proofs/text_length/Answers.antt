-- USER_TEXT, read where it stands.
use mathlib.Core.Path.{refl, ◌∙◌}
use Prim.Native.Nat.{◌+◌, ◌≤◌}
use native.Mathlib.Omega.{arith}
use lib.ListN.{length}
use Rattle.rules.specs.Numbers.{Bytes}
use Rattle.rules.specs.Template.{template, width_at}
use Rattle.rules.proofs.Numbers.{below-index}
use Rattle.parts.proofs.Standing.{this-bytes}
use Rattle.parts.proofs.Fields.{descriptor_there, long-read}
use Rattle.arrivals.proofs.text_length.Goals as goal
use Rattle.arrivals.proofs.text_length.Goals.{After-shared_slice_known-1}

bytes : (c : After-shared_slice_known-1) → Bytes c.args.parts.now
bytes c = below-index 256 c.args.parts.now (λ i h. (c.type_inv.parts i).fits)

room : (c : After-shared_slice_known-1) → c.args.lead + 346 ≤ length c.args.parts.now
room c =
    let a = c.args in
    let p = c.requires in
    descriptor_there a.parts.now 0 a.lead p.0 (this-bytes a.parts.now 0 (bytes c)) p.1 (omega (arith, p.2))

pub overflow_add-order : goal.overflow_add-order
overflow_add-order c = omega (arith, room (goal.at.overflow_add-order c).After-shared_slice_known-1)

pub bounds-parts-lead : goal.bounds-parts-lead
bounds-parts-lead c = omega (arith, room (goal.at.bounds-parts-lead c).After-shared_slice_known-1)

pub overflow_cast-order : goal.overflow_cast-order
overflow_cast-order c = omega (arith, c.type_inv.parts (c.args.lead + 34))

pub overflow_add-lead : goal.overflow_add-lead
overflow_add-lead c = omega (arith, room (goal.at.overflow_add-lead c).After-shared_slice_known-1)

pub u32_at-requires : goal.u32_at-requires
u32_at-requires c = omega (arith, room (goal.at.u32_at-requires c).After-shared_slice_known-1)

pub returns : goal.returns
unfolding template width_at
returns c =
    let a = c.args in
    let p = c.requires in
    c.u32_at.ensures ∙ long-read a.parts.now 0 a.lead p.0 (this-bytes a.parts.now 0 (bytes (goal.at.returns c).After-shared_slice_known-1)) p.1 (omega (arith, p.2)) 40 refl (omega arith)
