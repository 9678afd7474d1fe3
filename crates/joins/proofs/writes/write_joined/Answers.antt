-- The tables follow the front.
use mathlib.Core.Path.{ap, ◌∙◌}
use Prim.Native.Nat.{ℕ, ◌+◌}
use native.Mathlib.Omega.{arith}
use mathlib.Core.List.{List}
use lib.ListN.{get_or}
use Rattle.rules.specs.Numbers.{Bytes, splice}
use Rattle.rules.proofs.Numbers.{below-index}
use Rattle.joins.specs.Steps.{tables_to}
use Rattle.joins.proofs.Tabled.{first-within}
use Rattle.joins.proofs.Joining.{sum, fronting, front-written}
use Rattle.joins.proofs.writes.write_joined.Goals as goal
use Rattle.joins.proofs.writes.write_joined.Goals.{After-shared_slice_known-1}

bytes : (c : After-shared_slice_known-1) → Bytes c.args.parts.now
bytes c = below-index 256 c.args.parts.now (λ i h. (c.type_inv.parts i).fits)

pub slice_bounds-write_front-end : goal.slice_bounds-write_front-end
slice_bounds-write_front-end c = omega (arith, c.requires.ready.gathered.ends, first-within c.args.parts.now)

pub write_front-requires : goal.write_front-requires
write_front-requires c =
    let a = c.args in
    record {
      fronting = fronting a.parts.now (bytes (goal.at.write_front-requires c).After-shared_slice_known-1) a.lead a.count a.end a.total c.requires.ready;
      lengths_in_bounds = omega (arith, sum a.parts.now (bytes (goal.at.write_front-requires c).After-shared_slice_known-1) a.lead a.count a.end a.total c.requires.ready, c.requires.total_in_bounds);
    }

pub write_tables-requires : goal.write_tables-requires
write_tables-requires c =
    let a = c.args in
    record {
      gathered = c.requires.ready.gathered;
      parts_in_bounds = omega (arith, sum a.parts.now (bytes (goal.at.write_tables-requires c).After-shared_slice_known-1) a.lead a.count a.end a.total c.requires.ready, c.requires.total_in_bounds, c.write_front.auto);
    }

pub returns : goal.returns
returns c =
    let a = c.args in
    c.write_tables.ensures
    ∙ ap (λ (l : List ℕ). splice l (357 + get_or a.lead.lengths 1 0) (tables_to 5 a.parts.now)) c.write_front.ensures
    ∙ front-written a.parts.now (bytes (goal.at.returns c).After-shared_slice_known-1) a.lead a.count a.end a.total c.requires.ready a.out.now c.requires.total_in_bounds
