-- Each table stands behind the one before.
use mathlib.Core.Path.{◌≡◌, ap, ap₂, ◌∙◌}
use Prim.Native.Nat.{ℕ, ◌+◌, ◌-◌, ◌*◌, ◌≤◌, ◌<◌}
use native.Mathlib.Omega.{arith}
use mathlib.Core.List.{List}
use lib.ListN.{length, get_or, take, drop}
use lib.Seq.{get_or-take, get_or-drop}
use Rattle.rules.specs.Numbers.{Bytes, splice}
use Rattle.rules.proofs.Numbers.{below-index}
use Rattle.rules.proofs.Splices.{splice_none}
use Rattle.parts.specs.Parts.{rows_of}
use Rattle.joins.specs.Steps.{table_of}
use Rattle.joins.proofs.Tabled.{start-within, first-within, can_place, row_ends, placed, first-start, next_start, table-room, next_table}
use Rattle.joins.proofs.writes.write_tables.Goals as goal
use Rattle.joins.proofs.writes.write_tables.Goals.{After-shared_slice_known-1, In-loop-length}

bytes : (c : After-shared_slice_known-1) → Bytes c.args.parts.now
bytes c = below-index 256 c.args.parts.now (λ i h. (c.type_inv.parts i).fits)

-- the length of the turn is one of the ten
abbrev size : In-loop-length → ℕ
size c = get_or (take 5 (drop 3 c.args.lead.lengths)) c.loop-length.length-index 0

size_is : (c : In-loop-length) → size c ≡ get_or c.args.lead.lengths (3 + c.loop-length.length-index) 0
size_is c =
    let k = c.loop-length.length-index in
    let ls : List ℕ = drop 3 c.args.lead.lengths in
    get_or-take 5 ls k 0 (omega (arith, c.loop-length-test.true)) ∙ get_or-drop 3 c.args.lead.lengths k 0

sizes_are : (c : In-loop-length) → c.args.count * size c ≡ c.args.count * get_or c.args.lead.lengths (3 + c.loop-length.length-index) 0
sizes_are c = ap (λ (m : ℕ). c.args.count * m) (size_is c)

-- there is room for the table of the turn
room : (c : In-loop-length) → c.loop-length.to + c.args.count * size c ≤ length c.args.out.now
room c =
    let a = c.args in
    let l = c.loop-length in
    omega (arith, sizes_are c, l.invariant.1, table-room a.parts.now (bytes (goal.at.In-loop-length c).After-shared_slice_known-1) a.lead a.count a.end c.requires.gathered l.length-index (omega (arith, c.loop-length-test.true)), c.requires.parts_in_bounds)

-- and it stands in each payload
row : (c : In-loop-length) → c.loop-length.from + size c ≤ c.args.end - c.args.lead.start
row c =
    let a = c.args in
    let l = c.loop-length in
    omega (arith, size_is c, l.invariant.0, row_ends a.parts.now (bytes (goal.at.In-loop-length c).After-shared_slice_known-1) a.lead a.count a.end c.requires.gathered (3 + l.length-index) (omega (arith, c.loop-length-test.true)))

pub overflow_sub-long : goal.overflow_sub-long
overflow_sub-long c =
    let a = c.args in
    start-within a.parts.now (bytes (goal.at.overflow_sub-long c).After-shared_slice_known-1) a.lead a.count a.end c.requires.gathered

pub loop-length-init : goal.loop-length-init
loop-length-init c =
    let a = c.args in
    (first-start a.parts.now (bytes (goal.at.loop-length-init c).After-shared_slice_known-1) a.lead a.count a.end c.requires.gathered, omega arith, splice_none a.out.now a.at)

pub write_table-requires : goal.write_table-requires
write_table-requires c =
    let a = c.args in
    record {
      placeable = can_place a.parts.now (bytes (goal.at.write_table-requires c).After-shared_slice_known-1) a.lead a.count a.end c.requires.gathered;
      size_bound = (row (goal.at.write_table-requires c).In-loop-length, c.requires.gathered.count);
      size_in_bounds = omega (arith, room (goal.at.write_table-requires c).In-loop-length, c.loop-length.auto.out);
    }

pub overflow_add-from-in-loop-length : goal.overflow_add-from-in-loop-length
overflow_add-from-in-loop-length c =
    omega (arith, row (goal.at.overflow_add-from-in-loop-length c).In-loop-length, c.requires.gathered.ends, first-within c.args.parts.now)

pub loop-length-preserved : goal.loop-length-preserved
loop-length-preserved c =
    let a = c.args in
    let s = a.parts.now in
    let b = bytes (goal.at.loop-length-preserved c).After-shared_slice_known-1 in
    let at = (goal.at.loop-length-preserved c).In-loop-length in
    let l = c.loop-length in
    let k : ℕ = l.length-index in
    let below : k < 5 = omega (arith, c.loop-length-test.true) in
    let n = next_table s b a.lead a.count a.end c.requires.gathered k below in
    let rows : rows_of l.from (size at) 0 a.count s ≡ table_of (3 + k) s =
    ap₂ {C = List ℕ} (λ m w. rows_of m w 0 a.count s) l.invariant.0 (size_is at) ∙ placed s b a.lead a.count a.end c.requires.gathered (3 + k) (omega arith) in (
      omega (arith, size_is at, l.invariant.0, next_start s b a.lead a.count a.end c.requires.gathered k below),
      omega (arith, sizes_are at, l.invariant.1, n.0),
      c.write_table.ensures ∙ ap (splice l.out l.to) rows ∙ ap₂ {C = List ℕ} (λ u m. splice u m (table_of (3 + k) s)) l.invariant.2 l.invariant.1 ∙ n.1 a.out.now a.at (omega (arith, room at, l.invariant.1)),
    )
