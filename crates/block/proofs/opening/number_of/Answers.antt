-- Rules 3 to 7, and those of the tables.
use mathlib.Core.Path.{◌≡◌, ◌∙◌}
use mathlib.Core.Bool.{true}
use mathlib.Core.List.{[]}
use Prim.Native.Nat.{◌+◌}
use native.Mathlib.Omega.{arith}
use lib.ListN.{get_or, drop}
use Rattle.rules.specs.Numbers.{Bytes}
use Rattle.rules.specs.Template.{head_at}
use Rattle.rules.specs.Rules.{all, named, formed, tiles, counted}
use Rattle.rules.proofs.Numbers.{below-index}
use Rattle.descriptor.specs.Fields.{head_by}
use Rattle.block.proofs.Ladder.{Kept, passes, fails, room2, sum_fits, rung3, rung4, rung5, rung6, rung7, part_room, whole_entries, rung_tables}
use Rattle.block.proofs.opening.number_of.Goals as goal
use Rattle.block.proofs.opening.number_of.Goals.{After-shared_slice_known-1, Else-not-is_counted, Else-not-is_formed, Else-not-is_named, Else-not-is_placed, Else-not-is_tiled}

-- every element of a slice is a byte
bytes : (c : After-shared_slice_known-1) → Bytes c.args.block.now
bytes c = below-index 256 c.args.block.now (λ i h. (c.type_inv.block i).fits)

-- the rules kept, one after another
keeps3 : (c : Else-not-is_named) → let a = c.args in all (named (head_at (get_or a.block.now (a.start + 34) 0) a.start a.block.now)) ≡ true
keeps3 c = passes (c.is_named.ensures _) c.if-not-is_named.false-raw

keeps4 : (c : Else-not-is_formed) → let a = c.args in all (formed (drop a.start a.block.now) (head_by a.fields.counts [])) ≡ true
keeps4 c = passes c.is_formed.ensures c.if-not-is_formed.false-raw

keeps5 : (c : Else-not-is_tiled) → let a = c.args in all (tiles a.length a.fields.lengths) ≡ true
keeps5 c = passes c.is_tiled.ensures c.if-not-is_tiled.false-raw

keeps6 : (c : Else-not-is_counted) → let a = c.args in all (counted (head_by a.fields.counts a.fields.lengths)) ≡ true
keeps6 c = passes c.is_counted.ensures c.if-not-is_counted.false-raw

kept : (c : Else-not-is_placed) → let a = c.args in Kept a.block.now a.start a.length a.fields
kept c =
    record { names_kept = keeps3 (goal.at.Else-not-is_placed c).Else-not-is_named; forms = keeps4 (goal.at.Else-not-is_placed c).Else-not-is_formed; tiling = keeps5 (goal.at.Else-not-is_placed c).Else-not-is_tiled; counts = keeps6 (goal.at.Else-not-is_placed c).Else-not-is_counted; places = passes c.is_placed.ensures c.if-not-is_placed.false-raw }

pub is_named-requires : goal.is_named-requires
is_named-requires c = room2 _ _ _ c.requires.framed

pub returns-then-not-is_named : goal.returns-then-not-is_named
returns-then-not-is_named c =
    rung3 _ _ _ c.requires.framed c.args.fields c.requires.fields_value (fails (c.is_named.ensures _) c.if-not-is_named.true-raw)

pub is_formed-requires : goal.is_formed-requires
is_formed-requires c = room2 _ _ _ c.requires.framed

pub returns-then-not-is_formed : goal.returns-then-not-is_formed
returns-then-not-is_formed c =
    rung4 _ _ _ c.requires.framed c.args.fields c.requires.fields_value (keeps3 (goal.at.returns-then-not-is_formed c).Else-not-is_named) (fails c.is_formed.ensures c.if-not-is_formed.true-raw)

pub returns-then-not-is_tiled : goal.returns-then-not-is_tiled
returns-then-not-is_tiled c =
    rung5 _ _ _ c.requires.framed c.args.fields c.requires.fields_value (keeps3 (goal.at.returns-then-not-is_tiled c).Else-not-is_named) (keeps4 (goal.at.returns-then-not-is_tiled c).Else-not-is_formed) (fails c.is_tiled.ensures c.if-not-is_tiled.true-raw)

pub returns-then-not-is_counted : goal.returns-then-not-is_counted
returns-then-not-is_counted c =
    rung6 _ _ _ c.requires.framed c.args.fields c.requires.fields_value (keeps3 (goal.at.returns-then-not-is_counted c).Else-not-is_named) (keeps4 (goal.at.returns-then-not-is_counted c).Else-not-is_formed) (keeps5 (goal.at.returns-then-not-is_counted c).Else-not-is_tiled) (fails c.is_counted.ensures c.if-not-is_counted.true-raw)

pub returns-then-not-is_placed : goal.returns-then-not-is_placed
returns-then-not-is_placed c =
    rung7 _ _ _ c.requires.framed c.args.fields c.requires.fields_value (keeps3 (goal.at.returns-then-not-is_placed c).Else-not-is_named) (keeps4 (goal.at.returns-then-not-is_placed c).Else-not-is_formed) (keeps5 (goal.at.returns-then-not-is_placed c).Else-not-is_tiled) (keeps6 (goal.at.returns-then-not-is_placed c).Else-not-is_counted) (fails c.is_placed.ensures c.if-not-is_placed.true-raw)

pub layout_of-layout-requires : goal.layout_of-layout-requires
layout_of-layout-requires c =
    sum_fits _ _ _ c.requires.framed c.args.fields c.requires.fields_value (keeps5 (goal.at.layout_of-layout-requires c).Else-not-is_tiled)

pub number_of-requires : goal.number_of-requires
number_of-requires c =
    let k = kept (goal.at.number_of-requires c).Else-not-is_placed in
    let fits = part_room _ _ _ c.requires.framed c.args.fields c.requires.fields_value k (bytes (goal.at.number_of-requires c).After-shared_slice_known-1) c.layout_of-layout.result c.layout_of-layout.ensures in
    record {
      lengths_in_bounds = fits 3 (omega arith);
      lengths_in_bounds_2 = fits 4 (omega arith);
      lengths_value = whole_entries _ _ _ c.requires.framed c.args.fields c.requires.fields_value k (bytes (goal.at.number_of-requires c).After-shared_slice_known-1) c.layout_of-layout.result c.layout_of-layout.ensures;
    }

pub returns : goal.returns
returns c =
    c.number_of.ensures
    ∙ rung_tables _ _ _ c.requires.framed c.args.fields c.requires.fields_value (kept (goal.at.returns c).Else-not-is_placed) (bytes (goal.at.returns c).After-shared_slice_known-1) c.layout_of-layout.result c.layout_of-layout.ensures
