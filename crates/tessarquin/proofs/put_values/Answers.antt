-- The samples are in the block, their bits are those of the segment's values, and their marks are the segment's.
use mathlib.Core.Path.{◌≡◌, ◌∙◌}
use Prim.Native.Nat.{◌+◌}
use native.Mathlib.Omega.{arith}
use Rattle.rules.specs.Numbers.{Bytes}
use Rattle.rules.proofs.Numbers.{below-index}
use Rattle.tessarquin.proofs.Filling as filling
use Rattle.tessarquin.proofs.put_values.Goals as goal
use Rattle.tessarquin.proofs.put_values.Goals.{After-shared_slice_known-1}

-- every element of a slice is a byte
bytes : (c : After-shared_slice_known-1) → Bytes c.args.block.now
bytes c = below-index 256 c.args.block.now (λ i h. (c.type_inv.block i).fits)

pub put_bytes-requires : goal.put_bytes-requires
put_bytes-requires c =
    let a = c.args in
    let room = filling.samples-room a.block.now (bytes (goal.at.put_bytes-requires c).After-shared_slice_known-1) a.array a.segment a.place c.requires.place_value c.requires.segment_value 1 (omega (arith, c.if-place-eq0.true)) in
    record {
      finite_value = filling.value-finite a.block.now (bytes (goal.at.put_bytes-requires c).After-shared_slice_known-1) a.array a.segment a.place c.requires.place_value c.requires.segment_value;
      count_in_bounds = omega (arith, room);
      count_in_bounds_2 = c.requires.points_in_bounds;
    }

pub returns-then-place-eq0 : goal.returns-then-place-eq0
returns-then-place-eq0 c =
    let a = c.args in
    let size : a.place.kind + 1 ≡ 1 = omega (arith, c.if-place-eq0.true) in record {
      out_after = c.put_bytes.ensures.by_index a.place.order ∙ filling.bits_are a.block.now (bytes (goal.at.returns-then-place-eq0 c).After-shared_slice_known-1) a.array a.segment a.place c.requires.place_value c.requires.segment_value 1 size a.out.now;
      value = c.put_bytes.ensures.by_index_2 a.place.order ∙ filling.marks_are a.block.now (bytes (goal.at.returns-then-place-eq0 c).After-shared_slice_known-1) a.array a.segment a.place c.requires.place_value c.requires.segment_value 1 size;
    }

pub put_words-requires : goal.put_words-requires
put_words-requires c =
    let a = c.args in
    let size : a.place.kind + 1 ≡ 2 = omega (arith, c.if-place-eq0.false, filling.kind_small a.block.now (bytes (goal.at.put_words-requires c).After-shared_slice_known-1) a.array a.segment a.place c.requires.place_value c.requires.segment_value) in
    record {
      finite_value = filling.value-finite a.block.now (bytes (goal.at.put_words-requires c).After-shared_slice_known-1) a.array a.segment a.place c.requires.place_value c.requires.segment_value;
      count_in_bounds = filling.samples-room a.block.now (bytes (goal.at.put_words-requires c).After-shared_slice_known-1) a.array a.segment a.place c.requires.place_value c.requires.segment_value 2 size;
      count_in_bounds_2 = c.requires.points_in_bounds;
    }

pub returns : goal.returns
returns c =
    let a = c.args in
    let size : a.place.kind + 1 ≡ 2 = omega (arith, c.if-place-eq0.false, filling.kind_small a.block.now (bytes (goal.at.returns c).After-shared_slice_known-1) a.array a.segment a.place c.requires.place_value c.requires.segment_value) in
    record {
      out_after = c.put_words.ensures.out_after ∙ filling.bits_are a.block.now (bytes (goal.at.returns c).After-shared_slice_known-1) a.array a.segment a.place c.requires.place_value c.requires.segment_value 2 size a.out.now;
      value = c.put_words.ensures.value ∙ filling.marks_are a.block.now (bytes (goal.at.returns c).After-shared_slice_known-1) a.array a.segment a.place c.requires.place_value c.requires.segment_value 2 size;
    }
