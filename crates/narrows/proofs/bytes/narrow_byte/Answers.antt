-- Refused for room, or written.
use mathlib.Core.Path.{ap, ◌∙◌}
use mathlib.Core.Logic.{inl}
use Prim.Native.Nat.{◌+◌}
use native.Mathlib.Omega.{arith}
use lib.ListN.{length, get_or}
use Rattle.rules.specs.Numbers.{splice}
use Rattle.rules.proofs.Numbers.{below-index}
use Rattle.narrowing.proofs.Accepted.{says-narrow}
use Rattle.narrows.proofs.Answers.{ByteNeeds, byte_needs, room-number, refuses, narrows}
use Rattle.narrows.proofs.bytes.narrow_byte.Goals as goal
use Rattle.narrows.proofs.bytes.narrow_byte.Goals.{After-shared_slice_known-1}

needed : (c : After-shared_slice_known-1) → ByteNeeds c.args.block.now c.args.o (get_or c.args.o.layout.starts 7 0 + get_or c.args.o.layout.lengths 7 0)
needed c = byte_needs c.args.block.now (below-index 256 c.args.block.now (λ i h. (c.type_inv.block i).fits)) c.args.o c.requires.0 c.requires.1 c.requires.2

pub returns-then-out-total : goal.returns-then-out-total
returns-then-out-total c =
    let n = needed (goal.at.returns-then-out-total c).After-shared_slice_known-1 in
    let s = c.args.block.now in
    let out = c.args.out.now in
    let told = refuses s out 13 (room-number s (length out) c.requires.1 (inl c.requires.2) (omega (arith, c.if-out-total.true, n.long))) (λ z. omega (arith, z)) c.refused.result c.refused.ensures in record {
      value = told.0;
      out_after = told.1;
    }

pub write_byte-requires : goal.write_byte-requires
write_byte-requires c = let n = needed (goal.at.write_byte-requires c).After-shared_slice_known-1 in record {
  total_in_bounds = (n.room, n.small);
  total_in_bounds_2 = omega (arith, c.if-out-total.false);
}

pub overflow_cast-result : goal.overflow_cast-result
overflow_cast-result c = omega (arith, (needed (goal.at.overflow_cast-result c).After-shared_slice_known-1).small)

pub returns : goal.returns
returns c =
    let n = needed (goal.at.returns c).After-shared_slice_known-1 in
    let s = c.args.block.now in
    let out = c.args.out.now in
    let told = narrows s out (says-narrow s (length out) (record { block = c.requires.1; gains = inl c.requires.2; room = omega (arith, c.if-out-total.false, n.long) })) _ n.long _ (c.write_byte.ensures ∙ ap (splice out 0) n.is) in record {
      value = told.0;
      out_after = told.1;
    }
