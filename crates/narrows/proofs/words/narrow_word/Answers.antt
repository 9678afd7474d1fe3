-- Refused for its gain or for room, or written.
use mathlib.Core.Path.{◌≡◌, ap, ◌∙◌}
use mathlib.Core.Bool.{true}
use mathlib.Core.Logic.{inr}
use mathlib.Core.List.{List}
use Prim.Native.Nat.{ℕ, ◌/◌}
use native.Mathlib.Omega.{arith}
use lib.Ieee.{binary32, to_bits}
use lib.Ieee.Scale.{finite}
use lib.ListN.{length, get_or}
use Rattle.rules.specs.Numbers.{splice}
use Rattle.rules.specs.Rules.{finite32, opened}
use Rattle.rules.proofs.Numbers.{below-index}
use Rattle.block.proofs.Ladder.{passes, fails}
use Rattle.narrowing.specs.Narrow.{widened, times256, gain}
use Rattle.narrowing.proofs.Accepted.{says-narrow}
use Rattle.numbers.proofs.Patterns.{no_nan}
use Rattle.narrows.specs.Steps.{word_block}
use Rattle.narrows.proofs.Answers.{WordNeeds, word_needs, gain-number, room-number, refuses, narrows}
use Rattle.narrows.proofs.words.narrow_word.Goals as goal
use Rattle.narrows.proofs.words.narrow_word.Goals.{After-is_narrow, After-shared_slice_known-1}

needed : (c : After-shared_slice_known-1) → WordNeeds c.args.block.now c.args.o (get_or c.args.o.layout.starts 6 0) (get_or c.args.o.layout.lengths 6 0 / 2) (get_or c.args.o.layout.lengths 7 0 / 2)
needed c = word_needs c.args.block.now (below-index 256 c.args.block.now (λ i h. (c.type_inv.block i).fits)) c.args.o c.requires.0 c.requires.1 c.requires.2

-- the gain of the block, by its bits
abbrev old : After-shared_slice_known-1 → ℕ
old c = gain (opened c.args.block.now).head

-- the gain's bits, as the code has them
abbrev bits : After-shared_slice_known-1 → ℕ
bits c = to_bits binary32 c.args.o.calibration.gain

gain-good : (c : After-shared_slice_known-1) → finite32 (bits c) ≡ true
gain-good c = ap finite32 (needed c).bits ∙ (needed c).good

-- what the bits are tested for
test : (c : After-is_narrow) → c.is_narrow.result ≡ finite (widened (old (goal.at.After-is_narrow c).After-shared_slice_known-1))
test c = c.is_narrow.ensures ∙ ap (λ (n : ℕ). finite (widened n)) (needed (goal.at.After-is_narrow c).After-shared_slice_known-1).bits

finite-bits : (c : After-is_narrow) → finite (widened (old (goal.at.After-is_narrow c).After-shared_slice_known-1)) ≡ true → finite (widened (bits (goal.at.After-is_narrow c).After-shared_slice_known-1)) ≡ true
finite-bits c e = ap (λ (n : ℕ). finite (widened n)) (needed (goal.at.After-is_narrow c).After-shared_slice_known-1).bits ∙ e

pub float_to_bits-gain : goal.float_to_bits-gain
float_to_bits-gain c = no_nan c.args.o.calibration.gain (needed (goal.at.float_to_bits-gain c).After-shared_slice_known-1).real

pub is_narrow-requires : goal.is_narrow-requires
is_narrow-requires c = gain-good (goal.at.is_narrow-requires c).After-shared_slice_known-1

pub returns-then-not-is_narrow : goal.returns-then-not-is_narrow
returns-then-not-is_narrow c =
    let s = c.args.block.now in
    let out = c.args.out.now in
    let told = refuses s out 19 (gain-number s (length out) c.requires.1 c.requires.2 (fails (test (goal.at.returns-then-not-is_narrow c).After-is_narrow) c.if-not-is_narrow.true-raw)) (λ z. omega (arith, z)) c.refused.result c.refused.ensures in record {
      value = told.0;
      out_after = told.1;
    }

pub returns-then-out-total : goal.returns-then-out-total
returns-then-out-total c =
    let s = c.args.block.now in
    let out = c.args.out.now in
    let told = refuses s out 13 (room-number s (length out) c.requires.1 (inr (passes (test (goal.at.returns-then-out-total c).After-is_narrow) c.if-not-is_narrow.false-raw)) (omega (arith, c.if-out-total.true, (needed (goal.at.returns-then-out-total c).After-shared_slice_known-1).long))) (λ z. omega (arith, z)) c.refused-then-out-total.result c.refused-then-out-total.ensures in record {
      value = told.0;
      out_after = told.1;
    }

pub times_256-gain-requires : goal.times_256-gain-requires
times_256-gain-requires c =
    record {
      gain_value = gain-good (goal.at.times_256-gain-requires c).After-shared_slice_known-1;
      gain_value_2 = finite-bits (goal.at.times_256-gain-requires c).After-is_narrow (passes (test (goal.at.times_256-gain-requires c).After-is_narrow) c.if-not-is_narrow.false-raw);
    }

pub write_word-requires : goal.write_word-requires
write_word-requires c =
    let n = needed (goal.at.write_word-requires c).After-shared_slice_known-1 in
    record {
      order_bound = (n.order, n.least, n.small);
      two_in_bounds = n.room;
      two_in_bounds_2 = omega (arith, c.if-out-total.false);
    }

pub overflow_cast-result : goal.overflow_cast-result
overflow_cast-result c = omega (arith, (needed (goal.at.overflow_cast-result c).After-shared_slice_known-1).small)

pub returns : goal.returns
returns c =
    let n = needed (goal.at.returns c).After-shared_slice_known-1 in
    let o = c.args.o in
    let s = c.args.block.now in
    let out = c.args.out.now in
    let block : ℕ → List ℕ = word_block s o.start o.order (get_or o.layout.starts 6 0) (get_or o.layout.lengths 6 0 / 2) (get_or o.layout.lengths 7 0 / 2) in
    let told = narrows s out (says-narrow s (length out) (record { block = c.requires.1; gains = inr (passes (test (goal.at.returns c).After-is_narrow) c.if-not-is_narrow.false-raw); room = omega (arith, c.if-out-total.false, n.long) })) _ n.long _
    (c.write_word.ensures ∙ ap (λ (g : ℕ). splice out 0 (block g)) (c.times_256-gain.ensures ∙ ap times256 n.bits) ∙ ap (splice out 0) n.is) in record {
      value = told.0;
      out_after = told.1;
    }
