-- A block of sixty-four samples is passed over where none of them is between.
use mathlib.Core.Path.{◌≡◌, refl, sym, ap, ap₂, ◌∙◌}
use mathlib.Core.Bool.{false}
use mathlib.Core.List.{List, map}
use Prim.Native.Nat.{ℕ, ◌/◌, ◌+◌, ◌*◌, ◌<◌}
use native.Mathlib.Omega.{arith}
use lib.IntN.{ℤ}
use lib.ListN.{length}
use mir.Syntax.{w16}
use mir.Val.{of_z}
use mir.ValLaws.{to_z-of_z}
use Rattle.rules.specs.Numbers.{up_from}
use Rattle.fills.specs.Fills.{sample_at}
use Rattle.fills.proofs.Sampling.{fewer}
use Rattle.fills.proofs.Writes.{length_map_up}
use Rattle.levels.specs.Levels.{between}
use Rattle.crossings.specs.Answers.{some?}
use Rattle.crossings.proofs.Scans.{bits_between, as_lent, block_next}
use Rattle.crossings.proofs.scan.passed.Goals as goal
use Rattle.crossings.proofs.scan.passed.Goals.{After-any_between, At-loop-b}

pub loop-b-init : goal.loop-b-init
loop-b-init c = record { samples_len = refl; none = λ j h. absurd (omega arith) }

pub read_samples-requires : goal.read_samples-requires
read_samples-requires c = record {
  holds = fewer c.requires _ (omega arith);
  samples_len = c.loop-b.invariant.samples_len;
}

pub any_between-requires : goal.any_between-requires
any_between-requires c =
    let a = c.args in
    ap length c.read_samples.ensures ∙ length_map_up (sample_at a.order a.size a.block.now a.from) _ 64

-- what is passed over, at the head of the loop
so_far : (c : At-loop-b) → (let a = c.args in
    (j : ℕ) → j < c.loop-b.b * 64 → between a.low a.high (sample_at a.order a.size a.block.now a.from j) ≡ false)
so_far c = λ j h. as_lent c.args.low c.args.high _ c.ranges.low c.ranges.high ∙ c.loop-b.invariant.none j h

-- what the comparisons say of the block that was read
has_one : (c : After-any_between)
    → (let a = c.args in
    some? (between a.low a.high) (map (sample_at a.order a.size a.block.now a.from) (up_from (c.loop-b.b * 64) 64)) ≡ c.any_between.result)
has_one c =
    let a = c.args in
    let t = bits_between (of_z w16 a.low) (of_z w16 a.high) in
    let zs : List ℤ = map (sample_at a.order a.size a.block.now a.from) (up_from (c.loop-b.b * 64) 64) in
    ap₂ (λ (x y : ℤ). some? (between x y) zs) (sym (to_z-of_z w16 a.low c.ranges.low)) (sym (to_z-of_z w16 a.high c.ranges.high))
    ∙ ap (some? t) (sym c.read_samples.ensures) ∙ sym c.any_between.ensures

pub returns-then-any_between : goal.returns-then-any_between
returns-then-any_between c = record {
  upper_bound = omega arith;
  by_index = so_far (goal.at.returns-then-any_between c).At-loop-b;
  result_value = λ h. has_one (goal.at.returns-then-any_between c).After-any_between ∙ c.if-any_between.true;
}

pub loop-b-preserved : goal.loop-b-preserved
loop-b-preserved c =
    let a = c.args in
    let l = c.loop-b in
    let n : ℕ = l.b * 64 in
    let r = c.read_samples in
    let f : ℕ → ℤ = sample_at a.order a.size a.block.now a.from in
    let e : n + 64 ≡ (l.b + 1) * 64 = omega arith in
    record {
      samples_len = ap length r.ensures ∙ length_map_up f n 64;
      none = rw e at (block_next (bits_between (of_z w16 a.low) (of_z w16 a.high)) f _ n r.ensures l.invariant.none (sym c.any_between.ensures ∙ c.if-any_between.false));
    }

pub returns : goal.returns
returns c =
    let whole : c.loop-b.b ≡ c.args.count / 64 = omega arith in
    let e : c.loop-b.b * 64 ≡ c.args.count / 64 * 64 = omega arith in
    record {
      upper_bound = omega arith;
      by_index = rw e at (so_far (goal.at.returns c).At-loop-b);
      result_value = λ h. absurd (omega arith);
    }
