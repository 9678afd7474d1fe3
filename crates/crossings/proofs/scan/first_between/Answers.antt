-- Behind the samples passed over, the first of those left.
use mathlib.Core.Path.{sym}
use Prim.Native.Nat.{ℕ}
use lib.IntN.{ℤ}
use mir.Syntax.{w16}
use mir.Val.{of_z}
use borrow.Author.Rules.{rules}
use Rattle.fills.specs.Fills.{sample_at}
use Rattle.levels.specs.Levels.{between}
use Rattle.crossings.proofs.Firsts.{agreeing}
use Rattle.crossings.proofs.Scans.{bits_between, as_lent}
use Rattle.crossings.proofs.scan.first_between.Goals as goal

pub first_behind-requires : goal.first_behind-requires
first_behind-requires c = record {
  holds = search rules;
  done_le_count = c.passed-done.ensures.upper_bound;
  by_index = c.passed-done.ensures.by_index;
}

pub returns : goal.returns
returns c =
    let a = c.args in
    let f : ℕ → ℤ = sample_at a.order a.size a.block.now a.from in
    agreeing (λ k. bits_between (of_z w16 a.low) (of_z w16 a.high) (f k)) (λ k. between a.low a.high (f k)) a.count c.first_behind.result
    (λ j h. sym (as_lent a.low a.high (f j) c.ranges.low c.ranges.high)) c.first_behind.ensures
