-- Samples of two bytes, and one float for each.
use native.Mathlib.Nat.{mul-one}
use native.Mathlib.Omega.{arith}
use borrow.Author.Rules.{rules}
use Rattle.rules.specs.Numbers.{up_from}
use Rattle.fills.specs.Fills.{value_at, values_at}
use Rattle.fills.proofs.Writes.{flatten_ones}
use Rattle.fills.proofs.fill_words.Goals as goal

pub fill-requires : goal.fill-requires
fill-requires c = record {
  finite_value = search rules;
  holds = record { narrow = (omega arith, omega arith); inside = omega arith };
  count_in_bounds = omega arith;
}

pub returns-clause-out_after : goal.returns-clause-out_after
unfolding values_at
returns-clause-out_after c = let a = c.args in rw (mul-one, flatten_ones (value_at a.c.gain a.c.offset a.order 2 a.block.now a.from) (up_from 0 a.count)) at c.fill.ensures.out_after
