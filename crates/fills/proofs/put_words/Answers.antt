-- Samples of two bytes.
use native.Mathlib.Omega.{arith}
use borrow.Author.Rules.{rules}
use Rattle.fills.specs.Fills.{bits_at}
use Rattle.fills.proofs.put_words.Goals as goal

pub fill-requires : goal.fill-requires
fill-requires c = record {
  finite_value = search rules;
  holds = record { narrow = (omega arith, omega arith); inside = omega arith };
  count_in_bounds = search rules;
}

pub returns-clause-out_after : goal.returns-clause-out_after
unfolding bits_at
returns-clause-out_after c = c.fill.ensures.out_after
