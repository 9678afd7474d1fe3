-- Samples of one byte, which are the same in every order.
use mathlib.Core.Path.{ap, ◌∙◌}
use mathlib.Core.List.{◌++◌, map, flatten}
use Prim.Native.Nat.{ℕ, ◌*◌}
use native.Mathlib.Omega.{arith}
use lib.IntN.{ℤ}
use lib.ListN.{drop}
use borrow.Author.Rules.{rules}
use Rattle.rules.specs.Numbers.{up_from}
use Rattle.rules.specs.Points.{value_of, mark_count_of}
use Rattle.fills.specs.Fills.{bits_of, value_at, bits_at, mark_count_at}
use Rattle.fills.proofs.Sampling.{any_order}
use Rattle.fills.proofs.put_bytes.Goals as goal

pub fill-requires : goal.fill-requires
fill-requires c = record {
  finite_value = search rules;
  holds = record { narrow = (omega arith, omega arith); inside = omega arith };
  count_in_bounds = search rules;
}

pub returns : goal.returns
unfolding value_at bits_at mark_count_at
returns c =
    let a = c.args in
    record {
      by_index = λ o. c.fill.ensures.out_after ∙ ap (λ (f : ℕ → ℤ). flatten (map (λ k. bits_of (value_of a.c.gain a.c.offset (f k))) (up_from 0 a.count)) ++ drop (a.count * 8) a.out.now) (any_order 0 o a.block.now a.from);
      by_index_2 = λ o. c.fill.ensures.value ∙ ap (λ (f : ℕ → ℤ). mark_count_of 1 (map f (up_from 0 a.count))) (any_order 0 o a.block.now a.from);
    }
