use mathlib.Core.Path.{ap}
use Prim.Native.Nat.{ℕ, ◌+◌}
use Rattle.seen.proofs.Bits.{one_bit, word_fits}
use Rattle.seen.proofs.with_bit.Goals as goal

pub overflow_add-result : goal.overflow_add-result
overflow_add-result c = record { fits = word_fits c.args.word c.args.b c.requires.b_bound c.ranges.word.fits c.requires.b_value }

pub returns : goal.returns
returns c = ap (λ (n : ℕ). c.args.word + n) (one_bit c.args.b c.requires.b_bound)
