-- What was seen is 0 or 1, so not 1 is 0.
use native.Mathlib.Omega.{arith}
use Rattle.std.proofs.lemmas.Bool.Decides.{nat_tests}
use Rattle.seen.proofs.Bits.{seen_small}
use Rattle.arrivals.proofs.belongs.Goals as goal

pub returns-then-not-has : goal.returns-then-not-has
returns-then-not-has c = grind (arith, nat_tests, seen_small c.args.seen.now c.args.k)
