-- What `all` tells of the numbers in the range.
use mathlib.Core.Bool.{true, false}
use mathlib.Core.Path.{◌≡◌, refl}
use Prim.Native.Nat.{ℕ, ◌+◌}
use native.Mathlib.Omega.{arith}
use lib.Dec.{eqb}
use borrow.Author.Rules.{rules}
use Rattle.std.proofs.lemmas.Iterator.{cases_from_all, YieldsList-from_range}
use Rattle.seen.specs.Seen.{seen_of}
use Rattle.seen.proofs.Bits.{all_told}
use Rattle.seen.proofs.has_up_to.Goals as goal

pub returns : goal.returns
returns c =
    let ws = c.args.seen.now in
    all_told (λ (k : ℕ). eqb (seen_of ws k) 1) c.all.result c.args.n
    (cases_from_all _ _ _ (λ x. eqb (seen_of ws x) 1 ≡ true) (λ x. eqb (seen_of ws x) 1 ≡ false) c.all.ensures.ran (YieldsList-from_range 1 (c.args.n + 1) c.args.n refl (omega arith))
    (λ x q k. search rules) (λ x q k. search rules))
