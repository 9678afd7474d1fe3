-- The word and its blank, then the number.
use mathlib.Core.Path.{refl}
use mathlib.Core.List.{List, [], ◌∷◌}
use Prim.Native.Nat.{ℕ}
use native.Mathlib.Omega.{arith}
use Rattle.listing.specs.Listing.{refused_line}
use Rattle.copies.specs.Copies.{Wrote}
use Rattle.copies.proofs.Laws.{behind}
use Rattle.listing.proofs.lines.put_refused.Goals as goal

abbrev word : List ℕ
word = 114 ∷ 101 ∷ 102 ∷ 117 ∷ 115 ∷ 101 ∷ 100 ∷ 32 ∷ []

pub returns : goal.returns
unfolding refused_line
returns c =
    let a = c.args in
    let w : Wrote a.out.now 0 word _ 8 = record { leaves = c.copy_bytes.ensures; ends = refl } in
    record {
      wrote = behind w c.put_decimal.ensures.wrote (omega arith);
      upper_bound = omega arith;
    }
