-- Five words, one behind the other.
use mathlib.Core.List.{List, [], ◌∷◌}
use Prim.Native.Nat.{ℕ}
use native.Mathlib.Omega.{arith}
use Rattle.digits.specs.Digits.{decimal}
use Rattle.listing.proofs.Texts.{word_line}
use Rattle.listing.proofs.lines.put_first.Goals as goal

pub returns : goal.returns
returns c =
    let a = c.args in
    let g : List ℕ = decimal a.segments in
    let m : List ℕ = decimal a.points in
    let n : List ℕ = decimal a.arrays in
    let o : List ℕ = decimal a.order in
    let t : List ℕ = decimal a.kind in record {
      wrote = word_line g m (n ∷ o ∷ t ∷ []) c.put_decimal-a.ensures.wrote
          (word_line m n (o ∷ t ∷ []) c.put_decimal-b.ensures.wrote
          (word_line n o (t ∷ []) c.put_decimal-c.ensures.wrote (word_line o t [] c.put_decimal-d.ensures.wrote c.put_decimal.ensures.wrote (omega arith)) (omega arith))
          (omega arith))
          (omega arith);
      upper_bound = omega arith;
    }
