-- Five words, one behind the other.
use mathlib.Core.List.{List, [], ◌∷◌}
use Prim.Native.Nat.{ℕ}
use native.Mathlib.Omega.{arith}
use Rattle.rules.specs.Points.{mark_number}
use Rattle.digits.specs.Digits.{decimal, hex}
use Rattle.listing.proofs.Texts.{word_line}
use Rattle.listing.proofs.lines.put_point.Goals as goal

pub returns : goal.returns
returns c =
    let a = c.args in
    let n : List ℕ = decimal a.segment in
    let k : List ℕ = decimal a.k in
    let v : List ℕ = hex a.value in
    let t : List ℕ = hex a.time in
    let m : List ℕ = decimal (mark_number a.mark) in record {
      wrote = word_line n k (v ∷ t ∷ m ∷ []) c.put_decimal-a.ensures.wrote
          (word_line k v (t ∷ m ∷ []) c.put_decimal-b.ensures.wrote
          (word_line v t (m ∷ []) c.put_hex-c.ensures.wrote (word_line t m [] c.put_hex-d.ensures.wrote c.put_mark.ensures.wrote (omega arith)) (omega arith))
          (omega arith))
          (omega arith);
      lower_bound = (omega arith, omega arith);
    }
