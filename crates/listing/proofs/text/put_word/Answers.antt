-- The digits, and the byte behind them.
use mathlib.Core.Path.{◌≡◌, refl, ap, ◌∙◌}
use mathlib.Core.List.{List, [], ◌∷◌}
use Prim.Native.Nat.{ℕ, ◌+◌}
use native.Mathlib.Omega.{arith}
use lib.ListN.{length, set, length-append}
use Rattle.digits.specs.Digits.{spelled}
use Rattle.digits.proofs.Spelled.{length-spelled}
use Rattle.listing.proofs.Texts.{set_last}
use Rattle.listing.proofs.text.put_word.Goals as goal

pub returns : goal.returns
returns c =
    let a = c.args in
    let xs : List ℕ = spelled a.base a.width a.n in
    let n : length xs ≡ a.width = length-spelled a.base a.width a.n in record {
      wrote = record {
        leaves = ap (λ (l : List ℕ). set l (a.at + a.width) a.end) c.put_digits.ensures ∙ set_last a.out.now a.at a.width xs a.end n (omega arith);
        ends = omega (arith, length-append xs (a.end ∷ []));
      };
      value = refl;
    }
