-- As many digits as the number has.
use mathlib.Core.Path.{ap, ◌∙◌}
use mathlib.Core.List.{[], ◌∷◌, ◌++◌}
use Prim.Native.Nat.{ℕ, ◌≤◌}
use native.Mathlib.Omega.{arith}
use Rattle.digits.specs.Digits.{spelled, places, decimal}
use Rattle.digits.proofs.Spelled.{places_few}
use Rattle.listing.proofs.Texts.{worded}
use borrow.Author.Rules.{rules}
use Rattle.listing.proofs.text.put_decimal.Goals as goal

pub put_word-requires : goal.put_word-requires
put_word-requires c =
    let n = c.from-n in
    let p : places n.result ≤ 10 = places_few n.result (omega (arith, n.ensures)) in
    record {
      base_nonzero = search rules;
      width_in_bounds = omega (arith, c.places.ensures);
    }

pub returns : goal.returns
returns c =
    let a = c.args in
    let e = c.places.ensures in
    let n = c.from-n in
    let p : places n.result ≤ 10 = places_few n.result (omega (arith, n.ensures)) in
    record {
      wrote = worded (ap (λ (w : ℕ). spelled 10 w n.result ++ (a.end ∷ [])) e ∙ ap (λ (m : ℕ). decimal m ++ (a.end ∷ [])) n.ensures) c.put_word.ensures.wrote;
      lower_bound = (omega (arith, c.put_word.ensures.value), omega (arith, c.put_word.ensures.value));
    }
