-- A mark is a number of one digit.
use mathlib.Core.Path.{sym, ap, ◌∙◌}
use mathlib.Core.List.{[], ◌∷◌, ◌++◌}
use Prim.Native.Nat.{ℕ}
use native.Mathlib.Omega.{arith}
use Rattle.rules.specs.Points.{mark_number}
use Rattle.digits.specs.Digits.{spelled}
use Rattle.points.proofs.Values.{mark-from}
use Rattle.listing.proofs.Texts.{places-mark, worded}
use Rattle.listing.proofs.text.put_mark.Goals as goal

pub returns : goal.returns
returns c =
    let a = c.args in
    let e = ap (λ (n : ℕ). spelled 10 1 n ++ (a.end ∷ [])) (c.from.ensures ∙ mark-from a.mark) ∙ ap (λ (w : ℕ). spelled 10 w (mark_number a.mark) ++ (a.end ∷ [])) (sym (places-mark a.mark)) in
    record {
      wrote = worded e c.put_word.ensures.wrote;
      value = omega (arith, c.put_word.ensures.value);
    }
