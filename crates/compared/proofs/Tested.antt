-- What is left in a slice: a part with room is copied (`copied-fits`) and one without is not (`copied_short`); a walk to its end fills a slice (`steps_full`) unless it is refused (`steps_refused`).
use mathlib.Core.Path.{◌≡◌, refl, sym, ap, ◌∙◌}
use mathlib.Core.Bool.{Bool, cond}
use mathlib.Core.List.{List, ◌++◌, map}
use Prim.Native.Nat.{ℕ, zero, suc, ◌≤◌, ◌<◌}
use lib.ListN.{length, drop}
use borrow.Author.Tests.{le-leb, lt-leb}
use Rattle.rules.specs.Numbers.{up_from}
use Rattle.rules.specs.Wave.{points}
use Rattle.rules.specs.Rules.{opened}
use Rattle.points.specs.Points.{out_by}
use Rattle.compared.specs.Tested.{copied, steps_left}

module _ {A : Type 0} (part out : List A) where
  pub copied-fits : length part ≤ length out → part ++ drop (length part) out ≡ copied part out
  copied-fits h = ap (λ (t : Bool). cond t (part ++ drop (length part) out) out) (sym (le-leb (length part) (length out) h))

  pub copied_short : length out < length part → out ≡ copied part out
  copied_short h = ap (λ (t : Bool). cond t (part ++ drop (length part) out) out) (sym (lt-leb (length part) (length out) h))

module _ {A : Type 0} (s : List ℕ) (number : ℕ) (f : ℕ → A) (out : List A) where
  pub steps_refused : (number ≡ 0 → ⊥) → out ≡ steps_left s number f out
  steps_refused = go number
    where
      go : (m : ℕ) → (m ≡ 0 → ⊥) → out ≡ steps_left s m f out
      go zero h = absurd (h refl)
      go (suc m) h = refl

  pub steps_full : (m : ℕ) → number ≡ 0 → m ≡ points (opened s).head → map f (up_from 0 m) ++ drop m out ≡ steps_left s number f out
  steps_full m z e =
      let full : List A = map f (up_from 0 (points (opened s).head)) ++ drop (points (opened s).head) out in
      ap (λ (k : ℕ). map f (up_from 0 k) ++ drop k out) e ∙ ap (λ (k : ℕ). out_by k full out) (sym z)
