-- What a crossing tells: its number (`number`), and where it is not refused its two numbers (`pair`), which take sixteen bytes (`crossing-length`).
use mathlib.Core.Path.{◌≡◌, refl, sym, ap, ◌∙◌}
use mathlib.Core.List.{List, [], ◌∷◌}
use mathlib.Core.Option.{Option, none, some}
use Prim.Native.Nat.{ℕ, zero, suc}
use lib.ListN.{length}
use lib.Ieee.{Float}
use Rattle.rules.specs.Numbers.{all_bytes}
use Rattle.rules.specs.Rules.{opened}
use Rattle.crossings.specs.declared.Told.{Told}
use Rattle.crossings.specs.declared.Crossing.{Crossing}
use Rattle.crossings.specs.Crossings.{crossing, crossing_refusal}
use Rattle.crossings.specs.Answers.{crossing_by, crossing_as, told_by}
use Rattle.tessarquin.specs.Calls.{crossing_numbers, crossing_bytes}
use Rattle.tessarquin.proofs.Slices.{pair-length}

told_number : (n : ℕ) (x : Option ℕ) → (told_by (crossing_by n x)).refusal ≡ n
told_number zero none = refl
told_number zero (some k) = refl
told_number (suc n) x = refl

told_pair : (x : Option ℕ) → (told_by (crossing_by 0 x)).found ∷ (told_by (crossing_by 0 x)).point ∷ [] ≡ crossing_numbers x
told_pair none = refl
told_pair (some k) = refl

module _ (s : List ℕ) (a n : ℕ) (level : Float) where
  pub crossing-length : length (crossing_bytes s a n level) ≡ 16
  crossing-length = go (crossing (opened s) a n level)
    where
      go : (x : Option ℕ) → length (all_bytes 0 8 (crossing_numbers x)) ≡ 16
      go none = pair-length 0 0
      go (some k) = pair-length 1 k

  module _ (x : Crossing) (e : x ≡ crossing_as s a n level) (t : Told) (f : t ≡ told_by x) where
    pub number : t.refusal ≡ crossing_refusal s a n level
    unfolding crossing_as
    number = ap (λ (u : Told). u.refusal) (f ∙ ap told_by e) ∙ told_number (crossing_refusal s a n level) (crossing (opened s) a n level)

    pub pair : t.refusal ≡ 0 → all_bytes 0 8 (t.found ∷ t.point ∷ []) ≡ crossing_bytes s a n level
    unfolding crossing_as
    pair z =
        ap (λ (u : Told). all_bytes 0 8 (u.found ∷ u.point ∷ [])) (f ∙ ap told_by (e ∙ ap (λ (m : ℕ). crossing_by m (crossing (opened s) a n level)) (sym number ∙ z)))
        ∙ ap (all_bytes 0 8) (told_pair (crossing (opened s) a n level))
