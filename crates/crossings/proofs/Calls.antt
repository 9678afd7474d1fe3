-- What a call of `first` answers: the first sample between the bounds is the first value at or above the level (`first_is`); refused calls (`by_block`,
-- `by_level`, `by_segment`); the point, or none (`at_point`, `at_none`). Last, by the contract: one answer for one input (`first_determined`), and for the
-- same payload under another accepted header (`first-same`).
use mathlib.Core.Path.{◌≡◌, refl, sym, ap, ◌∙◌}
use mathlib.Core.Bool.{Bool, true, false}
use mathlib.Core.List.{List}
use Prim.Native.Nat.{ℕ, zero, suc, ◌+◌, ◌^◌, ◌≤◌, ◌<◌}
use native.Mathlib.Omega.{arith}
use lib.ListN.{get_or}
use lib.IntN.{ℤ}
use lib.Signed.{mag}
use lib.Ieee.{Float, le}
use lib.Ieee.Scale.{finite}
use contract.Lifetimes.{Lfts}
use denote.Ref.{Bor}
use Rattle.rules.specs.Numbers.{Bytes}
use Rattle.rules.specs.Wave.{points}
use Rattle.rules.specs.Rules.{first, opened}
use Rattle.rules.specs.Cut.{or_else}
use Rattle.rules.specs.Points.{value_of, value, point_refusal}
use Rattle.rules.proofs.Tests.{or_some}
use Rattle.rules.proofs.Headers.{SameAnswers}
use Rattle.fills.specs.Fills.{sample_at, value_at}
use Rattle.fills.proofs.Sampling.{in_word}
use Rattle.block.specs.declared.Opened.{Opened}
use Rattle.block.specs.Opened.{opened_as}
use Rattle.block.proofs.Answers.{number_is}
use Rattle.points.specs.Steps.{samples_by, segment_rules_by, Lent}
use Rattle.points.proofs.Refusals.{walk_none, walk_block, walk_segment}
use Rattle.points.proofs.Values.{kind_small, value_is}
use Rattle.points.proofs.Fillings.{each}
use Rattle.levels.specs.Levels.{between}
use Rattle.crossings.specs.Crossings.{reaches, first_from, crossing, crossing_refusal}
use Rattle.crossings.specs.declared.Crossing.{Crossing}
use Rattle.crossings.specs.declared.Crossing.TheVariants.{At, Nowhere, Refused}
use Rattle.crossings.specs.Answers.{crossing_by, crossing_as, First}
use Rattle.crossings.proofs.Firsts.{found_at, found_none, agreeing}
use Rattle.crossings.proofs.Crossings.{crossing_as_walk, crossing_level}
use Rattle.crossings.proofs.first.Reads as reads

-- ---- the samples of an accepted block, where they stand

module _ (s : List ℕ) (b : Bytes s) (o : Opened) (a n : ℕ) (l : Lent s o a n 0) (level : Float) where
  pub first_is : (low high : ℤ) → ((z : ℤ) → mag z < 2 ^ 15 → le level (value_of o.calibration.gain o.calibration.offset z) ≡ between low high z)
      → (from k : ℕ) → from ≡ samples_by o a n → First (λ j. between low high (sample_at o.order (o.kind + 1) s from j)) o.points k → First (λ j. reaches level (value (opened s) a n j)) o.points k
  unfolding reaches
  first_is low high h from k e f = agreeing (λ j. between low high (sample_at o.order (o.kind + 1) s from j)) (λ j. reaches level (value (opened s) a n j)) o.points k same f
    where
      same : (j : ℕ) → j < o.points → between low high (sample_at o.order (o.kind + 1) s from j) ≡ reaches level (value (opened s) a n j)
      same j i =
          ap (λ (x : ℕ). between low high (sample_at o.order (o.kind + 1) s x j)) e
          ∙ sym (h (sample_at o.order (o.kind + 1) s (samples_by o a n) j) (in_word o.order (o.kind + 1) s (samples_by o a n) j b (omega arith, omega (arith, kind_small s b o a n 0 l))))
          ∙ ap (le level) (unfold value_at in value_is s b o a n j (each s b o a n l j i))

-- ---- refused calls

module _ (s : List ℕ) (a n : ℕ) (level : Float) where
  pub refused : (m : ℕ) → m ≡ crossing_refusal s a n level → (m ≡ 0 → ⊥) → Refused m ≡ crossing_as s a n level
  unfolding crossing_as
  refused m e h = at m h ∙ ap (λ (k : ℕ). crossing_by k (crossing (opened s) a n level)) e
    where
      at : (m : ℕ) → (m ≡ 0 → ⊥) → Refused m ≡ crossing_by m (crossing (opened s) a n level)
      at zero h = absurd (h refl)
      at (suc m) h = refl

  module _ (o : Opened) (e : o ≡ opened_as s) where
    pub by_block : (o.refusal ≡ 0 → ⊥) → o.refusal ≡ crossing_refusal s a n level
    by_block h = go (finite level) refl
      where
        go : (b : Bool) → finite level ≡ b → o.refusal ≡ crossing_refusal s a n level
        go true f = walk_block s a n o e h ∙ sym (crossing_as_walk s a n level f)
        go false f = or_some o.refusal 9 h ∙ ap (λ (k : ℕ). or_else k 9) (number_is s o e) ∙ sym (crossing_level s a n level f)

    module _ (z : o.refusal ≡ 0) where
      pub by_level : finite level ≡ false → 9 ≡ crossing_refusal s a n level
      by_level f = ap (λ (k : ℕ). or_else k 9) (sym z ∙ number_is s o e) ∙ sym (crossing_level s a n level f)

      pub by_segment : finite level ≡ true → (c : ℕ) → c ≡ first (segment_rules_by a n (get_or o.layout.lengths 7 0) o.segments) → (c ≡ 0 → ⊥) → c ≡ crossing_refusal s a n level
      by_segment f c ec h = walk_segment s a n o e z c ec h ∙ sym (crossing_as_walk s a n level f)

  -- ---- the point, or none

  module _ (m k : ℕ) (em : m ≡ points (opened s).head) (f : finite level ≡ true) (p : point_refusal s a n 0 ≡ 0) (r : First (λ j. reaches level (value (opened s) a n j)) m k) where
    abbrev reached : ℕ → Bool
    reached j = reaches level (value (opened s) a n j)

    taken : crossing_refusal s a n level ≡ 0
    taken = crossing_as_walk s a n level f ∙ walk_none s a n 0 p

    pub at_point : k < m → At k ≡ crossing_as s a n level
    unfolding crossing_as crossing
    at_point h = sym (λ i. crossing_by (taken i) ((ap (λ (x : ℕ). first_from reached 0 x) (sym em) ∙ found_at reached m k r h) i))

    pub at_none : m ≤ k → Nowhere ≡ crossing_as s a n level
    unfolding crossing_as crossing
    at_none h = sym (λ i. crossing_by (taken i) ((ap (λ (x : ℕ). first_from reached 0 x) (sym em) ∙ found_none reached m k r h) i))

-- ---- the call by its contract

-- What the caller of `first` learns, as the checker has it from the `ensures`: lent a block of the bytes s, the call answered x. `record b { now = s }` is the slice b with
-- the bytes s in it
abbrev pub FirstCall : List ℕ → ℕ → ℕ → Float → Crossing → Type 0
FirstCall s a n level x = (κs : Lfts 1) × (b : Bor (List ℕ)) × reads.Learnt κs (record b { now = s }, (a, (n, (level, tt)))) x (record b { now = s }, (a, (n, (level, tt))))

pub first_determined : (s : List ℕ) (a n : ℕ) (level : Float) (x y : Crossing) → FirstCall s a n level x → FirstCall s a n level y → x ≡ y
first_determined s a n level x y p q = p.2 ∙ sym q.2

-- the same payload under two accepted headers: the same answer
pub same-refusal : (s t : List ℕ) → SameAnswers s t → (a n : ℕ) (level : Float) → crossing_refusal t a n level ≡ crossing_refusal s a n level
same-refusal s t e a n level = go (finite level) refl
  where
    go : (b : Bool) → finite level ≡ b → crossing_refusal t a n level ≡ crossing_refusal s a n level
    go true f = crossing_as_walk t a n level f ∙ e.same_walk a n ∙ sym (crossing_as_walk s a n level f)
    go false f = crossing_level t a n level f ∙ ap (λ (m : ℕ). or_else m 9) e.same_number ∙ sym (crossing_level s a n level f)

pub same-crossing : (s t : List ℕ) → SameAnswers s t → (a n : ℕ) (level : Float) → crossing_as t a n level ≡ crossing_as s a n level
unfolding crossing_as
same-crossing s t e a n level = λ i. crossing_by (same-refusal s t e a n level i) (crossing (e.same-wave i) a n level)

pub first-same : (s t : List ℕ) → SameAnswers s t → (a n : ℕ) (level : Float) (x y : Crossing) → FirstCall s a n level x → FirstCall t a n level y → y ≡ x
first-same s t e a n level x y p q = q.2 ∙ same-crossing s t e a n level ∙ sym p.2
