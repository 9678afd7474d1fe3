-- What a crossing answers: the least number of a point whose value is at or above the level (`crossing-at`), none where no value is (`crossing_none`), and
-- nothing behind that point counts (`crossing_reads`). And when it is refused: with a finite level as a walk is (`crossing_as_walk`), with another by 9
-- (`crossing_level`).
use mathlib.Core.Path.{◌≡◌, refl, sym, ap, ap₂, ◌∙◌}
use mathlib.Core.Logic.{◌↔◌}
use Prim.Native.Nat.{ℕ, zero, suc, ◌≤◌, ◌<◌}
use native.Mathlib.Omega.{arith}
use mathlib.Core.Bool.{Bool, true, false, false≢true}
use mathlib.Core.List.{List, [], ◌∷◌, ◌++◌}
use mathlib.Core.Option.{none, some}
use lib.Dec.{ltb}
use lib.Ieee.{Float, binary32, of_bits}
use lib.Ieee.Scale.{finite}
use borrow.Author.Tests.{ltb-true, ltb-false}
use Rattle.rules.specs.Wave.{Wave, points}
use Rattle.rules.specs.Rules.{first, rules, inner, refusal, opened}
use Rattle.rules.specs.Cut.{or_else}
use Rattle.rules.specs.Points.{sample, value_of, value, chosen, inside, segment_rules, walk_refusal, point_refusal}
use Rattle.rules.proofs.Tests.{first_append}
use Rattle.rules.proofs.Opened.{rules_numbered}
use Rattle.points.proofs.Refusals.{walk_points}
use Rattle.crossings.specs.Crossings.{reaches, first_from, crossing, crossing_rules, crossing_refusal}
use Rattle.crossings.specs.Answers.{First}
use Rattle.crossings.proofs.Firsts.{found_at, found_none, at_found, none_found}

-- ---- the answer

-- k is the least number of a point of segment n of array a whose value is at or above the level
pub record Crosses (w : Wave) (a n : ℕ) (level : Float) (k : ℕ) : Type 0 where
  pub inside : k < points w.head
  pub above : reaches level (value w a n k) ≡ true
  pub least : (j : ℕ) → j < points w.head → reaches level (value w a n j) ≡ true → k ≤ j

module _ (w : Wave) (a n : ℕ) (level : Float) where
  abbrev reached : ℕ → Bool
  reached k = reaches level (value w a n k)

  -- no point before it is there
  pub not_yet : (k : ℕ) → Crosses w a n level k → (j : ℕ) → j < k → reaches level (value w a n j) ≡ false
  not_yet k c j l = go (reached j) refl
    where
      go : (b : Bool) → reached j ≡ b → reached j ≡ false
      go true e = absurd (omega (arith, c.least j (omega (arith, c.inside)) e))
      go false e = e

  pub crossing-at : (k : ℕ) → (crossing w a n level ≡ some k) ↔ Crosses w a n level k
  unfolding crossing
  crossing-at k = (to, from)
    where
      up : (j : ℕ) → reached j ≡ true → First reached (points w.head) k → (b : Bool) → ltb j k ≡ b → k ≤ j
      up j h f true e = absurd (false≢true (sym (f.fails j (ltb-true j k e)) ∙ h))
      up j h f false e = ltb-false j k e

      to : first_from reached 0 (points w.head) ≡ some k → Crosses w a n level k
      to e = let f = at_found reached (points w.head) k e in record { inside = f.1; above = f.0.passes f.1; least = λ j l h. up j h f.0 (ltb j k) refl }

      from : Crosses w a n level k → first_from reached 0 (points w.head) ≡ some k
      from c = found_at reached (points w.head) k (record { within = omega (arith, c.inside); passes = λ h. c.above; fails = not_yet k c }) c.inside

  pub crossing_none : (crossing w a n level ≡ none) ↔ ((k : ℕ) → k < points w.head → reaches level (value w a n k) ≡ false)
  unfolding crossing
  crossing_none = (
    (λ e. (none_found reached (points w.head) e).fails),
    (λ h. found_none reached (points w.head) (points w.head) (record { within = omega arith; passes = λ l. absurd (omega arith); fails = h }) (omega arith)),
  )

-- only the gain, the offset and the samples up to the point answered count: whatever stands behind it, in this block or in another
pub crossing_reads : (v w : Wave) (b m a n : ℕ) (level : Float) (k : ℕ) → crossing w a n level ≡ some k → k < points v.head
    → v.head 156 ≡ w.head 156 → v.head 160 ≡ w.head 160 → ((j : ℕ) → j ≤ k → sample v b m j ≡ sample w a n j) → crossing v b m level ≡ some k
unfolding crossing value
crossing_reads v w b m a n level k e l g o x =
    let f = at_found (reached w a n level) (points w.head) k e in
    found_at (reached v b m level) (points v.head) k
    (record { within = omega arith; passes = λ h. alike k (omega arith) ∙ f.0.passes f.1; fails = λ j h. alike j (omega arith) ∙ f.0.fails j h })
    l
  where
    alike : (j : ℕ) → j ≤ k → reaches level (value v b m j) ≡ reaches level (value w a n j)
    alike j h =
        ap (reaches level)
        (ap₂ (λ (p q : ℕ). value_of (of_bits binary32 p) (of_bits binary32 q) (sample v b m j)) g o ∙ ap (value_of (of_bits binary32 (w.head 156)) (of_bits binary32 (w.head 160))) (x j h))

-- ---- refusals

module _ (s : List ℕ) (a n : ℕ) (level : Float) where
  -- with a finite level a crossing is refused as a walk is: as a point, without 11
  pub crossing_as_walk : finite level ≡ true → crossing_refusal s a n level ≡ walk_refusal s a n
  unfolding crossing_refusal crossing_rules walk_refusal segment_rules rules inner
  crossing_as_walk e = ap (λ (b : Bool). first (rules s ++ ((9, b ∷ chosen a (opened s).head) ∷ (10, inside n (opened s).head) ∷ []))) e

  -- and with any other by 9, behind 1 to 8 and 20
  pub crossing_level : finite level ≡ false → crossing_refusal s a n level ≡ or_else (refusal s) 9
  unfolding crossing_refusal crossing_rules refusal
  crossing_level e =
      first_append (rules s) (crossing_rules a n level (opened s).head) (rules_numbered s)
      ∙ ap (λ (b : Bool). or_else (first (rules s)) (first ((9, b ∷ chosen a (opened s).head) ∷ (10, inside n (opened s).head) ∷ []))) e

  -- an accepted one has a finite level
  pub level_finite : crossing_refusal s a n level ≡ 0 → finite level ≡ true
  level_finite e = go (finite level) refl
    where
      nine : (m : ℕ) → or_else m 9 ≡ 0 → ⊥
      nine zero e = omega (arith, e)
      nine (suc m) e = omega (arith, e)

      go : (b : Bool) → finite level ≡ b → finite level ≡ true
      go true q = q
      go false q = absurd (nine (refusal s) (sym (crossing_level q) ∙ e))

  -- and each point of its segment is answered
  pub asked : crossing_refusal s a n level ≡ 0 → (j : ℕ) → j < points (opened s).head → point_refusal s a n j ≡ 0
  asked z = walk_points s a n (sym (crossing_as_walk (level_finite z)) ∙ z)
