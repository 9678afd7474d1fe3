-- A crossing and the points of its segment, by their contracts. Where `first` answered a point, `point` answers it with a value at or above the level
-- (`crossed_there`), and each one before it with a value below (`below-before`); where `first` answered that there is none, each one (`below_all`). And what stands
-- behind the point answered does not count, in this block or in another (`first_reads`).
use mathlib.Core.Path.{◌≡◌, refl, sym, ap, ◌∙◌}
use mathlib.Core.Bool.{Bool, true, false}
use mathlib.Core.List.{List}
use mathlib.Core.Option.{Option, none, some}
use Prim.Native.Nat.{ℕ, zero, suc, ◌≤◌, ◌<◌}
use native.Mathlib.Omega.{arith}
use lib.Ieee.{Float}
use Rattle.rules.specs.Wave.{points}
use Rattle.rules.specs.Rules.{opened}
use Rattle.rules.specs.Points.{sample, value, time, mark, point_refusal}
use Rattle.rules.proofs.Asked.{point_says}
use Rattle.points.specs.declared.answers.Point.{Point}
use Rattle.points.proofs.Bounds.{point_number, point_answer}
use Rattle.points.proofs.Learnt.{PointCall}
use Rattle.crossings.specs.declared.Crossing.{Crossing}
use Rattle.crossings.specs.declared.Crossing.TheVariants.{At, Nowhere}
use Rattle.crossings.specs.Crossings.{reaches, crossing, crossing_refusal}
use Rattle.crossings.specs.Answers.{crossing_by, crossing_as, told_by}
use Rattle.crossings.proofs.Crossings.{Crosses, not_yet, crossing-at, crossing_none, crossing_reads, asked}
use Rattle.crossings.proofs.Calls.{FirstCall}

-- ---- what an answer says of the definition

at_by : (n : ℕ) (x : Option ℕ) (k : ℕ) → At k ≡ crossing_by n x → (n ≡ 0) × (x ≡ some k)
at_by zero none k e = absurd (omega (arith, ap (λ (y : Crossing). (told_by y).found) e))
at_by zero (some j) k e = (refl, ap some (sym (ap (λ (y : Crossing). (told_by y).point) e)))
at_by (suc n) x k e = absurd (omega (arith, ap (λ (y : Crossing). (told_by y).refusal) e))

nowhere_by : (n : ℕ) (x : Option ℕ) → Nowhere ≡ crossing_by n x → (n ≡ 0) × (x ≡ none)
nowhere_by zero none e = (refl, refl)
nowhere_by zero (some j) e = absurd (omega (arith, ap (λ (y : Crossing). (told_by y).found) e))
nowhere_by (suc n) x e = absurd (omega (arith, ap (λ (y : Crossing). (told_by y).refusal) e))

module _ (s : List ℕ) (a n : ℕ) (level : Float) where
  pub at-says : (k : ℕ) → FirstCall s a n level (At k) → (crossing_refusal s a n level ≡ 0) × (crossing (opened s) a n level ≡ some k)
  unfolding crossing_as
  at-says k call = at_by (crossing_refusal s a n level) (crossing (opened s) a n level) k call.2

  pub nowhere_says : FirstCall s a n level Nowhere → (crossing_refusal s a n level ≡ 0) × (crossing (opened s) a n level ≡ none)
  unfolding crossing_as
  nowhere_says call = nowhere_by (crossing_refusal s a n level) (crossing (opened s) a n level) call.2

-- ---- the points

-- what a call of `point` answered: it is not refused, and whether its value is at or above the level is t
pub record Answers (level : Float) (p : Point) (t : Bool) : Type 0 where
  pub taken : p.refusal ≡ 0
  pub compared : reaches level p.value ≡ t

module _ (s : List ℕ) (a n : ℕ) (level : Float) where
  answers : (k : ℕ) (p : Point) → point_refusal s a n k ≡ 0 → PointCall s a n k p → (t : Bool) → reaches level (value (opened s) a n k) ≡ t → Answers level p t
  answers k p z call t e =
      let q : p ≡ record { refusal = 0; value = value (opened s) a n k; time = time (opened s) n k; mark = mark (opened s) a n k } = call.2 ∙ point_answer s a n k z in
      record { taken = ap (λ (x : Point). x.refusal) q; compared = ap (λ (x : Point). reaches level x.value) q ∙ e }

  module _ (k : ℕ) (call : FirstCall s a n level (At k)) where
    crosses : Crosses (opened s) a n level k
    crosses = (crossing-at (opened s) a n level k).0 (at-says s a n level k call).1

    pub crossed_there : (p : Point) → PointCall s a n k p → Answers level p true
    crossed_there p c = answers k p (asked s a n level (at-says s a n level k call).0 k crosses.inside) c true crosses.above

    pub below-before : (j : ℕ) → j < k → (p : Point) → PointCall s a n j p → Answers level p false
    below-before j l p c =
        answers j p (asked s a n level (at-says s a n level k call).0 j (omega (arith, crosses.inside))) c false (not_yet (opened s) a n level k crosses j l)

  pub below_all : FirstCall s a n level Nowhere → (j : ℕ) (p : Point) → PointCall s a n j p → p.refusal ≡ 0 → Answers level p false
  below_all call j p c z =
      let e : point_refusal s a n j ≡ 0 = sym (point_number s a n j) ∙ sym (ap (λ (x : Point). x.refusal) c.2) ∙ z in
      answers j p e c false ((crossing_none (opened s) a n level).0 (nowhere_says s a n level call).1 j (point_says s a n j e).1.point)

-- a call on a segment, of this block or another, that has the same gain, offset and samples up to the point answered: the same point
pub first_reads : (s t : List ℕ) (a n b m : ℕ) (level : Float) (k : ℕ) (y : Crossing) → FirstCall s a n level (At k) → FirstCall t b m level y → crossing_refusal t b m level ≡ 0
    → k < points (opened t).head → (opened t).head 156 ≡ (opened s).head 156 → (opened t).head 160 ≡ (opened s).head 160
    → ((j : ℕ) → j ≤ k → sample (opened t) b m j ≡ sample (opened s) a n j) → y ≡ At k
unfolding crossing_as
first_reads s t a n b m level k y p q z l g o x =
    q.2 ∙ (λ i. crossing_by (z i) (crossing_reads (opened t) (opened s) b m a n level k (at-says s a n level k p).1 l g o x i))
