-- A fill by the walk: its number is the walk's, then 13 (`number-refused`, `number_short`, `number_none`); a step hands out the next value (`handed`) until all are out (`stopped`).
use Rattle.std.specs.Prelude.{Option, Some, None}
use mathlib.Core.Path.{◌≡◌, refl, sym, ap, ◌∙◌}
use mathlib.Core.Bool.{Bool, cond}
use mathlib.Core.List.{List, ◌++◌, map}
use mathlib.Core.Logic.{⊎_elim}
use Prim.Native.Nat.{ℕ, zero, suc, ◌≤◌, ◌<◌}
use native.Mathlib.Nat.{eq-or-lt_of_le}
use native.Mathlib.Omega.{arith}
use lib.Dec.{leb}
use lib.ListN.{drop}
use borrow.Author.Tests.{le-leb, lt-leb}
use Rattle.rules.specs.Numbers.{Bytes, up_from}
use Rattle.rules.specs.Wave.{points}
use Rattle.rules.specs.Rules.{rules, opened}
use Rattle.rules.specs.Points.{value, time, mark, segment_rules, walk_refusal, fill_refusal}
use Rattle.rules.specs.Cut.{or_else}
use Rattle.rules.proofs.Tests.{first_last}
use Rattle.rules.proofs.Opened.{rules_numbered}
use Rattle.fills.specs.Fills.{over}
use Rattle.fills.proofs.Writes.{over-start, length_map_up}
use Rattle.points.specs.declared.answers.Point as answers
use Rattle.points.specs.declared.walk.Place.{Place}
use Rattle.points.specs.declared.walk.TimedPoint.{TimedPoint}
use Rattle.points.specs.Walks.{timed, place_of, step_at, place_after}
use Rattle.points.proofs.Refusals.{walk_points}
use Rattle.points.proofs.Bounds.{point_answer}
use Rattle.points.proofs.Walking.{place-number, begins, walk_steps, walk_ends}

-- where as many are written as there are points, all are
pub all-written : {A : Type 0} (f : ℕ → A) (old out : List A) (k m : ℕ) → k ≡ m → out ≡ over old 0 (map f (up_from 0 k)) → out ≡ map f (up_from 0 m) ++ drop m old
all-written f old out k m e x = rw e at (x ∙ over-start old (map f (up_from 0 k)) k (length_map_up f 0 k))

module _ (s : List ℕ) (a n : ℕ) where
  abbrev M : ℕ
  M = points (opened s).head

  -- ---- the number

  -- the walk's, then 13
  by_walk : (room : ℕ) → fill_refusal s a n room ≡ or_else (walk_refusal s a n) (cond (leb M room) 0 13)
  unfolding fill_refusal walk_refusal segment_rules
  by_walk room = first_last (rules s) (segment_rules a n (opened s).head) 13 (leb M room) (rules_numbered s) (omega arith)

  module _ (p : Place) (e : p ≡ place_of s a n) where
    number_is : p.refusal ≡ walk_refusal s a n
    number_is = ap (λ (x : Place). x.refusal) e ∙ place-number s a n

    pub number-refused : (room : ℕ) → (p.refusal ≡ 0 → ⊥) → p.refusal ≡ fill_refusal s a n room
    number-refused room h = go p.refusal h ∙ ap (λ (m : ℕ). or_else m (cond (leb M room) 0 13)) number_is ∙ sym (by_walk room)
      where
        go : (m : ℕ) → (m ≡ 0 → ⊥) → m ≡ or_else m (cond (leb M room) 0 13)
        go zero h = absurd (h refl)
        go (suc m) h = refl

    pub walks : p.refusal ≡ 0 → walk_refusal s a n ≡ 0
    walks z = sym number_is ∙ z

    module _ (z : walk_refusal s a n ≡ 0) where
      pub points_are : p.points ≡ M
      points_are = ap (λ (x : Place). x.points) (e ∙ begins s a n z)

      last : (room : ℕ) (t : Bool) → leb M room ≡ t → cond t 0 13 ≡ fill_refusal s a n room
      last room t q = sym (by_walk room ∙ ap (λ (m : ℕ). or_else m (cond (leb M room) 0 13)) z ∙ ap (λ (x : Bool). cond x 0 13) q)

      pub number_short : (room : ℕ) → room < p.points → 13 ≡ fill_refusal s a n room
      number_short room h = last room _ (lt-leb M room (omega (arith, points_are)))

      pub number_none : (room : ℕ) → p.points ≤ room → 0 ≡ fill_refusal s a n room
      number_none room h = last room _ (le-leb M room (omega (arith, points_are)))

  -- ---- a step after the first k

  module _ (b : Bytes s) (e : walk_refusal s a n ≡ 0) (k : ℕ) (h : k ≤ M) (place : Place) (ep : place ≡ place_after s a n k) (r : Option TimedPoint) (er : r ≡ step_at s place) where
    before-end : k < M → r ≡ Some (timed (value (opened s) a n k) (time (opened s) n k) (mark (opened s) a n k))
    before-end l =
        er ∙ ap (step_at s) ep ∙ walk_steps s a n e b k l
        ∙ ap (λ (x : answers.Point). Some (timed x.value x.time x.mark)) (point_answer s a n k (walk_points s a n e k l))

    at-end : k ≡ M → r ≡ None
    at-end q = er ∙ ap (step_at s) ep ∙ (walk_ends s a n e k (omega arith)).0

    -- a point is the next, its value is the next value, its time the next time, and its mark the next mark
    pub handed : (p : TimedPoint) → r ≡ Some p → (k < M) × (p.value ≡ value (opened s) a n k) × (p.time ≡ time (opened s) n k) × (p.mark ≡ mark (opened s) a n k)
    handed p x =
        ⊎_elim (λ (q : k ≡ M). absurd (differ (at-end q))) (λ (l : k < M). let y = same (before-end l) in (l, ap (λ (t : TimedPoint). t.value) y, ap (λ (t : TimedPoint). t.time) y, ap (λ (t : TimedPoint). t.mark) y)) (eq-or-lt_of_le h)
      where
        differ : r ≡ None → ⊥
        differ y = let z : ◌≡◌ {A = ℕ} 0 1 = cc in omega arith

        same : r ≡ Some (timed (value (opened s) a n k) (time (opened s) n k) (mark (opened s) a n k)) → p ≡ timed (value (opened s) a n k) (time (opened s) n k) (mark (opened s) a n k)
        same y = cc

    -- and after it is done no value is left
    pub stopped : r ≡ None → k ≡ M
    stopped x = ⊎_elim (λ (q : k ≡ M). q) (λ (l : k < M). absurd (differ (before-end l))) (eq-or-lt_of_le h)
      where
        differ : r ≡ Some (timed (value (opened s) a n k) (time (opened s) n k) (mark (opened s) a n k)) → ⊥
        differ y = let z : ◌≡◌ {A = ℕ} 0 1 = cc in omega arith
