-- A walk by the calls that make it: `start`, and then `next` as often as one likes. Each step has the number and the values of document 01, and the
-- marks (`walk_answers`), and so have all steps of a run of `next` calls, in order, and done for good behind them (`run-answers`).
use Rattle.std.specs.Iterator.{MakesProgress, at_most}
use Rattle.std.specs.Prelude.{Option, Some, None}
use mathlib.Core.Path.{◌≡◌, refl, sym, ap, ap₂, ◌∙◌}
use mathlib.Core.Bool.{Bool, true, false, cond}
use mathlib.Core.List.{List, [], ◌∷◌, map}
use Prim.Native.Nat.{ℕ, zero, suc, ◌+◌, ◌-◌, ◌<◌}
use native.Mathlib.Omega.{arith}
use lib.ListN.{length}
use lib.Dec.{ltb}
use lib.Ieee.{Float}
use borrow.Author.Tests.{ltb-true, ltb-false, lt-ltb}
use denote.Ref.{Bor}
use Rattle.rules.specs.Numbers.{Bytes, up_from}
use Rattle.rules.specs.Wave.{points}
use Rattle.rules.specs.Rules.{opened}
use Rattle.rules.specs.Points.{value, time, mark, walk_refusal}
use Rattle.points.specs.declared.answers.Point as answers
use Rattle.points.specs.declared.walk.Place.{Place}
use Rattle.points.specs.declared.walk.Walk.{Walk}
use Rattle.points.specs.declared.walk.TimedPoint.{TimedPoint}
use Rattle.points.specs.Walks.{place_of, step_at, moved_to, after_of, place_after, timed, values_of, marks_of, answer_of, walk_by, walk_answer, Started, Stepped}
use Rattle.points.proofs.Refusals.{walk_points}
use Rattle.points.proofs.Bounds.{point_answer}
use Rattle.points.proofs.Walking.{step_past, place-number, walk_steps, walk_ends, walk_refused}

-- ---- one step

module _ (s : List ℕ) (b : Bytes s) (a n : ℕ) where
  -- the answer at the start's number
  pub walk_answers : (k : ℕ) → answer_of (place_of s a n) (step_at s (place_after s a n k)) ≡ walk_answer s a n k
  unfolding walk_answer
  walk_answers k = go (walk_refusal s a n) refl (ltb k (points (opened s).head)) refl
    where
      numbered : (m : ℕ) → walk_refusal s a n ≡ m → (r : Option TimedPoint) → step_at s (place_after s a n k) ≡ r → answer_of (place_of s a n) (step_at s (place_after s a n k)) ≡ (m, values_of r, marks_of r)
      numbered m e r q = ap₂ {C = ℕ × List Float × List Bool} (λ x y. (x, values_of y, marks_of y)) (place-number s a n ∙ e) q

      go : (m : ℕ) → walk_refusal s a n ≡ m → (more : Bool) → ltb k (points (opened s).head) ≡ more
          → answer_of (place_of s a n) (step_at s (place_after s a n k)) ≡ walk_by (walk_refusal s a n) (ltb k (points (opened s).head)) (value (opened s) a n k) (time (opened s) n k) (mark (opened s) a n k)
      go zero e true f =
          let l : k < points (opened s).head = ltb-true k (points (opened s).head) f in
          numbered 0 e (Some (timed (value (opened s) a n k) (time (opened s) n k) (mark (opened s) a n k)))
          (walk_steps s a n e b k l ∙ ap (λ (p : answers.Point). Some (timed p.value p.time p.mark)) (point_answer s a n k (walk_points s a n e k l)))
          ∙ sym (λ i. walk_by (e i) (f i) (value (opened s) a n k) (time (opened s) n k) (mark (opened s) a n k))
      go zero e false f =
          numbered 0 e None (walk_ends s a n e k (ltb-false k (points (opened s).head) f)).0
          ∙ sym (λ i. walk_by (e i) (f i) (value (opened s) a n k) (time (opened s) n k) (mark (opened s) a n k))
      go (suc m) e more f =
          numbered (suc m) e None (walk_refused s a n (λ z. omega arith) k).1 ∙ sym (λ i. walk_by (e i) (f i) (value (opened s) a n k) (time (opened s) n k) (mark (opened s) a n k))

-- a walk that hands out a point has fewer before it
pub fewer : {can : Walk → Type 0} → ((w : Walk) → can w) → (w v : Walk) (r : Option TimedPoint) → Stepped w r v → MakesProgress can (λ (u : Walk). at_most (u.place.points - u.place.k)) w r v
fewer may w v None s = record { on = λ _. tt; keeps = tt; rests = λ _. tt }
fewer may w v (Some x) s =
    let p : Place = w.place in
    let one : v.place ≡ moved_to (p.k + 1) p = s.moves ∙ ap (λ (t : Bool). cond t (moved_to (p.k + 1) p) p) (lt-ltb p.k p.points (below (ltb p.k p.points) refl)) in
    record {
      on = λ _. (may v, tt, omega (arith, below (ltb p.k p.points) refl, ap (λ (q : Place). q.k) one, ap (λ (q : Place). q.points) one));
      keeps = may v;
      rests = λ _. tt;
    }
  where
    below : (t : Bool) → ltb w.place.k w.place.points ≡ t → w.place.k < w.place.points
    below true f = ltb-true w.place.k w.place.points f
    below false f = let none : Some x ≡ None = s.answers ∙ step_past w.block.now w.place (ltb-false w.place.k w.place.points f) in absurd (differ none)
      where
        differ : Some x ≡ None → ⊥
        differ e = let z : ◌≡◌ {A = ℕ} 0 1 = cc in omega arith

-- ---- a run of `next`

-- from the walk w, `next` answered these steps one after another and left the walk u
pub data Run : Walk → List (Option TimedPoint) → Walk → Type 0 where
  stop : {w : Walk} → Run w [] w
  call : {w v u : Walk} {r : Option TimedPoint} {rs : List (Option TimedPoint)} → Stepped w r v → Run v rs u → Run w (r ∷ rs) u

module _ (block : Bor (List ℕ)) (b : Bytes block.now) (a n : ℕ) where
  -- a run from the walk after k steps
  from_step : (k : ℕ) {w u : Walk} {rs : List (Option TimedPoint)} → w.block ≡ block → w.place ≡ place_after block.now a n k → Run w rs u
      → (map (answer_of (place_of block.now a n)) rs ≡ map (walk_answer block.now a n) (up_from k (length rs))) × (u.block ≡ block) × (u.place ≡ place_after block.now a n (length rs + k))
  unfolding up_from
  from_step k eb ep stop = let z : k ≡ 0 + k = omega arith in (refl, eb, ep ∙ ap (place_after block.now a n) z)
  from_step k eb ep (call {r = r} {rs = rs} s q) =
      let rest = from_step (suc k) (s.same_block ∙ eb) (s.moves ∙ ap after_of ep) q in
      let e : length rs + suc k ≡ suc (length rs) + k = omega arith in (
        ap₂ {C = List (ℕ × List Float × List Bool)} (λ x xs. x ∷ xs) (ap (answer_of (place_of block.now a n)) (s.answers ∙ ap₂ {C = Option TimedPoint} (λ x p. step_at x.now p) eb ep) ∙ walk_answers block.now b a n k) rest.0,
        rest.1,
        rest.2 ∙ ap (place_after block.now a n) e,
      )

  pub run-answers : {w u : Walk} {rs : List (Option TimedPoint)} → Started block a n w → Run w rs u
      → (map (answer_of w.place) rs ≡ map (walk_answer block.now a n) (up_from 0 (length rs))) × (u.block ≡ block) × (u.place ≡ place_after block.now a n (length rs))
  run-answers {rs = rs} s r =
      let all = from_step 0 s.same_block s.at-start r in
      let e : length rs + 0 ≡ length rs = omega arith in
      (ap (λ (p : Place). map (answer_of p) rs) s.at-start ∙ all.0, all.1, all.2 ∙ ap (place_after block.now a n) e)
