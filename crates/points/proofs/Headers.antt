-- The same payload under another accepted header: `point`, `fill` and each step of a walk answer what they answer for the block itself.
use Rattle.std.specs.Prelude.{Option, Some}
use mathlib.Core.Path.{◌≡◌, refl, sym, ap, ◌∙◌}
use mathlib.Core.Bool.{Bool, true, false}
use mathlib.Core.List.{List, ◌++◌, map}
use Prim.Native.Nat.{ℕ, zero, suc, ◌≤◌, ◌<◌}
use native.Mathlib.Omega.{arith}
use lib.ListN.{length, drop}
use lib.Dec.{ltb}
use lib.Ieee.{Float}
use borrow.Author.Tests.{ltb-true, ltb-false}
use Rattle.rules.specs.Numbers.{Bytes, up_from}
use Rattle.rules.specs.Wave.{Wave, points}
use Rattle.rules.specs.Rules.{opened}
use Rattle.rules.specs.Points.{value, mark_count, walk_refusal}
use Rattle.rules.proofs.Headers.{SameAnswers}
use Rattle.points.specs.declared.answers.Point as answers
use Rattle.points.specs.declared.answers.Filled.{Filled}
use Rattle.points.specs.declared.walk.TimedPoint.{TimedPoint}
use Rattle.points.specs.Points.{point_by, point_as, filled_by, filled_as, out_by, filled_out}
use Rattle.points.specs.Walks.{timed, step_at, place_after}
use Rattle.points.proofs.Learnt.{PointCall, FillCall, WalkedCall}
use Rattle.points.proofs.Walking.{walk_steps, walk_ends, walk_refused, walked_is}

module _ (s t : List ℕ) (e : SameAnswers s t) where
  same_answer : (a n k : ℕ) → point_as t a n k ≡ point_as s a n k
  unfolding point_as
  same_answer a n k = let p = e.same_point a n k in λ i. point_by (p.0 i) (p.1 i) (p.2 i) (p.3 i)

  pub point_same : (a n k : ℕ) (x y : answers.Point) → PointCall s a n k x → PointCall t a n k y → y ≡ x
  point_same a n k x y p q = q.2 ∙ same_answer a n k ∙ sym p.2

  -- a fill's answer, and what it leaves in out
  pub fill_same : (a n : ℕ) (out : List Float) (x y : Filled) (left last : List Float) → FillCall s a n out x left → FillCall t a n out y last → (y ≡ x) × (last ≡ left)
  unfolding filled_as filled_out
  fill_same a n out x y left last p q =
      let r = e.same_fill a n (length out) in
      let w = e.same-wave in
      (q.3.0 ∙ (λ i. filled_by (r i) (points (w i).head) (mark_count (w i) a n)) ∙ sym p.3.0, q.3.1 ∙ (λ i. out_by (r i) (map (value (w i) a n) (up_from 0 (points (w i).head)) ++ drop (points (w i).head) out) out) ∙ sym p.3.1)

  -- a walk's step after k others, and `walked` at k
  module _ (bs : Bytes s) (bt : Bytes t) (a n k : ℕ) where
    pub step_same : step_at t (place_after t a n k) ≡ step_at s (place_after s a n k)
    step_same = go (walk_refusal s a n) refl
      where
        m : points (opened t).head ≡ points (opened s).head
        m = ap (λ (w : Wave). points w.head) e.same-wave

        at : walk_refusal s a n ≡ 0 → (b : Bool) → ltb k (points (opened s).head) ≡ b → step_at t (place_after t a n k) ≡ step_at s (place_after s a n k)
        at z true f =
            let l : k < points (opened s).head = ltb-true k (points (opened s).head) f in
            walk_steps t a n (e.same_walk a n ∙ z) bt k (omega (arith, m))
            ∙ ap (λ (p : answers.Point). Some (timed p.value p.time p.mark)) (same_answer a n k)
            ∙ sym (walk_steps s a n z bs k l)
        at z false f =
            let l : points (opened s).head ≤ k = ltb-false k (points (opened s).head) f in
            (walk_ends t a n (e.same_walk a n ∙ z) k (omega (arith, m))).0 ∙ sym (walk_ends s a n z k l).0

        go : (r : ℕ) → walk_refusal s a n ≡ r → step_at t (place_after t a n k) ≡ step_at s (place_after s a n k)
        go zero z = at z (ltb k (points (opened s).head)) refl
        go (suc r) z = (walk_refused t a n (λ y. omega (arith, e.same_walk a n)) k).1 ∙ sym (walk_refused s a n (λ y. omega arith) k).1

    pub walked_same : (x y : Option TimedPoint) → WalkedCall s a n k x → WalkedCall t a n k y → y ≡ x
    walked_same x y p q = q.2 ∙ walked_is t a n k ∙ step_same ∙ sym (walked_is s a n k) ∙ sym p.2
