-- Refused as the point is, without room, or answered by its value's bits, its time's and its mark.
use mathlib.Core.Path.{◌≡◌, sym, ap, ◌∙◌, subst}
use mathlib.Core.Bool.{not}
use mathlib.Core.List.{List, [], ◌∷◌}
use Prim.Native.Nat.{ℕ}
use native.Mathlib.Omega.{arith}
use lib.Dec.{T}
use lib.Ieee.{binary64, is_nan, to_bits}
use Rattle.rules.specs.Numbers.{Bytes, all_bytes, splice}
use Rattle.rules.specs.Points.{mark_number, point_refusal}
use Rattle.rules.proofs.Numbers.{below-index}
use Rattle.scale.proofs.Finite.{near_no_nan}
use Rattle.points.specs.declared.answers.Point.{Point}
use Rattle.points.proofs.Bounds.{point_number as asked_number, point_answer, answer_near}
use Rattle.tessarquin.specs.Calls.{point_bytes, point_number, point_left}
use Rattle.tessarquin.proofs.Slices.{point_length, own_refused, own_short, own_left}
use borrow.Author.Rules.{rules}
use Rattle.tessarquin.proofs.tessarquin_point.Goals as goal
use Rattle.tessarquin.proofs.tessarquin_point.Goals.{After-point-p, After-shared_slice_known-1, Else-p-ne0}

-- every element of a slice is a byte
bytes : (c : After-shared_slice_known-1) → Bytes c.args.block.now
bytes c = below-index 256 c.args.block.now (λ i h. (c.type_inv.block i).fits)

number : (c : After-point-p) → c.point-p.result.refusal ≡ point_refusal c.args.block.now c.args.array c.args.segment c.args.point
number c = let a = c.args in ap (λ (x : Point). x.refusal) c.point-p.ensures ∙ asked_number a.block.now a.array a.segment a.point

-- the value and the time of an answered point are no NaN
clean : (c : Else-p-ne0) → T (not (is_nan c.point-p.result.value)) × T (not (is_nan c.point-p.result.time))
clean c =
    let a = c.args in
    let e = c.point-p.ensures in
    let q = answer_near a.block.now a.array a.segment a.point (bytes (goal.at.Else-p-ne0 c).After-shared_slice_known-1) (sym (ap (λ (x : Point). x.refusal) e) ∙ c.if-p-ne0.false) in
    subst (λ (x : Point). T (not (is_nan x.value)) × T (not (is_nan x.time))) (sym e) (near_no_nan q.0, near_no_nan q.1)

pub returns-then-p-ne0 : goal.returns-then-p-ne0
unfolding point_number point_left
returns-then-p-ne0 c =
    let a = c.args in
    let told = own_refused (point_refusal a.block.now a.array a.segment a.point) (point_bytes a.block.now a.array a.segment a.point) a.answer.now c.point-p.result.refusal (number (goal.at.returns-then-p-ne0 c).After-point-p) c.if-p-ne0.true in record {
      value = told.0;
      answer_after = told.1;
    }

pub returns-then-answer-lt24 : goal.returns-then-answer-lt24
unfolding point_number point_left
returns-then-answer-lt24 c =
    let a = c.args in
    let told = own_short (point_refusal a.block.now a.array a.segment a.point) (point_bytes a.block.now a.array a.segment a.point) a.answer.now (sym (number (goal.at.returns-then-answer-lt24 c).After-point-p) ∙ c.if-p-ne0.false) (omega (arith, c.if-answer-lt24.true, point_length a.block.now a.array a.segment a.point)) in record {
      value = told.0;
      answer_after = told.1;
    }

pub bits-requires : goal.bits-requires
bits-requires c = search (rules, (clean (goal.at.bits-requires c).Else-p-ne0).0, (clean (goal.at.bits-requires c).Else-p-ne0).1)

pub bits-requires-2 : goal.bits-requires-2
bits-requires-2 c = search (rules, (clean (goal.at.bits-requires-2 c).Else-p-ne0).0, (clean (goal.at.bits-requires-2 c).Else-p-ne0).1)

pub returns : goal.returns
unfolding point_number point_left
returns c =
    let a = c.args in
    let p = c.point-p in
    let z : point_refusal a.block.now a.array a.segment a.point ≡ 0 = sym (number (goal.at.returns c).After-point-p) ∙ c.if-p-ne0.false in
    let r = own_left (point_refusal a.block.now a.array a.segment a.point) (point_bytes a.block.now a.array a.segment a.point) a.answer.now z (omega (arith, c.if-answer-lt24.false, point_length a.block.now a.array a.segment a.point)) in
    let e = c.point-p.ensures ∙ point_answer a.block.now a.array a.segment a.point z in
    let value = c.bits.ensures in
    let time = c.bits-2.ensures in
    let mark = c.mark_number-mark.ensures in record {
      value = r.0;
      answer_after = c.put_numbers.ensures
          ∙ (λ i. splice a.answer.now 0 (all_bytes 0 8 (value i ∷ time i ∷ mark i ∷ [])))
          ∙ ap {B = List ℕ} (λ (x : Point). splice a.answer.now 0 (all_bytes 0 8 (to_bits binary64 x.value ∷ to_bits binary64 x.time ∷ mark_number x.mark ∷ []))) e
          ∙ r.1;
    }
