-- What a place before a segment's first point says of its samples: they are in the block (`samples-room`), their bits are those of the values
-- (`bits_are`), and their marks are counted (`marks_are`).
use mathlib.Core.Path.{◌≡◌, refl, sym, ap, ap₂, ◌∙◌, subst}
use mathlib.Core.List.{List, [], ◌∷◌, ◌++◌, flatten, map-map}
use Prim.Native.Nat.{ℕ, suc, ◌+◌, ◌-◌, ◌*◌, ◌≤◌, ◌<◌}
use native.Mathlib.Nat.{suc-mul}
use native.Mathlib.Omega.{arith}
use lib.ListN.{length, drop, length-map, length-append}
use lib.Ieee.{Float, binary32, binary64, of_bits, to_bits}
use Rattle.rules.specs.Numbers.{Bytes, bytes, all_bytes, up_from, splice}
use Rattle.rules.specs.Wave.{points}
use Rattle.rules.specs.Rules.{refusal, opened}
use Rattle.rules.specs.Points.{value, mark_count, walk_refusal}
use Rattle.rules.proofs.Numbers.{length-all_bytes}
use Rattle.rules.proofs.Thin.{length-up_from}
use Rattle.rules.proofs.Opened.{good-opened, shape_opened}
use Rattle.scale.specs.Scale.{FiniteValue}
use Rattle.fills.specs.Fills.{value_at, bits_at, mark_count_at}
use Rattle.block.specs.Opened.{opened_as}
use Rattle.points.specs.declared.walk.Place.{Place}
use Rattle.points.specs.Steps.{Lent}
use Rattle.points.specs.Walks.{accepted_place, place_of}
use Rattle.points.proofs.Refusals.{walk_points, walk_accepts}
use Rattle.points.proofs.Stepping.{single-sound}
use Rattle.points.proofs.Values.{room, value-at}
use Rattle.points.proofs.Fillings.{map_up, marks-at}
use Rattle.points.proofs.Walking.{begins}
use Rattle.tessarquin.specs.Calls.{value_bits, fill_bytes}

-- a value for each point, and the bytes of a fill: eight for each, and eight for the number of marks
pub length-values : (s : List ℕ) (a n : ℕ) → length (value_bits s a n) ≡ points (opened s).head
length-values s a n =
    let m : ℕ = points (opened s).head in length-map (up_from 0 m) (λ k. to_bits binary64 (value (opened s) a n k)) ∙ length-up_from 0 m

pub length_fill : (s : List ℕ) (a n : ℕ) → length (fill_bytes s a n) ≡ points (opened s).head * 8 + 8
length_fill s a n =
    let ns : List ℕ = value_bits s a n ++ (mark_count (opened s) a n ∷ []) in
    omega (arith, length-all_bytes 0 8 ns, length-append (value_bits s a n) (mark_count (opened s) a n ∷ []), length-values s a n)

module _ (s : List ℕ) (b : Bytes s) (a n : ℕ) (p : Place) (e : p ≡ place_of s a n) (z : walk_refusal s a n ≡ 0) where
  is : p ≡ accepted_place s a n 0
  is = e ∙ begins s a n z

  accepts : refusal s ≡ 0
  accepts = walk_accepts s a n z

  some : 0 < points (opened s).head
  some = (shape_opened s b accepts).some

  each : (k : ℕ) → k < points (opened s).head → Lent s (opened_as s) a n k
  each k h = record { opens = refl; answers = walk_points s a n z k h }

  pub kind_small : p.kind ≤ 1
  kind_small = subst (λ (x : Place). x.kind ≤ 1) (sym is) (good-opened s b accepts).kind

  pub value-finite : FiniteValue p.calibration
  value-finite =
      let f = (good-opened s b accepts).floats in
      let h : ℕ → ℕ = (opened s).head in
      subst (λ (x : Place). FiniteValue x.calibration) (sym is) (single-sound (of_bits binary32 (h 156)) (h 156) refl f.gain, single-sound (of_bits binary32 (h 160)) (h 160) refl f.offset)

  pub points_are : p.points ≡ points (opened s).head
  points_are = ap (λ (x : Place). x.points) is

  -- the samples of the whole segment stand in the block
  pub samples-room : (size : ℕ) → p.kind + 1 ≡ size → p.samples + p.points * size ≤ length s
  samples-room size es =
      let q : Place = accepted_place s a n 0 in
      let m : ℕ = q.points - 1 in
      let u : suc m ≡ q.points = omega (arith, some) in
      let v : suc m * (q.kind + 1) ≡ q.points * (q.kind + 1) = ap (λ (x : ℕ). x * (q.kind + 1)) u in
      subst (λ (x : ℕ). p.samples + p.points * x ≤ length s) es
      (subst (λ (x : Place). x.samples + x.points * (x.kind + 1) ≤ length s) (sym is)
      (omega (arith, v, suc-mul m (q.kind + 1), room s b (opened_as s) a n m (each m (omega (arith, some))))))

  bits : bits_at p.calibration.gain p.calibration.offset p.order (p.kind + 1) s p.samples p.points ≡ all_bytes 0 8 (value_bits s a n)
  unfolding bits_at
  bits =
      let q : Place = accepted_place s a n 0 in
      let f : ℕ → ℕ = λ k. to_bits binary64 (value (opened s) a n k) in
      ap {B = List ℕ} (λ (x : Place). bits_at x.calibration.gain x.calibration.offset x.order (x.kind + 1) s x.samples x.points) is
      ∙ ap {B = List ℕ} flatten (map_up (λ k. bytes 0 8 (to_bits binary64 (value_at q.calibration.gain q.calibration.offset q.order (q.kind + 1) s q.samples k))) (λ k. bytes 0 8 (f k)) 0 q.points
      (λ k g h. ap (λ (x : Float). bytes 0 8 (to_bits binary64 x)) (value-at s b (opened_as s) a n k (each k (omega arith)))))
      ∙ ap flatten (sym (map-map (bytes 0 8) f (up_from 0 q.points)))

  -- as the code has them: written over the start of a slice
  pub bits_are : (size : ℕ) → p.kind + 1 ≡ size → (out : List ℕ)
      → bits_at p.calibration.gain p.calibration.offset p.order size s p.samples p.points ++ drop (p.points * 8) out ≡ splice out 0 (all_bytes 0 8 (value_bits s a n))
  bits_are size es out =
      let l : p.points * 8 ≡ 0 + length (all_bytes 0 8 (value_bits s a n)) = omega (arith, length-all_bytes 0 8 (value_bits s a n), length-values s a n, points_are) in
      ap₂ {C = List ℕ} (λ x y. x ++ drop y out) (ap (λ (x : ℕ). bits_at p.calibration.gain p.calibration.offset p.order x s p.samples p.points) (sym es) ∙ bits) l

  -- the number of the marks
  pub marks_are : (size : ℕ) → p.kind + 1 ≡ size → mark_count_at p.order size s p.samples p.points ≡ mark_count (opened s) a n
  marks_are size es =
      ap (λ (x : ℕ). mark_count_at p.order x s p.samples p.points) (sym es)
      ∙ ap (λ (x : Place). mark_count_at x.order (x.kind + 1) s x.samples x.points) is
      ∙ marks-at s b (opened_as s) a n (each 0 some)
