-- What is left of a listing at a spot: the line of its point, and what is left at the next spot (`goes_on`, `goes_over`); behind the first line, all (`whole_long`, `whole_short`).
use Rattle.std.specs.Prelude.{Option, Some, None}
use mathlib.Core.Path.{◌≡◌, refl, sym, ap, ap₂, ◌∙◌, subst}
use mathlib.Core.Bool.{Bool, true, false, cond, not}
use mathlib.Core.Logic.{inl}
use mathlib.Core.List.{List, [], ◌∷◌, ◌++◌, map, flatten, append_assoc, append-nil}
use Prim.Native.Nat.{ℕ, zero, suc, ◌+◌, ◌-◌, ◌*◌, ◌^◌, ◌≤◌, ◌<◌}
use native.Mathlib.Nat.{mul_assoc, mul-le-mul_left, mul-le-mul_right}
use native.Mathlib.Numerals.{add-one}
use native.Mathlib.Omega.{arith}
use lib.ListN.{length, take, length-append}
use lib.Seq.{length-take-le}
use lib.Dec.{T, ltb}
use lib.Ieee.{Float, nan, inf, fin, is_nan, binary64, to_bits}
use borrow.Author.Tests.{ltb-true, ltb-false, lt-ltb, le-ltb}
use Rattle.rules.specs.Numbers.{Bytes, up_from}
use Rattle.rules.specs.Wave.{Wave, segments, points}
use Rattle.rules.specs.Rules.{refusal, opened}
use Rattle.rules.specs.Points.{value, time, mark, mark_number, whole, point_refusal, walk_refusal}
use Rattle.rules.proofs.Opened.{shape_opened, good-opened}
use Rattle.rules.proofs.Asked.{Asked, point_says, says_point, point_near}
use Rattle.block.specs.declared.Opened.{Opened}
use Rattle.block.specs.Opened.{opened_as}
use Rattle.block.proofs.Answers.{number_is, accepted_as_lem}
use Rattle.points.specs.declared.walk.Place.{Place}
use Rattle.points.specs.declared.walk.TimedPoint.{TimedPoint}
use Rattle.points.specs.Walks.{timed, accepted_place, place_of, moved_to, after_of, step_at}
use Rattle.points.proofs.Refusals.{walk_points, walk_none, walk_accepts}
use Rattle.points.proofs.Walking.{step_point, place-number, begins}
use Rattle.digits.specs.Digits.{decimal, hex}
use Rattle.listing.specs.Listing.{line, first_line, refused_line, too_long, point_line, segment_lines, listing_by, listing}
use Rattle.listing.specs.Pages.{line_room, front_by, front, spot_at, Stands, lines_from, rest_by, rest, Paged}
use Rattle.listing.specs.declared.pages.Spot.{Spot}
use Rattle.listing.specs.declared.pages.Page.{Page}
use Rattle.digits.proofs.Spelled.{length-spelled, places_few}
use Rattle.listing.proofs.Texts.{places-mark}

-- ---- the first line

module _ (s : List ℕ) where
  pub front_long : 65536 < length s → too_long ≡ front s
  unfolding front
  front_long h = sym (ap (λ (t : Bool). cond t too_long (front_by (refusal s) (opened s).head)) (lt-ltb 65536 (length s) h))

  module _ (h : length s ≤ 65536) (o : Opened) (e : o ≡ opened_as s) where
    front_by_lem : front_by (refusal s) (opened s).head ≡ front s
    unfolding front
    front_by_lem = sym (ap (λ (t : Bool). cond t too_long (front_by (refusal s) (opened s).head)) (le-ltb 65536 (length s) h))

    pub front-refused : (o.refusal ≡ 0 → ⊥) → refused_line o.refusal ≡ front s
    front-refused z = go o.refusal z ∙ ap (λ (r : ℕ). front_by r (opened s).head) (number_is s o e) ∙ front_by_lem
      where
        go : (r : ℕ) → (r ≡ 0 → ⊥) → refused_line r ≡ front_by r (opened s).head
        go zero z = absurd (z refl)
        go (suc r) z = refl

    pub front-first : o.refusal ≡ 0 → line (decimal o.segments ∷ decimal o.points ∷ decimal o.arrays ∷ decimal o.order ∷ decimal o.kind ∷ []) ≡ front s
    unfolding first_line
    front-first z =
        let r : refusal s ≡ 0 = sym (number_is s o e) ∙ z in
        ap (λ (o : Opened). line (decimal o.segments ∷ decimal o.points ∷ decimal o.arrays ∷ decimal o.order ∷ decimal o.kind ∷ [])) (accepted_as_lem s o e r)
        ∙ ap (λ (n : ℕ). front_by n (opened s).head) (sym r) ∙ front_by_lem

-- ---- the lines, one more

up_cons : (i k m : ℕ) → k < m → up_from i (m - k) ≡ i ∷ up_from (suc i) (m - suc k)
unfolding up_from
up_cons i k m h = let e : m - k ≡ suc (m - suc k) = omega arith in ap (up_from i) e

up_none : (i k m : ℕ) → m ≤ k → up_from i (m - k) ≡ []
unfolding up_from
up_none i k m h = let e : m - k ≡ 0 = omega arith in ap (up_from i) e

module _ (w : Wave) (n k : ℕ) where
  abbrev later : List ℕ
  later = flatten (map (λ m. segment_lines w m 0) (up_from (suc n) (segments w.head - n)))

  segment-ends : points w.head ≤ k → segment_lines w n k ≡ []
  unfolding flatten
  segment-ends h = ap (λ (ks : List ℕ). flatten (map (point_line w n) ks)) (up_none k k (points w.head) h)

  lines_point : k < points w.head → lines_from w n k ≡ point_line w n k ++ lines_from w n (suc k)
  unfolding flatten
  lines_point h =
      ap (λ (ks : List ℕ). flatten (map (point_line w n) ks) ++ later) (up_cons k k (points w.head) h) ∙ append_assoc (point_line w n k) (segment_lines w n (suc k)) later

  lines-segment : points w.head ≤ k → n < segments w.head → lines_from w n k ≡ lines_from w (suc n) 0
  unfolding flatten
  lines-segment h l =
      ap (λ (x : List ℕ). x ++ later) (segment-ends h) ∙ ap (λ (ns : List ℕ). flatten (map (λ m. segment_lines w m 0) ns)) (up_cons (suc n) n (segments w.head) l)

  lines_end : points w.head ≤ k → segments w.head ≤ n → lines_from w n k ≡ []
  unfolding flatten
  lines_end h l = ap (λ (x : List ℕ). x ++ later) (segment-ends h) ∙ ap (λ (ns : List ℕ). flatten (map (λ m. segment_lines w m 0) ns)) (up_none (suc n) n (segments w.head) l)

-- ---- how long they are

-- lists of at most c bytes, one behind the other
each_most : (f : ℕ → List ℕ) (c i m : ℕ) → ((j : ℕ) → j < i + m → length (f j) ≤ c) → length (flatten (map f (up_from i m))) ≤ m * c
unfolding flatten up_from
each_most f c i zero h = omega arith
each_most f c i (suc m) h =
    omega (arith, length-append (f i) (flatten (map f (up_from (suc i) m))), h i (omega arith), each_most f c (suc i) m (λ j l. h j (omega arith)))

point_most : (w : Wave) (n k : ℕ) → n < 2 ^ 32 → k < 2 ^ 32 → length (point_line w n k) ≤ line_room
unfolding point_line
point_most w n k p q = simp (length-append, length-spelled) (omega (arith, places_few n p, places_few k q, places-mark (mark w 1 n k)))

lines-most : (w : Wave) (n k : ℕ) → 1 ≤ n → n ≤ segments w.head → k < points w.head → segments w.head * points w.head < 2147483648 → length (lines_from w n k) ≤ line_room * 2147483648
lines-most w n k p q h small =
    let g : ℕ = segments w.head in
    let M : ℕ = points w.head in
    let gs : g * 1 ≤ g * M = mul-le-mul_left g (omega arith) in
    let Ms : 1 * M ≤ g * M = mul-le-mul_right M (omega arith) in
    let this : length (segment_lines w n k) ≤ (M - k) * line_room = each_most (point_line w n) line_room k (M - k) (λ j l. point_most w n j (omega arith) (omega arith)) in
    let each : (m : ℕ) → m < suc n + (g - n) → length (segment_lines w m 0) ≤ M * line_room = λ m l. omega (arith, each_most (point_line w m) line_room 0 (M - 0) (λ j i. point_most w m j (omega arith) (omega arith))) in
    let those : length (later w n k) ≤ (g - n) * (M * line_room) = each_most (λ m. segment_lines w m 0) (M * line_room) (suc n) (g - n) each in
    let fit : suc (g - n) * (M * line_room) ≤ g * (M * line_room) = mul-le-mul_right (M * line_room) (omega arith) in
    omega (arith, length-append (segment_lines w n k) (later w n k), mul_assoc g M line_room)

-- a whole number of units is no NaN
clean : (L : ℕ) (x : Float) → T (whole L x) → T (not (is_nan x))
unfolding whole is_nan
clean L nan h = h
clean L (inf s) h = tt
clean L (fin s m e) h = tt

-- ---- what a step hands out

differ : (r : Option TimedPoint) (p : TimedPoint) → r ≡ Some p → r ≡ None → ⊥
differ r p x y = let z : ◌≡◌ {A = ℕ} 0 1 = cc in omega arith

alike : (r : Option TimedPoint) (p q : TimedPoint) → r ≡ Some p → r ≡ Some q → p ≡ q
alike r p q x y = cc

-- p has the value, the time and the mark of the point at a spot; the first two are no NaN
pub record Handed (s : List ℕ) (spot : Spot) (p : TimedPoint) : Type 0 where
  pub value_is : p.value ≡ value (opened s) 1 spot.segment spot.place.k
  pub time_is : p.time ≡ time (opened s) spot.segment spot.place.k
  pub mark_is : p.mark ≡ mark (opened s) 1 spot.segment spot.place.k
  pub value_clean : T (not (is_nan p.value))
  pub time_clean : T (not (is_nan p.time))

-- the point's line, of the bits of the two and of the mark
pub handed_line : (s : List ℕ) (spot : Spot) (p : TimedPoint) → Handed s spot p → (x y : ℕ) → x ≡ to_bits binary64 p.value → y ≡ to_bits binary64 p.time
    → line (decimal spot.segment ∷ decimal spot.place.k ∷ hex x ∷ hex y ∷ decimal (mark_number p.mark) ∷ []) ≡ point_line (opened s) spot.segment spot.place.k
unfolding point_line
handed_line s spot p h x y v t =
    let value-bits = v ∙ ap (to_bits binary64) h.value_is in
    let time-bits = t ∙ ap (to_bits binary64) h.time_is in
    λ i. line (decimal spot.segment ∷ decimal spot.place.k ∷ hex (value-bits i) ∷ hex (time-bits i) ∷ decimal (mark_number (h.mark_is i)) ∷ [])

-- a page leaves less
pub shorter : (s : List ℕ) (from : Spot) (out : List ℕ) (r : Page) → Paged s from out r → from.place.refusal ≡ 0 → length (rest s r.spot) < length (rest s from)
shorter s from out r p z =
    omega (arith, ap length p.lines, length-append (take r.count out) (rest s r.spot), length-take-le r.count out p.within, p.some z)

module _ (s : List ℕ) (b : Bytes s) where
  abbrev g : ℕ
  g = segments (opened s).head

  abbrev M : ℕ
  M = points (opened s).head

  -- ---- a segment is walked where the block is accepted and has it

  walked : (n : ℕ) → refusal s ≡ 0 → 1 ≤ n → n ≤ g → walk_refusal s 1 n ≡ 0
  walked n z p q = walk_none s 1 n 0 (says_point s 1 n 0 z (record { array = inl refl; from_one = p; segment = q; point = (shape_opened s b z).some }))

  asked : (n : ℕ) → walk_refusal s 1 n ≡ 0 → Asked 1 n 0 (opened s).head
  asked n e = (point_says s 1 n 0 (walk_points s 1 n e 0 (shape_opened s b (walk_accepts s 1 n e)).some)).1

  -- ---- the spot at a segment's start

  pub stands_at : (n : ℕ) → Stands s (spot_at s n)
  stands_at n = record {
    placed = refl;
    before = λ z.
        let e : walk_refusal s 1 n ≡ 0 = sym (place-number s 1 n) ∙ z in subst (λ (p : Place). p.k < p.points) (sym (begins s 1 n e)) (shape_opened s b (walk_accepts s 1 n e)).some;
  }

  rest_at : (n : ℕ) → walk_refusal s 1 n ≡ 0 → rest s (spot_at s n) ≡ lines_from (opened s) n 0
  unfolding rest
  rest_at n e = ap (λ (p : Place). rest_by p.refusal (lines_from (opened s) n p.k)) (begins s 1 n e)

  rest_none : (n : ℕ) → (walk_refusal s 1 n ≡ 0 → ⊥) → rest s (spot_at s n) ≡ []
  unfolding rest
  rest_none n h = go (place_of s 1 n).refusal (λ z. h (sym (place-number s 1 n) ∙ z))
    where
      go : (m : ℕ) → (m ≡ 0 → ⊥) → rest_by m (lines_from (opened s) n (place_of s 1 n).k) ≡ []
      go zero h = absurd (h refl)
      go (suc m) h = refl

  -- ---- a spot before a point

  module _ (spot : Spot) (t : Stands s spot) (z : spot.place.refusal ≡ 0) where
    abbrev n : ℕ
    n = spot.segment

    abbrev k : ℕ
    k = spot.place.k

    walks : walk_refusal s 1 n ≡ 0
    walks = sym (place-number s 1 n) ∙ sym (ap (λ (p : Place). p.refusal) t.placed) ∙ z

    is : spot.place ≡ accepted_place s 1 n k
    is = t.placed ∙ ap (moved_to k) (begins s 1 n walks)

    below : k < M
    below = omega (arith, t.before z, ap (λ (p : Place). p.points) is)

    answers : point_refusal s 1 n k ≡ 0
    answers = walk_points s 1 n walks k below

    step_is : step_at s spot.place ≡ Some (timed (value (opened s) 1 n k) (time (opened s) n k) (mark (opened s) 1 n k))
    step_is = ap (step_at s) is ∙ step_point s b 1 n k answers below

    -- the step there is not done, and hands out its point's numbers
    pub step_never : (r : Option TimedPoint) → r ≡ step_at s spot.place → r ≡ None → ⊥
    step_never r e d = differ r (timed (value (opened s) 1 n k) (time (opened s) n k) (mark (opened s) 1 n k)) (e ∙ step_is) d

    pub step_handed : (r : Option TimedPoint) (p : TimedPoint) → r ≡ step_at s spot.place → r ≡ Some p → Handed s spot p
    step_handed r p e is =
        let q = alike r p (timed (value (opened s) 1 n k) (time (opened s) n k) (mark (opened s) 1 n k)) is (e ∙ step_is) in
        let value_is : p.value ≡ value (opened s) 1 n k = ap (λ (x : TimedPoint). x.value) q in
        let time_is : p.time ≡ time (opened s) n k = ap (λ (x : TimedPoint). x.time) q in
        let near = point_near s b 1 n k answers in
        record {
          value_is = value_is;
          time_is = time_is;
          mark_is = ap (λ (x : TimedPoint). x.mark) q;
          value_clean = subst (λ (x : Float). T (not (is_nan x))) (sym value_is) (clean 149 (value (opened s) 1 n k) near.value_near.is_whole);
          time_clean = subst (λ (x : Float). T (not (is_nan x))) (sym time_is) (clean 1074 (time (opened s) n k) near.time_near.is_whole);
        }

    -- there is room for one segment more
    pub segment-small : n < 2147483648
    segment-small = omega (arith, (asked n walks).segment, (good-opened s b (walk_accepts s 1 n walks)).counts.subarrays_long)

    here : rest s spot ≡ point_line (opened s) n k ++ lines_from (opened s) n (suc k)
    unfolding rest
    here = ap (λ (r : ℕ). rest_by r (lines_from (opened s) n k)) z ∙ lines_point (opened s) n k below

    module _ (q : Place) (e : q ≡ after_of spot.place) where
      moved : q ≡ accepted_place s 1 n (k + 1)
      moved =
          e ∙ ap (λ (t : Bool). cond t (moved_to (k + 1) spot.place) spot.place) (lt-ltb k spot.place.points (t.before z)) ∙ ap (moved_to (k + 1)) is

      -- the segment's next point
      abbrev next : Spot
      next = record { segment = n; place = q }

      pub goes_on : q.k < q.points → Stands s next × (rest s spot ≡ point_line (opened s) n k ++ rest s next)
      unfolding rest
      goes_on h = (
        record {
          placed = moved ∙ ap (moved_to (k + 1)) (sym (begins s 1 n walks)) ∙ ap (λ (j : ℕ). moved_to j (place_of s 1 n)) (sym (ap (λ (p : Place). p.k) moved));
          before = λ _. h;
        },
        here
            ∙ ap (λ (j : ℕ). point_line (opened s) n k ++ lines_from (opened s) n j) (sym (add-one k))
            ∙ ap (λ (p : Place). point_line (opened s) n k ++ rest_by p.refusal (lines_from (opened s) n p.k)) (sym moved),
      )

      -- or, behind the last, the next segment's first
      pub goes_over : q.points ≤ q.k → rest s spot ≡ point_line (opened s) n k ++ rest s (spot_at s (n + 1))
      goes_over h =
          let l : M ≤ suc k = omega (arith, ap (λ (p : Place). p.k) moved, ap (λ (p : Place). p.points) moved) in
          here ∙ ap (λ (x : List ℕ). point_line (opened s) n k ++ x) (go l (ltb n g) (ltb-true n g) (ltb-false n g))
        where
          go : M ≤ suc k → (t : Bool) → (t ≡ true → n < g) → (t ≡ false → g ≤ n) → lines_from (opened s) n (suc k) ≡ rest s (spot_at s (n + 1))
          go l true f h =
              let e : walk_refusal s 1 (n + 1) ≡ 0 = walked (n + 1) (walk_accepts s 1 n walks) (omega arith) (omega (arith, f refl)) in
              lines-segment (opened s) n (suc k) l (f refl) ∙ ap (λ (m : ℕ). lines_from (opened s) m 0) (sym (add-one n)) ∙ sym (rest_at (n + 1) e)
          go l false f h = lines_end (opened s) n (suc k) l (h refl) ∙ sym (rest_none (n + 1) (λ e. omega (arith, h refl, (asked (n + 1) e).segment)))

  -- what is left at a spot can be counted
  pub rest-most : (spot : Spot) → Stands s spot → length (rest s spot) ≤ line_room * 2147483648
  unfolding rest
  rest-most spot t = go spot.place.refusal refl
    where
      go : (r : ℕ) → spot.place.refusal ≡ r → length (rest_by r (lines_from (opened s) spot.segment spot.place.k)) ≤ line_room * 2147483648
      go zero z =
          let e = walks spot t z in
          let a = asked spot.segment e in
          let c = (good-opened s b (walk_accepts s 1 spot.segment e)).counts in
          lines-most (opened s) spot.segment spot.place.k a.from_one a.segment (below spot t z) (omega (arith, c.count_long, (shape_opened s b (walk_accepts s 1 spot.segment e)).whole))
      go (suc r) z = omega arith

  -- ---- the whole

  pub whole_long : 65536 < length s → listing s ≡ front s ++ rest s (spot_at s 0)
  unfolding listing front
  whole_long h =
      let e = lt-ltb 65536 (length s) h in
      ap (λ (t : Bool). cond t too_long (listing_by (refusal s) (opened s))) e
      ∙ sym (append-nil too_long)
      ∙ ap₂ {C = List ℕ} (λ (x y : List ℕ). x ++ y) (sym (ap (λ (t : Bool). cond t too_long (front_by (refusal s) (opened s).head)) e)) (sym (rest_none 0 (λ e. omega (arith, (asked 0 e).from_one))))

  pub whole_short : length s ≤ 65536 → listing s ≡ front s ++ rest s (spot_at s 1)
  unfolding listing front flatten
  whole_short h =
      let e = le-ltb 65536 (length s) h in
      ap (λ (t : Bool). cond t too_long (listing_by (refusal s) (opened s))) e
      ∙ go (refusal s) refl
      ∙ ap (λ (x : List ℕ). x ++ rest s (spot_at s 1)) (sym (ap (λ (t : Bool). cond t too_long (front_by (refusal s) (opened s).head)) e))
    where
      go : (r : ℕ) → refusal s ≡ r → listing_by r (opened s) ≡ front_by r (opened s).head ++ rest s (spot_at s 1)
      go zero q =
          let one : g ≡ g - 0 = omega arith in
          ap (λ (ns : List ℕ). first_line (opened s).head ++ flatten (map (λ n. segment_lines (opened s) n 0) ns)) (ap (up_from 1) one ∙ up_cons 1 0 g (omega arith))
          ∙ ap (λ (x : List ℕ). first_line (opened s).head ++ x) (sym (rest_at 1 (walked 1 q (omega arith) (omega arith))))
      go (suc r) q = sym (append-nil (refused_line (suc r))) ∙ ap (λ (x : List ℕ). refused_line (suc r) ++ x) (sym (rest_none 1 (λ e. omega (arith, walk_accepts s 1 1 e))))

  -- the spot behind the first line
  pub behind-first : (n : ℕ) (r : Spot) → r ≡ spot_at s n → listing s ≡ front s ++ rest s (spot_at s n) → Stands s r × (listing s ≡ front s ++ rest s r)
  behind-first n r e w = subst (λ (r : Spot). Stands s r × (listing s ≡ front s ++ rest s r)) (sym e) (stands_at n, w)
