-- What every accepted strip answers: every point is in one column (`in_one_column`) and none is empty (`column-some`), each column's least and greatest sample
-- (`strip-column`), the least of the leasts and the greatest of the greatests (`strip-least`, `strip-greatest`), the first point that holds the greatest
-- (`strip-peak`), the marks of a fill (`strip-marks`), where W is even that its columns joined in neighbouring pairs are the strip of W/2 (`strip-halved`), which
-- is accepted too (`half_accepted`), and numbers that fit their types (`strip_typed`).
use mathlib.Core.Path.{◌≡◌, refl, sym, ap, ap₂, ◌∙◌, subst}
use Prim.Native.Nat.{ℕ, zero, suc, ◌+◌, ◌-◌, ◌*◌, ◌/◌, ◌%◌, ◌^◌, ◌≤◌, ◌<◌}
use native.Mathlib.Nat.{lt_of_lt_of_le, mul-le-mul_left, div-le_self}
use native.Mathlib.Omega.{arith}
use mathlib.Core.Bool.{Bool, true, cond, false≢true}
use mathlib.Core.List.{List, [], ◌++◌, map}
use mathlib.Core.Option.{Option, none, some}
use lib.ListN.{length, get_or, length-map}
use lib.Dec.{T, lit≤}
use lib.IntN.{ℤ, pos}
use lib.Signed.{le_z, mag}
use borrow.Author.Tests.{leb-true, le-leb}
use Rattle.rules.specs.Numbers.{Bytes, equal, up_from}
use Rattle.rules.specs.Wave.{size_of, segments, points, array_count}
use Rattle.rules.specs.Rules.{rules, refusal, opened}
use Rattle.rules.specs.Points.{array, sample, mark_count_of, mark_count, segment_rules, point_refusal}
use Rattle.rules.proofs.Tests.{Held, first_held, held_first, held_append, held_left, held_right, numbered_append}
use Rattle.rules.proofs.Opened.{obeys, rules_numbered, good-opened, sized-opened, length-payload}
use Rattle.rules.proofs.Thin.{length-up_from, get_or-up_from}
use Rattle.rules.proofs.Asked.{signed-fits, raw_below}
use Rattle.rules.proofs.Marks.{mark_count_le}
use Rattle.fills.proofs.Marking.{equal_refl, equal-same}
use Rattle.rules.proofs.Asked.{segment-points}
use Rattle.points.proofs.Fillings.{map_up}
use Rattle.crossings.specs.Crossings.{first_from}
use Rattle.crossings.specs.Answers.{First}
use Rattle.crossings.proofs.Firsts.{at_found, none_found}
use Rattle.columns.specs.Columns.{lesser, greater, joined, least, greatest, sum_of, run, start, InColumn, column, columns}
use Rattle.columns.proofs.Extremes.{Picks, picks_lesser, picks_greater, ge_ℤ}
use Rattle.columns.proofs.Runs.{run-first, run_is}
use Rattle.columns.proofs.Columns.{one-column, start_mono, start-end, start_grows, columns-joined, pairs-columns}
use Rattle.strips.proofs.Telling.{sum_fits}
use Rattle.strips.specs.Strips.{Strip, or_zero, peak_of, strip, strip_of, halved, strip_rules, strip_refusal}

-- ---- of any samples

pub halves : (size : ℕ) (f : ℕ → ℤ) (m v : ℕ) → 0 < v → v * 2 ≤ m → halved (strip size f m (v * 2)) ≡ strip size f m v
unfolding halved strip
halves size f m v p l = λ i. record {
  leasts = pairs-columns f m v p lesser le_z picks_lesser l i;
  greatests = pairs-columns f m v p greater ge_ℤ picks_greater l i;
  sum = sum_of (run f 0 m);
  marks = mark_count_of size (run f 0 m);
  peak = peak_of f m;
}

-- k is the first of m points that holds the greatest of their samples f
pub record Peak (f : ℕ → ℤ) (m k : ℕ) : Type 0 where
  pub inside : k < m
  pub greatest : (j : ℕ) → j < m → T (le_z (f j) (f k))
  pub first : (j : ℕ) → j < k → f j ≡ f k → ⊥

module _ (f : ℕ → ℤ) (m : ℕ) (p : 0 < m) where
  abbrev g : ℤ
  g = greatest (run f 0 m)

  abbrev holding : ℕ → Bool
  holding k = equal (f k) g

  pub peak-first : Peak f m (peak_of f m)
  unfolding peak_of
  peak-first = go (first_from holding 0 m) refl
    where
      go : (x : Option ℕ) → first_from holding 0 m ≡ x → Peak f m (or_zero (first_from holding 0 m))
      go none e =
          let k = run_is f greater ge_ℤ picks_greater 0 m p in
          absurd (false≢true (sym ((none_found holding m e).fails k.0 k.2) ∙ subst (λ (z : ℤ). equal z g ≡ true) (sym k.3) (equal_refl g)))
      go (some k) e = subst (Peak f m) (sym (ap or_zero e)) (at k (at_found holding m k e))
        where
          at : (k : ℕ) → First holding m k × (k < m) → Peak f m k
          at k (r, l) =
              let is : f k ≡ g = equal-same (f k) g (r.passes l) in
              record {
                inside = l;
                greatest = λ j h. subst (λ (z : ℤ). T (le_z (f j) z)) (sym is) (run-first f greater ge_ℤ picks_greater 0 m j (omega arith) h);
                first = λ j h q. false≢true (sym (r.fails j h) ∙ subst (λ (z : ℤ). equal z g ≡ true) (sym (q ∙ is)) (equal_refl g));
              }

-- two that agree on the points have the same strip
module _ (f h : ℕ → ℤ) (m : ℕ) (same : (k : ℕ) → k < m → f k ≡ h k) where
  run-same : (a b : ℕ) → b ≤ m → run f a b ≡ run h a b
  run-same a b l = map_up f h a (b - a) (λ k p q. same k (omega arith))

  first-same : (t u : ℕ → Bool) (n i : ℕ) → ((k : ℕ) → k < i + n → t k ≡ u k) → first_from t i n ≡ first_from u i n
  unfolding first_from
  first-same t u zero i e = refl
  first-same t u (suc n) i e = ap₂ {C = Option ℕ} (λ b r. cond b (some i) r) (e i (omega arith)) (first-same t u n (suc i) (λ k l. e k (omega arith)))

  columns-same : (op : ℤ → ℤ → ℤ) (w : ℕ) → 0 < w → columns op f m w ≡ columns op h m w
  columns-same op w p =
      map_up (λ q. joined op (column f m w q)) (λ q. joined op (column h m w q)) 0 w
      (λ q _ l. ap (joined op) (run-same (start m w q) (start m w (suc q)) (omega (arith, start_mono m w p (suc q) w (omega arith), start-end m w p))))

  pub strip-same : (size w : ℕ) → 0 < w → strip size f m w ≡ strip size h m w
  unfolding strip peak_of
  strip-same size w p = λ i. record {
    leasts = columns-same lesser w p i;
    greatests = columns-same greater w p i;
    sum = sum_of (run-same 0 m (omega arith) i);
    marks = mark_count_of size (run-same 0 m (omega arith) i);
    peak = or_zero (firsts i);
  }
    where
      firsts : first_from (λ k. equal (f k) (greatest (run f 0 m))) 0 m ≡ first_from (λ k. equal (h k) (greatest (run h 0 m))) 0 m
      firsts = first-same (λ k. equal (f k) (greatest (run f 0 m))) (λ k. equal (h k) (greatest (run h 0 m))) m 0 (λ k l. ap₂ equal (same k (omega arith)) (ap greatest (run-same 0 m (omega arith))))

-- ---- of an accepted call

-- column q of w of m points with the samples f has this least and this greatest
pub record Column (f : ℕ → ℤ) (m w q : ℕ) (low high : ℤ) : Type 0 where
  pub none_below : (k : ℕ) → InColumn m w k q → T (le_z low (f k))
  pub none_above : (k : ℕ) → InColumn m w k q → T (le_z (f k) high)
  pub low_held : (k : ℕ) × InColumn m w k q × (f k ≡ low)
  pub high_held : (k : ℕ) × InColumn m w k q × (f k ≡ high)

-- a strip's numbers are of these types: so many bytes, and eight for the sum, with their sign
pub record Typed (size w m : ℕ) (t : Strip) : Type 0 where
  pub leasts : (q : ℕ) → q < w → mag (get_or t.leasts q (pos 0)) < 256 ^ size / 2
  pub greatests : (q : ℕ) → q < w → mag (get_or t.greatests q (pos 0)) < 256 ^ size / 2
  pub sum : mag t.sum < 2 ^ 63
  pub marks : t.marks ≤ m
  pub peak : t.peak < m

module _ (s : List ℕ) (a n w low high : ℕ) (e : strip_refusal s a n w low high ≡ 0) where
  abbrev m : ℕ
  m = points (opened s).head

  abbrev f : ℕ → ℤ
  f = sample (opened s) a n

  held : Held (rules s ++ (segment_rules a n (opened s).head ++ strip_rules w low high (opened s).head))
  unfolding strip_refusal segment_rules strip_rules
  held =
      let h : ℕ → ℕ = (opened s).head in
      first_held (rules s ++ (segment_rules a n h ++ strip_rules w low high h)) (numbered_append (rules s) (segment_rules a n h ++ strip_rules w low high h) (rules_numbered s) (omega arith)) e

  -- the block is accepted, each point of the segment is answered, and there are from one to M columns, with room for them
  pub accepted : refusal s ≡ 0
  accepted = (obeys s).1 (held_left (rules s) (segment_rules a n (opened s).head ++ strip_rules w low high (opened s).head) held)

  pub points_asked : (k : ℕ) → k < points (opened s).head → point_refusal s a n k ≡ 0
  unfolding strip_refusal strip_rules
  points_asked = segment-points s a n (strip_rules w low high (opened s).head) (omega arith) e

  own : Held (strip_rules w low high (opened s).head)
  own = let h : ℕ → ℕ = (opened s).head in held_right (segment_rules a n h) (strip_rules w low high h) (held_right (rules s) (segment_rules a n h ++ strip_rules w low high h) held)

  pub some-columns : 1 ≤ w
  unfolding strip_rules
  some-columns = leb-true 1 w own.0.0

  pub most-columns : w ≤ points (opened s).head
  unfolding strip_rules
  most-columns = leb-true w m own.0.1.0

  pub room : (w ≤ low) × (w ≤ high)
  unfolding strip_rules
  room = (leb-true w low own.1.0.0, leb-true w high own.1.0.1.0)

  -- every point is in exactly one column, and no column is empty
  pub in_one_column : (k : ℕ) → k < points (opened s).head → (q : ℕ) × InColumn (points (opened s).head) w k q × ((r : ℕ) → InColumn (points (opened s).head) w k r → q ≡ r)
  in_one_column k l = one-column m w k some-columns l

  pub column-some : (q : ℕ) → q < w → (k : ℕ) × InColumn (points (opened s).head) w k q
  column-some q h = (start m w q, record { column = h; from = omega arith; to = start_grows m w some-columns most-columns q })

  -- the least of the columns' leasts is the segment's, and the greatest of the greatests
  pub strip-least : least (strip_of (opened s) a n w).leasts ≡ least (run (sample (opened s) a n) 0 (points (opened s).head))
  unfolding strip_of strip
  strip-least = columns-joined f m w some-columns most-columns lesser le_z picks_lesser

  pub strip-greatest : greatest (strip_of (opened s) a n w).greatests ≡ greatest (run (sample (opened s) a n) 0 (points (opened s).head))
  unfolding strip_of strip
  strip-greatest = columns-joined f m w some-columns most-columns greater ge_ℤ picks_greater

  -- the point answered holds the greatest sample, and no earlier one does
  pub strip-peak : Peak (sample (opened s) a n) (points (opened s).head) (strip_of (opened s) a n w).peak
  unfolding strip_of strip
  strip-peak = peak-first f m (omega (arith, some-columns, most-columns))

  -- as many at the rail as a fill says
  pub strip-marks : (strip_of (opened s) a n w).marks ≡ mark_count (opened s) a n
  unfolding strip_of strip mark_count
  strip-marks = let z : m - 0 ≡ m = omega arith in ap (λ (k : ℕ). mark_count_of (size_of (opened s).head) (map f (up_from 0 k))) z

  -- ---- where W is even

  module _ (even : w % 2 ≡ 0) where
    -- joining the columns in neighbouring pairs gives exactly the strip of W/2 columns
    pub strip-halved : halved (strip_of (opened s) a n w) ≡ strip_of (opened s) a n (w / 2)
    unfolding strip_of
    strip-halved =
        let v : w ≡ w / 2 * 2 = omega (arith, even) in
        let size : ℕ = size_of (opened s).head in
        ap (λ (c : ℕ). halved (strip size f m c)) v ∙ halves size f m (w / 2) (omega (arith, even, some-columns)) (omega (arith, most-columns))

    -- and that one is accepted too
    pub half_accepted : strip_refusal s a n (w / 2) low high ≡ 0
    unfolding strip_refusal strip_rules
    half_accepted =
        let h : ℕ → ℕ = (opened s).head in
        let rest : Held (segment_rules a n h ++ strip_rules w low high h) = held_right (rules s) (segment_rules a n h ++ strip_rules w low high h) held in
        held_first (rules s ++ (segment_rules a n h ++ strip_rules (w / 2) low high h))
        (held_append (rules s) (segment_rules a n h ++ strip_rules (w / 2) low high h) ((obeys s).0 accepted)
        (held_append (segment_rules a n h) (strip_rules (w / 2) low high h) (held_left (segment_rules a n h) (strip_rules w low high h) rest) (
          (le-leb 1 (w / 2) (omega (arith, even, some-columns)), (le-leb (w / 2) m (omega (arith, most-columns)), tt)),
          ((le-leb (w / 2) low (omega (arith, room.0)), (le-leb (w / 2) high (omega (arith, room.1)), tt)), tt),
        )))

  -- ---- what is in a column

  module _ (q : ℕ) (h : q < w) where
    nth : (op : ℤ → ℤ → ℤ) → get_or (columns op f m w) q (pos 0) ≡ joined op (column f m w q)
    nth op = let z : 0 + q ≡ q = omega arith in get_or-up_from (λ j. joined op (column f m w j)) 0 w q (pos 0) h ∙ ap (λ (j : ℕ). joined op (column f m w j)) z

    module _ (op : ℤ → ℤ → ℤ) (R : ℤ → ℤ → Bool) (p : Picks op R) where
      each : (k : ℕ) → InColumn m w k q → T (R (get_or (columns op f m w) q (pos 0)) (f k))
      each k c = subst (λ (x : ℤ). T (R x (f k))) (sym (nth op)) (run-first f op R p (start m w q) (start m w (suc q)) k c.from c.to)

      kept : (k : ℕ) × InColumn m w k q × (f k ≡ get_or (columns op f m w) q (pos 0))
      kept =
          let k = run_is f op R p (start m w q) (start m w (suc q)) (start_grows m w some-columns most-columns q) in
          (k.0, record { column = h; from = k.1; to = k.2 }, k.3 ∙ sym (nth op))

    pub strip-column : Column (sample (opened s) a n) (points (opened s).head) w q (get_or (strip_of (opened s) a n w).leasts q (pos 0)) (get_or (strip_of (opened s) a n w).greatests q (pos 0))
    unfolding strip_of strip
    strip-column = record { none_below = each lesser le_z picks_lesser; none_above = each greater ge_ℤ picks_greater; low_held = kept lesser le_z picks_lesser; high_held = kept greater ge_ℤ picks_greater }

  pub strip-count : (length (strip_of (opened s) a n w).leasts ≡ w) × (length (strip_of (opened s) a n w).greatests ≡ w)
  unfolding strip_of strip
  strip-count = (many lesser, many greater)
    where
      many : (op : ℤ → ℤ → ℤ) → length (columns op f m w) ≡ w
      many op = length-map (up_from 0 w) (λ q. joined op (column f m w q)) ∙ length-up_from 0 w

  -- ---- the numbers' types

  module _ (b : Bytes s) where
    -- a segment of an accepted block has no more points than a payload has bytes
    pub points-most : points (opened s).head ≤ 16777216
    points-most =
        let h : ℕ → ℕ = (opened s).head in
        let g = good-opened s b accepted in
        omega (arith, div-le_self (array_count h) (segments h), mul-le-mul_left (array_count h) (wide (h 32)), g.counts.one, g.tile.sum, length-payload s b accepted, (sized-opened s b accepted).most)
      where
        wide : (k : ℕ) → 1 ≤ k + 1
        wide k = omega arith

    typed : (k : ℕ) → k < points (opened s).head → mag (sample (opened s) a n k) < 256 ^ size_of (opened s).head / 2
    unfolding sample
    typed k l = signed-fits (size_of (opened s).head) (get_or (get_or (array a (opened s)) (n - 1) []) k 0) (omega arith) (raw_below s b a n k (points_asked k l))

    words : (k : ℕ) → k < points (opened s).head → mag (sample (opened s) a n k) < 2 ^ 15
    words k l = lt_of_lt_of_le (typed k l) (half ((opened s).head 32) (good-opened s b accepted).kind)
      where
        half : (z : ℕ) → z ≤ 1 → 256 ^ (z + 1) / 2 ≤ 2 ^ 15
        half zero h = lit≤ tt
        half (suc zero) h = lit≤ tt
        half (suc (suc z)) h = absurd (omega arith)

    pub strip_typed : Typed (size_of (opened s).head) w (points (opened s).head) (strip_of (opened s) a n w)
    strip_typed = record {
      leasts = λ q h. let k = (strip-column q h).low_held in subst (λ (x : ℤ). mag x < 256 ^ size_of (opened s).head / 2) k.2 (typed k.0 (reach q h k.0 k.1));
      greatests = λ q h. let k = (strip-column q h).high_held in subst (λ (x : ℤ). mag x < 256 ^ size_of (opened s).head / 2) k.2 (typed k.0 (reach q h k.0 k.1));
      sum = unfold strip_of strip in (sum_fits f m points-most words).sfits;
      marks = subst (λ (k : ℕ). k ≤ m) (sym strip-marks) (mark_count_le (opened s) a n);
      peak = strip-peak.inside;
    }
      where
        reach : (q : ℕ) → q < w → (k : ℕ) → InColumn m w k q → k < m
        reach q h k c = omega (arith, c.to, start_mono m w some-columns (suc q) w h, start-end m w some-columns)
