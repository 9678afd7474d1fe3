-- Segment k of an accepted join's block has the samples, values, marks and times of the part whose index is k (`joined-block`).
use mathlib.Core.Path.{◌≡◌, refl, sym, ap, ap₂, ◌∙◌, subst}
use mathlib.Core.Logic.{◌⊎◌, inl, inr, ⊎_elim}
use Prim.Native.Nat.{ℕ, zero, suc, ◌+◌, ◌-◌, ◌*◌, ◌≤◌, ◌<◌, max}
use native.Mathlib.Nat.{suc-ne-zero, mul_assoc, mul-le-mul_right}
use native.Mathlib.Omega.{arith}
use mathlib.Core.Bool.{Bool, true, false, cond, ◌||◌}
use mathlib.Core.List.{List, [], ◌∷◌, map, flatten}
use lib.ListN.{length, get_or, drop, length-map, length-replicate}
use lib.Seq.{get_or-take, get_or-drop}
use lib.Dec.{leb, ltb, eqb}
use borrow.Author.Tests.{eq-eqb, ne_eqb, le-leb, lt-ltb}
use lib.Ieee.{binary32, binary64, of_bits}
use Rattle.rules.specs.Numbers.{Bytes, signed}
use Rattle.rules.specs.Wave.{Wave, size_of, segments, points, two_length, trig_length, ris_length}
use Rattle.rules.specs.Rules.{first, either, payload, rules, refusal, opened}
use Rattle.rules.specs.Points.{array, sample, value_of, value, at_rail, mark, place, Rule, Segment, Horizontal, time_by, ris_rule, rule_of, time, chosen, inside, point_rules, point_refusal}
use Rattle.rules.specs.Cut.{or_else}
use Rattle.rules.proofs.Tests.{first_append}
use Rattle.rules.proofs.Rows.{Rows, total-rows}
use Rattle.rules.proofs.Accepts.{Good, good_of}
use Rattle.rules.proofs.Opened.{obeys, rules_numbered}
use Rattle.joining.specs.Join.{index_of, part_at, parts_in, joined, joined_bytes, join_refusal}
use Rattle.joining.proofs.Lists.{Every, every_map, every_get_or, only_one}
use Rattle.joining.proofs.Parts.{parts-bytes}
use Rattle.joining.proofs.Index.{Within, every_at_index, index_at, index-within, part_at_own}
use Rattle.joining.proofs.Says.{Joins, join_says}
use Rattle.joining.proofs.Joined.{Part, nth, lead, two_wide, trig_wide, one_row, two_row, trig_row, size-alike, points-alike, segments-joined, points-joined, rows-two, rows-trig}
use Rattle.joining.proofs.Reading.{waves_of, length_waves, wave-at, all-parts, some_waves, joined_bytes_lem, joined-read}

-- ---- rows

pub rows-count : (g k : ℕ) (t : List (List ℕ)) → Rows g k t → length t ≡ g
rows-count g k t e = sym (length-map t length) ∙ ap length e ∙ length-replicate g k

-- the row that a part gives, by its place among the parts
row_at : (f : Wave → List (List ℕ)) (k : ℕ) (ws : List Wave) (q : Wave) (i : ℕ) → Every (λ w. Rows 1 k (f w)) ws → i < length ws → get_or (flatten (map f ws)) i [] ≡ get_or (f (get_or ws i q)) 0 []
row_at f k ws q i h l =
    let t : List (List ℕ) = flatten (map f ws) in
    let e : i + 0 ≡ i = omega arith in
    ap (λ (j : ℕ). get_or t j []) (sym e) ∙ sym (get_or-drop i t 0 []) ∙ sym (get_or-take 1 (drop i t) 0 [] (omega arith))
    ∙ ap (λ (u : List (List ℕ)). get_or u 0 []) (only_one f ws q i (every_map (λ w r. rows-count 1 k (f w) r) ws h) l)

-- ---- a length is 0 in n rows where it is 0 in one

module _ (x y : ℕ) (f : x ≡ 0 → y ≡ 0) (g : y ≡ 0 → x ≡ 0) where
  zero_alike : eqb x 0 ≡ eqb y 0
  zero_alike = go x f g
    where
      go : (x : ℕ) → (x ≡ 0 → y ≡ 0) → (y ≡ 0 → x ≡ 0) → eqb x 0 ≡ eqb y 0
      go zero f g = sym (eq-eqb y 0 (f refl))
      go (suc x) f g = ne_eqb (suc x) 0 (omega arith) ∙ sym (ne_eqb y 0 (λ e. absurd (suc-ne-zero x (g e))))

  some_alike : ltb 0 x ≡ ltb 0 y
  some_alike = go x y f g
    where
      go : (x y : ℕ) → (x ≡ 0 → y ≡ 0) → (y ≡ 0 → x ≡ 0) → ltb 0 x ≡ ltb 0 y
      go zero y f g = ap (ltb 0) (sym (f refl))
      go (suc x) zero f g = absurd (suc-ne-zero x (g refl))
      go (suc x) (suc y) f g = lt-ltb 0 (suc x) (omega arith) ∙ sym (lt-ltb 0 (suc y) (omega arith))

module _ (n k c : ℕ) (h : 1 ≤ n) where
  none_one : n * k * c ≡ 0 → 1 * k * c ≡ 0
  none_one e = let l : 1 * k * c ≤ n * k * c = mul-le-mul_right c (mul-le-mul_right k h) in omega arith

  none_many : 1 * k * c ≡ 0 → n * k * c ≡ 0
  none_many e = let z : k * c ≡ 0 = ap (λ (m : ℕ). m * c) (one-mul-back k) ∙ e in mul_assoc n k c ∙ ap (λ (m : ℕ). n * m) z ∙ omega arith
    where
      one-mul-back : (k : ℕ) → k ≡ 1 * k
      one-mul-back k = omega arith

-- ---- the wave that part i gives, beside the joined wave

module _ (ws : List Wave) (some : 1 ≤ length ws) (ps : Every (Part (lead ws)) ws) (i : ℕ) (l : i < length ws) where
  pub part-nth : Part (lead ws) (nth ws i)
  part-nth = every_get_or (Part (lead ws)) ws i (opened []) l ps

  back : suc i - 1 ≡ i
  back = omega arith

  row_of : (a : ℕ) → get_or (array a (joined ws)) (suc i - 1) [] ≡ get_or (array a (nth ws i)) 0 []
  unfolding joined
  row_of a = go (eqb a 1)
    where
      go : (t : Bool) → get_or (cond t (flatten (map (λ (v : Wave). v.one) ws)) (flatten (map (λ (v : Wave). v.two) ws))) (suc i - 1) [] ≡ get_or (cond t (nth ws i).one (nth ws i).two) 0 []
      go true =
          ap (λ (j : ℕ). get_or (flatten (map (λ (v : Wave). v.one) ws)) j []) back
          ∙ row_at (λ (v : Wave). v.one) (points (lead ws).head) ws (opened []) i (every_map (one_row (lead ws)) ws ps) l
      go false =
          ap (λ (j : ℕ). get_or (flatten (map (λ (v : Wave). v.two) ws)) j []) back
          ∙ row_at (λ (v : Wave). v.two) (two_wide (lead ws)) ws (opened []) i (every_map (two_row (lead ws)) ws ps) l

  sample-joined : (a k : ℕ) → sample (joined ws) a (suc i) k ≡ sample (nth ws i) a 1 k
  unfolding sample joined
  sample-joined a k =
      let z : size_of (joined ws).head ≡ size_of (nth ws i).head = sym (size-alike (lead ws) (nth ws i) part-nth) in
      ap₂ (λ n r. signed n (get_or r k 0)) z (row_of a)

  value-joined : (a k : ℕ) → value (joined ws) a (suc i) k ≡ value (nth ws i) a 1 k
  unfolding value joined
  value-joined a k =
      let w : Wave = nth ws i in
      let g : (joined ws).head 156 ≡ w.head 156 = sym (part-nth.head 156 refl) in
      let o : (joined ws).head 160 ≡ w.head 160 = sym (part-nth.head 160 refl) in
      λ x. value_of (of_bits binary32 (g x)) (of_bits binary32 (o x)) (sample-joined a k x)

  mark-joined : (a k : ℕ) → mark (joined ws) a (suc i) k ≡ mark (nth ws i) a 1 k
  unfolding mark joined
  mark-joined a k =
      let z : size_of (joined ws).head ≡ size_of (nth ws i).head = sym (size-alike (lead ws) (nth ws i) part-nth) in ap₂ (λ n x. at_rail n x) z (sample-joined a k)

  -- TRIGTIME and array 2 are there in the joined wave where they are there in the part
  trig_there : eqb (trig_length (joined ws).head) 0 ≡ eqb (trig_length (nth ws i).head) 0
  unfolding joined
  trig_there =
      let q : Wave = lead ws in
      let w : Wave = nth ws i in
      let n : trig_length (joined ws).head ≡ length ws * trig_wide q * 8 = ap (λ (m : ℕ). m * 8) (total-rows (length ws) (trig_wide q) (joined ws).trig (rows-trig ws some ps)) in
      let o : trig_length w.head ≡ 1 * trig_wide q * 8 = part-nth.fits.trig-length ∙ ap (λ (m : ℕ). m * 8) (total-rows 1 (trig_wide q) w.trig (trig_row q w part-nth)) in
      ap (λ (m : ℕ). eqb m 0) n ∙ zero_alike (length ws * trig_wide q * 8) (1 * trig_wide q * 8) (none_one (length ws) (trig_wide q) 8 some) (none_many (length ws) (trig_wide q) 8 some) ∙ sym (ap (λ (m : ℕ). eqb m 0) o)

  two_there : ltb 0 (two_length (joined ws).head) ≡ ltb 0 (two_length (nth ws i).head)
  unfolding joined
  two_there =
      let q : Wave = lead ws in
      let w : Wave = nth ws i in
      let z : ℕ = size_of q.head in
      let n : two_length (joined ws).head ≡ length ws * two_wide q * z = ap (λ (m : ℕ). m * z) (total-rows (length ws) (two_wide q) (joined ws).two (rows-two ws some ps)) in
      let o : two_length w.head ≡ 1 * two_wide q * z = part-nth.fits.two-length ∙ ap₂ {C = ℕ} (λ m k. m * k) (total-rows 1 (two_wide q) w.two (two_row q w part-nth)) (size-alike q w part-nth) in
      ap (ltb 0) n ∙ some_alike (length ws * two_wide q * z) (1 * two_wide q * z) (none_one (length ws) (two_wide q) z some) (none_many (length ws) (two_wide q) z some) ∙ sym (ap (ltb 0) o)

  rules-joined : (a k : ℕ) → first (point_rules a (suc i) k (joined ws).head) ≡ first (point_rules a 1 k (nth ws i).head)
  unfolding point_rules chosen inside
  rules-joined a k =
      let w : Wave = nth ws i in
      let n : leb (suc i) (segments (joined ws).head) ≡ leb 1 (segments w.head) =
      le-leb (suc i) (segments (joined ws).head) (omega (arith, segments-joined ws some ps)) ∙ sym (le-leb 1 (segments w.head) (omega arith)) in
      let o : leb 1 (suc i) ≡ leb 1 1 = le-leb 1 (suc i) (omega arith) in
      let m : points (joined ws).head ≡ points w.head = points-joined ws some ps ∙ sym (points-alike (lead ws) w part-nth) in
      λ x. first ((9, either a 1 2 ∷ (eqb a 1 || two_there x) ∷ []) ∷ (10, o x ∷ n x ∷ []) ∷ (11, ltb k (m x) ∷ []) ∷ [])

  module _ (ris : (ris_length (lead ws).head ≡ 0) ⊎ (length ws ≡ 1)) where
    -- RISTIME is the first part's, and only where there is no other
    timed : (d : ℕ) (h : Rule) (j : ℕ) → cond (eqb (ris_length (lead ws).head) 0) h (ris_rule (of_bits binary32 d) (lead ws).ris j) ≡ cond (eqb (ris_length (lead ws).head) 0) h (ris_rule (of_bits binary32 d) (nth ws i).ris j)
    timed d h j = go ris
      where
        go : (ris_length (lead ws).head ≡ 0) ⊎ (length ws ≡ 1) → cond (eqb (ris_length (lead ws).head) 0) h (ris_rule (of_bits binary32 d) (lead ws).ris j) ≡ cond (eqb (ris_length (lead ws).head) 0) h (ris_rule (of_bits binary32 d) (nth ws i).ris j)
        go (inl e) =
            let t : eqb (ris_length (lead ws).head) 0 ≡ true = eq-eqb (ris_length (lead ws).head) 0 e in
            ap (λ (b : Bool). cond b h (ris_rule (of_bits binary32 d) (lead ws).ris j)) t ∙ sym (ap (λ (b : Bool). cond b h (ris_rule (of_bits binary32 d) (nth ws i).ris j)) t)
        go (inr e) = let z : 0 ≡ i = omega arith in ap (λ (n : ℕ). cond (eqb (ris_length (lead ws).head) 0) h (ris_rule (of_bits binary32 d) (nth ws n).ris j)) z

    rule_joined : (j : ℕ) → rule_of (joined ws) (suc i) j ≡ rule_of (nth ws i) 1 j
    unfolding rule_of joined
    rule_joined j =
        let q : Wave = lead ws in
        let w : Wave = nth ws i in
        let p : Part q w = part-nth in
        let row : get_or (joined ws).trig (suc i - 1) [] ≡ get_or w.trig 0 [] =
        ap (λ (n : ℕ). get_or (joined ws).trig n []) back ∙ row_at (λ (v : Wave). v.trig) (trig_wide q) ws (opened []) i (every_map (trig_row q) ws ps) l in
        let d : q.head 176 ≡ w.head 176 = sym (p.head 176 refl) in
        let o : q.head 180 ≡ w.head 180 = sym (p.head 180 refl) in
        let r : ris_length q.head ≡ ris_length w.head = sym (p.head 52 refl) in
        ap (λ (u : Rule). cond (eqb (trig_length (joined ws).head) 0) u (Segment (of_bits binary32 (q.head 176)) (of_bits binary64 (get_or (get_or (joined ws).trig (suc i - 1) []) 1 0))))
        (timed (q.head 176) (Horizontal (of_bits binary32 (q.head 176)) (of_bits binary64 (q.head 180))) j)
        ∙ λ x. cond (trig_there x)
        (cond (eqb (r x) 0) (Horizontal (of_bits binary32 (d x)) (of_bits binary64 (o x))) (ris_rule (of_bits binary32 (d x)) w.ris j))
        (Segment (of_bits binary32 (d x)) (of_bits binary64 (get_or (row x) 1 0)))

    time-joined : (k : ℕ) → time (joined ws) (suc i) k ≡ time (nth ws i) 1 k
    unfolding time joined
    time-joined k =
        let w : Wave = nth ws i in
        let e : place (joined ws) k ≡ place w k = ap₂ {C = ℕ} (λ f s. f + max 1 s * k) (sym (part-nth.head 132 refl)) (sym (part-nth.head 136 refl)) in
        ap (λ (j : ℕ). time_by (rule_of (joined ws) (suc i) j) j) e ∙ ap (λ (r : Rule). time_by r (place w k)) (rule_joined (place w k))

-- ---- the blocks

-- segment k of the block t is the one segment of the block p: each point is answered or refused alike, and has its sample, value, mark and time
pub record SegmentIs (t : List ℕ) (k : ℕ) (p : List ℕ) : Type 0 where
  pub answered : (a j : ℕ) → point_refusal t a k j ≡ point_refusal p a 1 j
  pub same-sample : (a j : ℕ) → sample (opened t) a k j ≡ sample (opened p) a 1 j
  pub same-value : (a j : ℕ) → value (opened t) a k j ≡ value (opened p) a 1 j
  pub same-mark : (a j : ℕ) → mark (opened t) a k j ≡ mark (opened p) a 1 j
  pub same-time : (j : ℕ) → time (opened t) k j ≡ time (opened p) 1 j

accepted_point : (s : List ℕ) (a n k : ℕ) → refusal s ≡ 0 → point_refusal s a n k ≡ first (point_rules a n k (opened s).head)
unfolding point_refusal refusal
accepted_point s a n k e = first_append (rules s) (point_rules a n k (opened s).head) (rules_numbered s) ∙ ap (λ (m : ℕ). or_else m (first (point_rules a n k (opened s).head))) e

pub good_accepted : (s : List ℕ) → refusal s ≡ 0 → Good (length (payload s)) (opened s)
unfolding rules opened
good_accepted s e = good_of (payload s) ((obeys s).0 e).1.1

module _ (ps : List (List ℕ)) (b : Every Bytes ps) (j : Joins ps) where
  some : 1 ≤ length (waves_of ps)
  some = some_waves ps b j.together

  pub many_joined : segments (joined (waves_of ps)).head ≡ length ps
  many_joined = segments-joined (waves_of ps) some (all-parts ps b j.together) ∙ length_waves ps

  -- RISTIME is there in one part alone, or not at all
  pub ris-joined : (ris_length (lead (waves_of ps)).head ≡ 0) ⊎ (length (waves_of ps) ≡ 1)
  ris-joined = go (subst (λ (w : Wave). Good (length (payload (joined_bytes ps))) w) (joined-read ps b j) (good_accepted (joined_bytes ps) j.block))
    where
      same : ris_length (joined (waves_of ps)).head ≡ ris_length (lead (waves_of ps)).head
      same = unfold joined in refl

      go : Good (length (payload (joined_bytes ps))) (joined (waves_of ps)) → (ris_length (lead (waves_of ps)).head ≡ 0) ⊎ (length (waves_of ps) ≡ 1)
      go g =
          ⊎_elim (λ (e : ris_length (joined (waves_of ps)).head ≡ 0). inl (sym same ∙ e))
          (λ (e : (segments (joined (waves_of ps)).head ≡ 1) × (trig_length (joined (waves_of ps)).head ≡ 0)). inr (omega (arith, e.0, many_joined, length_waves ps))) g.counts.ris-alone

  segment-nth : (i : ℕ) → i < length ps → SegmentIs (joined_bytes ps) (suc i) (part_at (suc i) ps)
  segment-nth i l =
      let ws : List Wave = waves_of ps in
      let t : List ℕ = joined_bytes ps in
      let p : List ℕ = part_at (suc i) ps in
      let all : Every (Part (lead ws)) ws = all-parts ps b j.together in
      let m : i < length ws = omega (arith, length_waves ps) in
      let r : opened t ≡ joined ws = joined-read ps b j in
      let o : nth ws i ≡ opened p = wave-at ps i l in
      let g : refusal p ≡ 0 = every_at_index (λ (x : List ℕ). refusal x ≡ 0) (suc i) ps (j.together.once (suc i) (omega arith) (omega arith)) j.together.good in
      record {
        answered = λ a k.
            accepted_point t a (suc i) k j.block ∙ ap (λ (w : Wave). first (point_rules a (suc i) k w.head)) r ∙ rules-joined ws some all i m a k
            ∙ ap (λ (w : Wave). first (point_rules a 1 k w.head)) o ∙ sym (accepted_point p a 1 k g);
        same-sample = λ a k. ap (λ (w : Wave). sample w a (suc i) k) r ∙ sample-joined ws some all i m a k ∙ ap (λ (w : Wave). sample w a 1 k) o;
        same-value = λ a k. ap (λ (w : Wave). value w a (suc i) k) r ∙ value-joined ws some all i m a k ∙ ap (λ (w : Wave). value w a 1 k) o;
        same-mark = λ a k. ap (λ (w : Wave). mark w a (suc i) k) r ∙ mark-joined ws some all i m a k ∙ ap (λ (w : Wave). mark w a 1 k) o;
        same-time = λ k. ap (λ (w : Wave). time w (suc i) k) r ∙ time-joined ws some all i m ris-joined k ∙ ap (λ (w : Wave). time w 1 k) o;
      }

  pub segment-at : (k : ℕ) → Within 1 (length ps) k → SegmentIs (joined_bytes ps) k (part_at k ps)
  segment-at zero h = absurd (omega arith)
  segment-at (suc i) h = segment-nth i (omega arith)

-- The block of an accepted join: good, read as the joined wave, of as many segments as there are parts; each part is the segment of its index, and each index from 1 to n is that of a part
pub record JoinedBlock (ps : List (List ℕ)) : Type 0 where
  pub bytes : Bytes (joined_bytes ps)
  pub accepted : refusal (joined_bytes ps) ≡ 0
  pub read : opened (joined_bytes ps) ≡ joined (waves_of ps)
  pub many : segments (opened (joined_bytes ps)).head ≡ length ps
  pub placed : (i : ℕ) → i < length ps → Within 1 (length ps) (index_of (get_or ps i [])) × SegmentIs (joined_bytes ps) (index_of (get_or ps i [])) (get_or ps i [])
  pub filled : (k : ℕ) → Within 1 (length ps) k → (index_of (part_at k ps) ≡ k) × SegmentIs (joined_bytes ps) k (part_at k ps)

pub joined-block : (s : List ℕ) → Bytes s → (room : ℕ) → join_refusal s room ≡ 0 → JoinedBlock (parts_in s)
joined-block s b room e = go (parts_in s) (parts-bytes s b) (join_says s room e).0
  where
    go : (ps : List (List ℕ)) → Every Bytes ps → Joins ps → JoinedBlock ps
    go ps bs j = record {
      bytes = joined_bytes_lem ps bs j;
      accepted = j.block;
      read = joined-read ps bs j;
      many = ap (λ (w : Wave). segments w.head) (joined-read ps bs j) ∙ many_joined ps bs j;
      placed = λ i l.
          let h : Within 1 (length ps) (index_of (get_or ps i [])) = index-within ps j.together.once i l in
          (h, subst (SegmentIs (joined_bytes ps) (index_of (get_or ps i []))) (part_at_own ps j.together.once i l) (segment-at ps bs j (index_of (get_or ps i [])) h));
      filled = λ k h. (index_at k ps (j.together.once k h.0 h.1), segment-at ps bs j k h);
    }
