-- When the joined block breaks 01's rules: exactly where its L is above 16,777,216, or RISTIME is there and there is more than one part, or a trigger time is less than the one before it (`block-good`). For the code, which cannot write the block to find out.
use mathlib.Core.Path.{◌≡◌, refl, sym, ap, ◌∙◌, subst}
use mathlib.Core.Logic.{◌⊎◌, inl, inr, ⊎_elim, ◌↔◌}
use Prim.Native.Nat.{ℕ, ◌+◌, ◌-◌, ◌*◌, ◌/◌, ◌%◌, ◌≤◌}
use native.Mathlib.Nat.{mul_assoc, mul-mod_right, mul-le-mul_left, one-le-mul}
use native.Mathlib.Omega.{arith}
use mathlib.Core.Bool.{Bool, true, false}
use mathlib.Core.List.{List, [], ◌∷◌, ◌++◌, map, flatten}
use lib.ListN.{length, get_or}
use lib.Dec.{eqb}
use Rattle.rules.specs.Numbers.{Bytes, total, up_from}
use Rattle.rules.specs.Wave.{Wave, size_of, segments, points, sparsing, first_point, trig_length, two_length, ris_length, lengths_of, encode}
use Rattle.rules.specs.Rules.{every?, named, payload, refusal, opened, finite64, trigger_times, ascending, timed}
use Rattle.rules.proofs.Tests.{and_true, and_intro}
use Rattle.rules.proofs.Facts.{Tiled, Counted, Placed, Measured}
use Rattle.rules.proofs.Rows.{Rows, Shape, total-rows}
use Rattle.rules.proofs.Waves.{Fits}
use Rattle.rules.proofs.Accepts.{Good, accepted, length-encode}
use Rattle.rules.proofs.Opened.{fits-opened}
use Rattle.joining.specs.Join.{indexed, part_at, joined, joined_bytes, common}
use Rattle.joining.proofs.Lists.{Every, every_map, every_get_or, flatten_append}
use Rattle.joining.proofs.Index.{every_at_index}
use Rattle.joining.proofs.Alike.{heads_alike}
use Rattle.joining.proofs.Says.{Together, Joins}
use Rattle.joining.proofs.Joined.{Part, lead, two_wide, trig_wide, one_row, two_row, trig_row, part-lead, length_of, segments-joined, points-joined, rows-one, rows-two, rows-trig, shape_joined, fits-joined}
use Rattle.joining.proofs.Reading.{waves_of, length_waves, wave-at, all-parts, some_waves, joined_small, joined-read}
use Rattle.joining.proofs.Segments.{good_accepted, ris-joined}
use Rattle.joining.proofs.Timing.{times_of, times_joined}

-- ---- the trigger table's numbers

every_both : (t : ℕ → Bool) (xs ys : List ℕ) → every? t xs ≡ true → every? t ys ≡ true → every? t (xs ++ ys) ≡ true
every_both t [] ys e f = f
every_both t (x ∷ xs) ys e f = let a = and_true (t x) (every? t xs) e in and_intro (t x) (every? t (xs ++ ys)) a.0 (every_both t xs ys a.1 f)

every_rows : {A : Type 0} (t : ℕ → Bool) (f : A → List (List ℕ)) (xs : List A) → Every (λ x. every? t (flatten (f x)) ≡ true) xs → every? t (flatten (flatten (map f xs))) ≡ true
unfolding flatten
every_rows t f [] h = refl
every_rows t f (x ∷ xs) h = ap (every? t) (flatten_append (f x) (flatten (map f xs))) ∙ every_both t (flatten (f x)) (flatten (flatten (map f xs))) h.0 (every_rows t f xs h.1)

-- ---- the joined wave is good

module _ (ws : List Wave) (some : 1 ≤ length ws) (ps : Every (Part (lead ws)) ws) (few : length ws ≤ 1000) (hi : length (encode (joined ws)) ≤ 16777216)
    (ris : (ris_length (lead ws).head ≡ 0) ⊎ (length ws ≡ 1)) (rising : ascending (trigger_times (joined ws).trig) ≡ true) where
  shape : Shape (joined ws)
  shape = shape_joined ws some ps

  fits : Fits (joined ws)
  fits = fits-joined ws some ps few hi

  first : Part (lead ws) (lead ws)
  first = part-lead ws some ps

  -- each length is no more than the whole
  lengths_small : ((joined ws).head 48 ≤ 16777216) × ((joined ws).head 60 ≤ 16777216) × ((joined ws).head 64 ≤ 16777216) × ((joined ws).head 116 ≤ 16777216)
  lengths_small =
      let l = length_of (joined ws) in
      let z : ℕ = size_of (joined ws).head in
      let q : length (flatten (joined ws).one) * 1 ≤ length (flatten (joined ws).one) * z = mul-le-mul_left (length (flatten (joined ws).one)) (omega arith) in
      let c : (joined ws).head 116 ≡ length (flatten (joined ws).one) = unfold joined in refl in
      (omega (arith, fits.trig-length), omega (arith, fits.one-length), omega (arith, fits.two-length), omega arith)

  tile : Tiled (length (encode (joined ws))) (joined ws).head
  tile = go first.good.tile lengths_small (sym (length-encode (joined ws) shape fits))
    where
      go : Tiled first.size (lead ws).head → ((joined ws).head 48 ≤ 16777216) × ((joined ws).head 60 ≤ 16777216) × ((joined ws).head 64 ≤ 16777216) × ((joined ws).head 116 ≤ 16777216)
          → total (lengths_of (joined ws).head) ≡ length (encode (joined ws)) → Tiled (length (encode (joined ws))) (joined ws).head
      go t m l = unfold joined in
          let long = t.long in
          record {
            descriptor = t.descriptor;
            none = t.none;
            long = (long.0, (long.1.0, (long.1.1.0, (omega (arith, m.0), (long.1.1.1.1.0, (long.1.1.1.1.1.0, (omega (arith, m.1), (omega (arith, m.2), long.1.1.1.1.1.1.1.1))))))));
            sum = l;
          }

  one-total : length (flatten (joined ws).one) ≡ (joined ws).head 116
  one-total = total-rows (segments (joined ws).head) (points (joined ws).head) (joined ws).one shape.one ∙ sym shape.whole

  two-either : (two_length (joined ws).head ≡ 0) ⊎ (two_length (joined ws).head ≡ (joined ws).head 116 * size_of (joined ws).head)
  two-either =
      let z : ℕ = size_of (joined ws).head in
      let g : ℕ = segments (joined ws).head in
      let t : length (flatten (joined ws).two) ≡ g * shape.two.wide = total-rows g shape.two.wide (joined ws).two shape.two.rows in
      ⊎_elim (λ (e : shape.two.wide ≡ points (joined ws).head). inr (fits.two-length ∙ ap (λ (x : ℕ). x * z) (t ∙ ap (λ (x : ℕ). g * x) e ∙ sym shape.whole)))
      (λ (e : shape.two.wide ≡ 0). inl (fits.two-length ∙ ap (λ (x : ℕ). x * z) (t ∙ ap (λ (x : ℕ). g * x) e) ∙ omega arith)) shape.two.full

  trig-either : (trig_length (joined ws).head ≡ 0) ⊎ (trig_length (joined ws).head ≡ 16 * segments (joined ws).head)
  trig-either =
      let g : ℕ = segments (joined ws).head in
      let t : length (flatten (joined ws).trig) ≡ g * shape.trig.wide = total-rows g shape.trig.wide (joined ws).trig shape.trig.rows in
      ⊎_elim (λ (e : shape.trig.wide ≡ 2). inr (fits.trig-length ∙ ap (λ (x : ℕ). x * 8) (t ∙ ap (λ (x : ℕ). g * x) e) ∙ omega arith))
      (λ (e : shape.trig.wide ≡ 0). inl (fits.trig-length ∙ ap (λ (x : ℕ). x * 8) (t ∙ ap (λ (x : ℕ). g * x) e) ∙ omega arith)) shape.trig.full

  -- RISTIME stands alone in the one part, so it does in the joined wave
  ris-alone : (ris_length (joined ws).head ≡ 0) ⊎ ((segments (joined ws).head ≡ 1) × (trig_length (joined ws).head ≡ 0))
  ris-alone = go ris first.good.counts.ris-alone
    where
      same : ris_length (joined ws).head ≡ ris_length (lead ws).head
      same = unfold joined in refl

      go : (ris_length (lead ws).head ≡ 0) ⊎ (length ws ≡ 1) → (ris_length (lead ws).head ≡ 0) ⊎ ((segments (lead ws).head ≡ 1) × (trig_length (lead ws).head ≡ 0))
          → (ris_length (joined ws).head ≡ 0) ⊎ ((segments (joined ws).head ≡ 1) × (trig_length (joined ws).head ≡ 0))
      go (inl e) c = inl (same ∙ e)
      go (inr e) (inl c) = inl (same ∙ c)
      go (inr e) (inr c) =
          let n : length (flatten (joined ws).trig) ≡ length ws * trig_wide (lead ws) = total-rows (length ws) (trig_wide (lead ws)) (joined ws).trig (rows-trig ws some ps) in
          let z : trig_wide (lead ws) ≡ 0 = ap (λ (x : ℕ). x / 8) c.1 in
          inr (segments-joined ws some ps ∙ e, fits.trig-length ∙ ap (λ (x : ℕ). x * 8) (n ∙ ap (λ (x : ℕ). length ws * x) z) ∙ omega arith)

  counts : Counted (joined ws).head
  counts =
      let c : Counted (lead ws).head = first.good.counts in
      let m : 1 ≤ segments (joined ws).head * points (joined ws).head = one-le-mul (omega arith) shape.some in
      record {
        some = omega (arith, shape.whole);
        count_long = omega (arith, lengths_small.3);
        subarrays_long = unfold joined in omega arith;
        whole = ap (λ (y : ℕ). y % segments (joined ws).head) shape.whole ∙ mul-mod_right (segments (joined ws).head) (points (joined ws).head);
        one = fits.one-length ∙ ap (λ (y : ℕ). y * size_of (joined ws).head) one-total;
        two = two-either;
        trig = trig-either;
        ris = unfold joined in c.ris;
        ris-alone = ris-alone;
        index-long = unfold joined in omega arith;
        index-alone = unfold joined in inl refl;
      }

  places : Placed (joined ws).head
  unfolding joined
  places =
      let p : Placed (lead ws).head = first.good.places in
      let l : first_point (lead ws).head + sparsing (lead ws).head * (points (joined ws).head - 1) ≤ 268435455 =
      subst (λ (m : ℕ). first_point (lead ws).head + sparsing (lead ws).head * (m - 1) ≤ 268435455) (sym (points-joined ws some ps)) p.last in
      record { first-long = p.first-long; sparse = p.sparse; last = l }

  pub good-joined : Good (length (encode (joined ws))) (joined ws)
  unfolding joined named up_from timed
  good-joined =
      let g = first.good in
      let m : Measured (lead ws) = g.floats in
      record {
        name = g.name;
        kind = g.kind;
        tile = tile;
        counts = counts;
        places = places;
        floats = record {
          gain = m.gain;
          offset = m.offset;
          interval = m.interval;
          horizontal = m.horizontal;
          trig = every_rows finite64 (λ (v : Wave). v.trig) ws (every_map (λ w p. p.good.floats.trig) ws ps);
          ris = m.ris;
        };
        times = (rising, tt);
      }

-- ---- the joined block

-- L, given how many parts there are and the descriptor of any of them
abbrev pub joined_length : ℕ → (ℕ → ℕ) → ℕ
joined_length n h = 346 + (h 40 + (n * h 48 + (h 52 + (n * h 60 + n * h 64))))

module _ (ws : List Wave) (some : 1 ≤ length ws) (ps : Every (Part (lead ws)) ws) where
  -- n times a table of one row of k numbers of w bytes
  pub times : (t u : List (List ℕ)) (n k w x : ℕ) → Rows n k t → Rows 1 k u → x ≡ length (flatten u) * w → length (flatten t) * w ≡ n * x
  times t u n k w x r s e =
      ap (λ (m : ℕ). m * w) (total-rows n k t r) ∙ mul_assoc n k w
      ∙ ap (λ (m : ℕ). n * m) (sym (e ∙ ap (λ (m : ℕ). m * w) (total-rows 1 k u s ∙ one-times k)))
    where
      one-times : (k : ℕ) → 1 * k ≡ k
      one-times k = omega arith

  pub length-joined : length (encode (joined ws)) ≡ joined_length (length ws) (lead ws).head
  unfolding joined
  length-joined =
      let q : Wave = lead ws in
      let p : Part q q = part-lead ws some ps in
      let z : ℕ = size_of q.head in
      let a : length q.text ≡ q.head 40 = sym p.fits.text-length in
      let r : length q.ris * 8 ≡ q.head 52 = sym p.fits.ris-length in
      let t : length (flatten (joined ws).trig) * 8 ≡ length ws * q.head 48 = times (joined ws).trig q.trig (length ws) (trig_wide q) 8 (q.head 48) (rows-trig ws some ps) (trig_row q q p) p.fits.trig-length in
      let x : length (flatten (joined ws).one) * z ≡ length ws * q.head 60 = times (joined ws).one q.one (length ws) (points q.head) z (q.head 60) (rows-one ws some ps) (one_row q q p) p.fits.one-length in
      let y : length (flatten (joined ws).two) * z ≡ length ws * q.head 64 = times (joined ws).two q.two (length ws) (two_wide q) z (q.head 64) (rows-two ws some ps) (two_row q q p) p.fits.two-length in
      length_of (joined ws) ∙ λ v. 346 + (a v + (t v + (r v + (x v + y v))))

module _ (ps : List (List ℕ)) (b : Every Bytes ps) (j : Together ps) where
  -- the descriptor of the first part in the slice, which the code has at hand
  abbrev pub leading : ℕ → ℕ
  leading = (opened (get_or ps 0 [])).head

  -- but for SEGMENT_INDEX it is that of the part with index 1
  pub leads : (k : ℕ) → eqb k 140 ≡ false → (lead (waves_of ps)).head k ≡ leading k
  leads k n =
      let once : length (indexed 1 ps) ≡ 1 = j.once 1 (omega arith) (omega (arith, j.some)) in
      let p : List ℕ = part_at 1 ps in
      let q : List ℕ = get_or ps 0 [] in
      let e : common p ≡ common q = sym (every_at_index (λ (r : List ℕ). common q ≡ common r) 1 ps once j.alike) in
      ap (λ (w : Wave). w.head k) (wave-at ps 0 j.some)
      ∙ heads_alike p q e (fits-opened p (every_at_index Bytes 1 ps once b) (every_at_index (λ (r : List ℕ). refusal r ≡ 0) 1 ps once j.good))
      (fits-opened q (every_get_or Bytes ps 0 [] j.some b) (every_get_or (λ (r : List ℕ). refusal r ≡ 0) ps 0 [] j.some j.good)) k n

  pub length-block : length (encode (joined (waves_of ps))) ≡ joined_length (length ps) leading
  length-block =
      length-joined (waves_of ps) (some_waves ps b j) (all-parts ps b j)
      ∙ λ v. 346 + (leads 40 refl v + (length_waves ps v * leads 48 refl v + (leads 52 refl v + (length_waves ps v * leads 60 refl v + length_waves ps v * leads 64 refl v))))

  times_good : {n : ℕ} → Good n (joined (waves_of ps)) → ascending (trigger_times (joined (waves_of ps)).trig) ≡ true
  unfolding timed
  times_good g = g.times.0

  pub block-good : (refusal (joined_bytes ps) ≡ 0) ↔ ((joined_length (length ps) leading ≤ 16777216) × ((ris_length leading ≡ 0) ⊎ (length ps ≡ 1)) × (ascending (times_of ps) ≡ true))
  unfolding joined_bytes
  block-good = (there, back)
    where
      there : refusal (joined_bytes ps) ≡ 0 → (joined_length (length ps) leading ≤ 16777216) × ((ris_length leading ≡ 0) ⊎ (length ps ≡ 1)) × (ascending (times_of ps) ≡ true)
      there e =
          let js : Joins ps = record { together = j; block = e } in (
            subst (λ (n : ℕ). n ≤ 16777216) length-block (joined_small ps b js),
            ⊎_elim (λ (z : ris_length (lead (waves_of ps)).head ≡ 0). inl (sym (leads 52 refl) ∙ z)) (λ (z : length (waves_of ps) ≡ 1). inr (sym (length_waves ps) ∙ z)) (ris-joined ps b js),
            ap ascending (sym (times_joined ps b j)) ∙ times_good (subst (λ (w : Wave). Good (length (payload (joined_bytes ps))) w) (joined-read ps b js) (good_accepted (joined_bytes ps) e)),
          )

      back : (joined_length (length ps) leading ≤ 16777216) × ((ris_length leading ≡ 0) ⊎ (length ps ≡ 1)) × (ascending (times_of ps) ≡ true) → refusal (joined_bytes ps) ≡ 0
      back h =
          let ws : List Wave = waves_of ps in
          let some : 1 ≤ length ws = some_waves ps b j in
          let all : Every (Part (lead ws)) ws = all-parts ps b j in
          let few : length ws ≤ 1000 = omega (arith, length_waves ps, j.most) in
          let hi : length (encode (joined ws)) ≤ 16777216 = subst (λ (n : ℕ). n ≤ 16777216) (sym length-block) h.0 in
          let ris : (ris_length (lead ws).head ≡ 0) ⊎ (length ws ≡ 1) =
          ⊎_elim (λ (z : ris_length leading ≡ 0). inl (leads 52 refl ∙ z)) (λ (z : length ps ≡ 1). inr (length_waves ps ∙ z)) h.1 in
          (accepted (joined ws) (shape_joined ws some all) (fits-joined ws some all few hi) (good-joined ws some all few hi ris (ap ascending (times_joined ps b j) ∙ h.2)) (omega (arith, length_of (joined ws))) hi).0
