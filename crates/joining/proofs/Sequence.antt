-- A sequence cut into its segments and joined again, in any order, is the plain cut with SN 0 (`sequence-joined`). The sequence has SEGMENT_INDEX 0 and SUBARRAY_COUNT from 1 to 1,000.
use mathlib.Core.Path.{◌≡◌, refl, sym, ap, ap₂, ◌∙◌, subst}
use Prim.Native.Nat.{ℕ, zero, suc, ◌+◌, ◌*◌, ◌≤◌, ◌<◌}
use native.Mathlib.Omega.{arith}
use mathlib.Core.Bool.{Bool, true, false, cond}
use mathlib.Core.List.{List, [], ◌∷◌, ◌++◌, map, flatten, map-map, Permᴰ}
use lib.ListN.{length, get_or, take, drop, length-map, take-append-drop}
use lib.Seq.{drop-drop, drop-length}
use lib.Dec.{eqb}
use borrow.Author.Tests.{eqb-true, eqb-false, ne_eqb}
use Rattle.rules.specs.Numbers.{Bytes, up_from}
use Rattle.rules.specs.Wave.{Wave, size_of, segments, points, segment_index, subarray_count, encode, framed}
use Rattle.rules.specs.Rules.{refusal, opened}
use Rattle.rules.specs.Cut.{Setup, only, kept, count, changed, changes, or_else, one_if, cut, cut_bytes, cut_refusal}
use Rattle.rules.proofs.Thin.{length-up_from, get_or-up_from}
use Rattle.rules.proofs.Rows.{Rows, Shape, map-only, only-rows, total-rows}
use Rattle.rules.proofs.Cuts.{kept-rows, segments_of_cut}
use Rattle.rules.proofs.Frames.{length-framed, stated-framed}
use Rattle.rules.proofs.Opened.{shape_opened}
use Rattle.rules.proofs.Demands.{Allowed, CutTaken, cut-says, says-cut, cut-length, cut_accepted}
use Rattle.joining.specs.Join.{index_of, indexed, part_at, by_index, parts_in, join_changes, joined, joined_bytes, common, join_refusal}
use Rattle.joining.proofs.Lists.{Every, every_mapped, Every-upFrom, perm_every, map-up_from}
use Rattle.rules.proofs.Fields.{instead-out, agree}
use Rattle.joining.proofs.Framed.{start-framed}
use Rattle.joining.proofs.Parts.{Ends, parts-flatten}
use Rattle.joining.proofs.Index.{Within}
use Rattle.joining.proofs.Says.{Together, Joins, says_join}
use Rattle.joining.proofs.Arrival.{bytes_perm, joins_perm}
use Rattle.joining.proofs.Alike.{common-alike}
use Rattle.joining.proofs.Reading.{waves_of}
use Rattle.joining.proofs.Segments.{rows-count}
use Rattle.joining.proofs.Cutting.{segment_by}
use Rattle.joining.proofs.Back.{one_if-some}

-- ---- parts that come by their index

module _ (P : ℕ → List ℕ) where
  none_before : (k i n : ℕ) → ((j : ℕ) → Within i n j → index_of (P j) ≡ j) → k < i → indexed k (map P (up_from i n)) ≡ []
  unfolding indexed up_from
  none_before k i zero h l = refl
  none_before k i (suc n) h l =
      let e : index_of (P i) ≡ i = h i (omega arith, omega arith) in
      ap (λ (t : Bool). cond t (P i ∷ indexed k (map P (up_from (suc i) n))) (indexed k (map P (up_from (suc i) n)))) (ne_eqb (index_of (P i)) k (λ q. absurd (omega arith)))
      ∙ none_before k (suc i) n (λ j w. h j (omega (arith, w.0), omega (arith, w.1))) (omega arith)

  indexed_own : (k i n : ℕ) → ((j : ℕ) → Within i n j → index_of (P j) ≡ j) → Within i n k → indexed k (map P (up_from i n)) ≡ P k ∷ []
  unfolding indexed up_from
  indexed_own k i zero h w = absurd (omega (arith, w.0, w.1))
  indexed_own k i (suc n) h w =
      go (eqb (index_of (P i)) k) refl (none_before k (suc i) n (λ j v. h j (omega (arith, v.0), omega (arith, v.1)))) (indexed_own k (suc i) n (λ j v. h j (omega (arith, v.0), omega (arith, v.1))))
    where
      e : index_of (P i) ≡ i
      e = h i (omega arith, omega arith)

      rest : List (List ℕ)
      rest = indexed k (map P (up_from (suc i) n))

      go : (t : Bool) → eqb (index_of (P i)) k ≡ t → (k < suc i → rest ≡ []) → (Within (suc i) n k → rest ≡ P k ∷ []) → cond t (P i ∷ rest) rest ≡ P k ∷ []
      go true q none ih =
          let m : i ≡ k = sym e ∙ eqb-true (index_of (P i)) k q in
          ap₂ {C = List (List ℕ)} (λ x y. x ∷ y) (ap P m) (none (omega arith))
      go false q none ih =
          ih (omega (arith, w.0, e, eqb-false (index_of (P i)) k q), omega (arith, w.1))

-- ---- a table's rows one by one

rows_each : (t : List (List ℕ)) (i n : ℕ) → length t ≡ i + n → flatten (map (λ k. only k t) (up_from (suc i) n)) ≡ drop i t
unfolding up_from flatten
rows_each t i zero l = let e : i ≡ length t = omega arith in sym (ap (λ (k : ℕ). drop k t) e ∙ drop-length t)
rows_each t i (suc n) l =
    let e : i + 1 ≡ suc i = omega arith in
    ap {B = List (List ℕ)} (λ r. take 1 (drop i t) ++ r) (rows_each t (suc i) n (l ∙ omega arith) ∙ sym (drop-drop 1 i t ∙ ap (λ (k : ℕ). drop k t) e))
    ∙ take-append-drop 1 (drop i t)

rows_all : (t : List (List ℕ)) (n : ℕ) → length t ≡ n → flatten (map (λ k. only k t) (up_from 1 n)) ≡ t
rows_all t n l = rows_each t 0 n (l ∙ omega arith)

-- ---- the wave of a sequence, cut into its segments

-- the cut of segment k, and those of all segments
abbrev pub piece : ℕ → Setup → Wave → ℕ → Wave
piece o c w k = cut o (segment_by c k) w

abbrev pub pieces : ℕ → Setup → Wave → List Wave
pieces o c w = map (piece o c w) (up_from 1 (subarray_count w.head))

module _ (o : ℕ) (c : Setup) (w : Wave) (sh : Shape w) (index : segment_index w.head ≡ 0) (lo : 1 ≤ subarray_count w.head) where
  g_is : segments w.head ≡ subarray_count w.head
  g_is = omega arith

  rows_g : (k : ℕ) (t : List (List ℕ)) → Rows (segments w.head) k t → length t ≡ subarray_count w.head
  rows_g k t r = rows-count (segments w.head) k t r ∙ g_is

  first_piece : get_or (pieces o c w) 0 (opened []) ≡ piece o c w 1
  first_piece = get_or-up_from (piece o c w) 1 (subarray_count w.head) 0 (opened []) lo

  trig-pieces : flatten (map (λ (v : Wave). v.trig) (pieces o c w)) ≡ w.trig
  unfolding cut
  trig-pieces =
      ap (flatten {A = List ℕ}) (map-map (λ (v : Wave). v.trig) (piece o c w) (up_from 1 (subarray_count w.head)))
      ∙ rows_all w.trig (subarray_count w.head) (rows_g sh.trig.wide w.trig sh.trig.rows)

  -- an array's segments, thinned one by one
  array-pieces : (t : List (List ℕ)) → length t ≡ subarray_count w.head → flatten (map (λ k. map (kept c) (only k t)) (up_from 1 (subarray_count w.head))) ≡ map (kept c) t
  array-pieces t l =
      ap (flatten {A = List ℕ}) (map-up_from (λ k. map (kept c) (only k t)) (λ k. only k (map (kept c) t)) 1 (subarray_count w.head) (λ k x y. map-only (kept c) k t))
      ∙ rows_all (map (kept c) t) (subarray_count w.head) (length-map t (kept c) ∙ l)

  one-pieces : flatten (map (λ (v : Wave). v.one) (pieces o c w)) ≡ map (kept c) w.one
  unfolding cut kept
  one-pieces =
      ap (flatten {A = List ℕ}) (map-map (λ (v : Wave). v.one) (piece o c w) (up_from 1 (subarray_count w.head)))
      ∙ array-pieces w.one (rows_g (points w.head) w.one sh.one)

  two-pieces : flatten (map (λ (v : Wave). v.two) (pieces o c w)) ≡ map (kept c) w.two
  unfolding cut kept
  two-pieces =
      ap (flatten {A = List ℕ}) (map-map (λ (v : Wave). v.two) (piece o c w) (up_from 1 (subarray_count w.head)))
      ∙ array-pieces w.two (rows_g sh.two.wide w.two sh.two.rows)

  length-pieces : length (pieces o c w) ≡ subarray_count w.head
  length-pieces = length-map (up_from 1 (subarray_count w.head)) (piece o c w) ∙ length-up_from 1 (subarray_count w.head)

  pub joined-pieces : joined (pieces o c w) ≡ cut o (segment_by c 0) w
  unfolding joined cut kept
  joined-pieces =
      let h : ℕ → ℕ = w.head in
      let t : List (List ℕ) = w.trig in
      let x : List (List ℕ) = map (kept c) w.one in
      let y : List (List ℕ) = map (kept c) w.two in
      let q : ℕ → ℕ = (piece o c w 1).head in
      let js : List (ℕ × ℕ) = join_changes (subarray_count h) q t x y in
      let cs : List (ℕ × ℕ) = changes o (segment_by c 0) h t x y in
      let ds : List (ℕ × ℕ) = changes o (segment_by c 1) h (only 1 t) (map (kept c) (only 1 w.one)) (map (kept c) (only 1 w.two)) in
      let same : (k : ℕ) → changed js q k ≡ changed cs h k = λ k.
      agree (changed js q) (changed cs h) cs (refl, (refl, (refl, (refl, (refl, (refl, (refl, (ap (λ (n : ℕ). or_else n 0) (sym index), (refl, tt))))))))) k (λ u.
      instead-out js k (q k) (u.1.0, (u.1.1.0, (u.1.1.1.0, (u.1.1.1.1.0, (u.1.1.1.1.1.1.1.0, (u.1.1.1.1.1.1.1.1.0, tt))))))
      ∙ instead-out ds k (h k) u ∙ sym (instead-out cs k (h k) u)) in
      (λ v. record {
        head = changed (join_changes (length-pieces v) (first_piece v).head (trig-pieces v) (one-pieces v) (two-pieces v)) (first_piece v).head;
        text = (first_piece v).text;
        trig = trig-pieces v;
        ris = (first_piece v).ris;
        one = one-pieces v;
        two = two-pieces v;
      })
      ∙ λ v. record { head = λ k. same k v; text = w.text; trig = t; ris = w.ris; one = x; two = y }

  -- two segments' descriptors are alike but for SEGMENT_INDEX
  module _ (k : ℕ) (l : 1 ≤ k) (u : k ≤ subarray_count w.head) where
    row_length : (n : ℕ) (t : List (List ℕ)) → Rows (segments w.head) n t → Rows 1 n (only k t)
    row_length n t r = subst (λ (m : ℕ). Rows m n (only k t)) (one_if-some k (segments w.head) l) (only-rows k (segments w.head) n t (omega arith) r)

    trig-length : length (flatten (piece o c w k).trig) ≡ 1 * sh.trig.wide
    unfolding cut
    trig-length = total-rows 1 sh.trig.wide (piece o c w k).trig (row_length sh.trig.wide w.trig sh.trig.rows)

    one-length : length (flatten (piece o c w k).one) ≡ 1 * count c (points w.head)
    unfolding cut count kept
    one-length = total-rows 1 (count c (points w.head)) (piece o c w k).one (kept-rows c 1 (points w.head) (only k w.one) (row_length (points w.head) w.one sh.one))

    two-length : length (flatten (piece o c w k).two) ≡ 1 * count c sh.two.wide
    unfolding cut count kept
    two-length = total-rows 1 (count c sh.two.wide) (piece o c w k).two (kept-rows c 1 sh.two.wide (only k w.two) (row_length sh.two.wide w.two sh.two.rows))

    piece_alone : segments (piece o c w k).head ≡ 1
    piece_alone = segments_of_cut o (segment_by c k) w ∙ one_if-some k (segments w.head) l

    piece_index : (piece o c w k).head 140 ≡ k
    unfolding cut
    piece_index = ap (λ (n : ℕ). or_else n k) index

  piece_alike : (k : ℕ) → 1 ≤ k → k ≤ subarray_count w.head → (j : ℕ) → eqb j 140 ≡ false → (piece o c w 1).head j ≡ (piece o c w k).head j
  piece_alike k l u j n = go (trig-length 1 (omega arith) lo ∙ sym (trig-length k l u)) (one-length 1 (omega arith) lo ∙ sym (one-length k l u)) (two-length 1 (omega arith) lo ∙ sym (two-length k l u)) (one_if-some k (subarray_count w.head) l)
    where
      go : length (flatten (piece o c w 1).trig) ≡ length (flatten (piece o c w k).trig) → length (flatten (piece o c w 1).one) ≡ length (flatten (piece o c w k).one) → length (flatten (piece o c w 1).two) ≡ length (flatten (piece o c w k).two)
          → one_if k (subarray_count w.head) ≡ 1 → (piece o c w 1).head j ≡ (piece o c w k).head j
      go t x y g = unfold cut in
          let h : ℕ → ℕ = w.head in
          let z : ℕ = size_of h in
          let cs : List (ℕ × ℕ) = changes o (segment_by c 1) h (piece o c w 1).trig (piece o c w 1).one (piece o c w 1).two in
          let ds : List (ℕ × ℕ) = changes o (segment_by c k) h (piece o c w k).trig (piece o c w k).one (piece o c w k).two in
          let es : List (ℕ × ℕ) = (34, 0) ∷ (48, 0) ∷ (60, 0) ∷ (64, 0) ∷ (116, 0) ∷ (132, 0) ∷ (136, 0) ∷ (144, 0) ∷ [] in
          agree (changed cs h) (changed ds h) es
          (refl, (ap (λ (m : ℕ). m * 8) t, (ap (λ (m : ℕ). m * z) x, (ap (λ (m : ℕ). m * z) y, (x, (refl, (refl, (sym g, tt)))))))) j (λ v.
          instead-out cs j (h j) (v.0, (v.1.0, (v.1.1.0, (v.1.1.1.0, (v.1.1.1.1.0, (v.1.1.1.1.1.0, (v.1.1.1.1.1.1.0, (n, (v.1.1.1.1.1.1.1.0, tt)))))))))
          ∙ sym (instead-out ds j (h j) (v.0, (v.1.0, (v.1.1.0, (v.1.1.1.0, (v.1.1.1.1.0, (v.1.1.1.1.1.0, (v.1.1.1.1.1.1.0, (n, (v.1.1.1.1.1.1.1.0, tt)))))))))))

-- ---- the block of a sequence, cut into its segments

-- the segments of the block s cut by c in order o, one after another
abbrev pub segments_by : ℕ → Setup → List ℕ → List (List ℕ)
segments_by o c s = map (λ k. cut_bytes o (segment_by c k) s) (up_from 1 (subarray_count (opened s).head))

module _ (s : List ℕ) (b : Bytes s) (o : ℕ) (c : Setup) (room : ℕ) (e : cut_refusal o (segment_by c 0) s room ≡ 0)
    (index : segment_index (opened s).head ≡ 0) (lo : 1 ≤ subarray_count (opened s).head) (hi : subarray_count (opened s).head ≤ 1000) where
  plain : CutTaken s o (segment_by c 0) room
  plain = cut-says s o (segment_by c 0) room e

  shape : Shape (opened s)
  shape = shape_opened s b plain.block

  abbrev part : ℕ → List ℕ
  part k = cut_bytes o (segment_by c k) s

  module _ (k : ℕ) (w : Within 1 (subarray_count (opened s).head) k) where
    allowed : Allowed o (segment_by c k) (opened s).head
    allowed = record {
      order = plain.allows.order;
      taken = record { segment = omega (arith, w.1); point = plain.allows.taken.point };
      sparse = plain.allows.sparse;
    }

    read : opened (part k) ≡ cut o (segment_by c k) (opened s)
    read = (cut_accepted s b plain.block o (segment_by c k) allowed).1

    good : refusal (part k) ≡ 0
    good = (cut_accepted s b plain.block o (segment_by c k) allowed).0

    ends : Ends (part k)
    unfolding cut_bytes
    ends =
        let p : List ℕ = encode (cut o (segment_by c k) (opened s)) in
        omega (arith, length-framed p, start-framed p, stated-framed p (omega (arith, (cut-length s b plain.block o (segment_by c k) allowed).1)))

    alone : segments (opened (part k)).head ≡ 1
    alone = ap (λ (v : Wave). segments v.head) read ∙ piece_alone o c (opened s) shape index lo k w.0 (omega (arith, w.1))

    index_is : index_of (part k) ≡ k
    index_is = ap (λ (v : Wave). v.head 140) read ∙ piece_index o c (opened s) shape index lo k w.0 (omega (arith, w.1))

    text_is : (opened (part k)).text ≡ (opened s).text
    unfolding cut
    text_is = ap (λ (v : Wave). v.text) read

    pub segment-taken : cut_refusal o (segment_by c k) s (length (part k)) ≡ 0
    segment-taken = says-cut s o (segment_by c k) (length (part k)) (record { block = plain.block; allows = allowed; room = omega arith })

  first : Within 1 (subarray_count (opened s).head) 1
  first = (omega arith, omega arith)

  alike : (k : ℕ) → Within 1 (subarray_count (opened s).head) k → common (part 1) ≡ common (part k)
  alike k w =
      common-alike (part 1) (part k)
      (λ j n. ap (λ (v : Wave). v.head j) (read 1 first) ∙ piece_alike o c (opened s) shape index lo k w.0 (omega (arith, w.1)) j n ∙ sym (ap (λ (v : Wave). v.head j) (read k w)))
      (text_is 1 first ∙ sym (text_is k w))

  many : length (segments_by o c s) ≡ subarray_count (opened s).head
  many = length-map (up_from 1 (subarray_count (opened s).head)) part ∙ length-up_from 1 (subarray_count (opened s).head)

  each : (P : List ℕ → Type 0) → ((k : ℕ) → Within 1 (subarray_count (opened s).head) k → P (part k)) → Every P (segments_by o c s)
  each P h = every_mapped P part (up_from 1 (subarray_count (opened s).head)) (Every-upFrom (λ k. P (part k)) 1 (subarray_count (opened s).head) (λ k l m. h k (l, m)))

  at-index : (k : ℕ) → Within 1 (subarray_count (opened s).head) k → indexed k (segments_by o c s) ≡ part k ∷ []
  at-index k w = indexed_own part k 1 (subarray_count (opened s).head) index_is w

  pub segments-together : Together (segments_by o c s)
  segments-together =
      let g : ℕ = subarray_count (opened s).head in
      let lead : get_or (segments_by o c s) 0 [] ≡ part 1 = get_or-up_from part 1 g 0 [] lo in
      record {
        good = each (λ p. refusal p ≡ 0) good;
        some = omega (arith, many);
        most = omega (arith, many);
        alone = each (λ p. segments (opened p).head ≡ 1) alone;
        once = λ k l m. ap length (at-index k (l, omega (arith, many)));
        alike = each (λ p. common (get_or (segments_by o c s) 0 []) ≡ common p) (λ k w. ap common lead ∙ alike k w);
      }

  waves_segments : waves_of (segments_by o c s) ≡ pieces o c (opened s)
  unfolding by_index part_at
  waves_segments =
      let g : ℕ = subarray_count (opened s).head in
      map-map opened (λ k. part_at k (segments_by o c s)) (up_from 1 (length (segments_by o c s)))
      ∙ ap (λ (n : ℕ). map (λ k. opened (part_at k (segments_by o c s))) (up_from 1 n)) many
      ∙ map-up_from (λ k. opened (part_at k (segments_by o c s))) (piece o c (opened s)) 1 g (λ k l m.
      ap (λ (ps : List (List ℕ)). opened (get_or ps 0 [])) (at-index k (l, m)) ∙ read k (l, m))

  pub bytes-segments : joined_bytes (segments_by o c s) ≡ cut_bytes o (segment_by c 0) s
  unfolding joined_bytes cut_bytes
  bytes-segments = ap (λ (ws : List Wave). framed (encode (joined ws))) waves_segments ∙ ap (λ (w : Wave). framed (encode w)) (joined-pieces o c (opened s) shape index lo)

  pub segments_join : Joins (segments_by o c s)
  segments_join = record {
    together = segments-together;
    block = subst (λ (r : List ℕ). refusal r ≡ 0) (sym bytes-segments) (cut_accepted s b plain.block o (segment_by c 0) plain.allows).0;
  }

  module _ (ps : List (List ℕ)) (d : Permᴰ (segments_by o c s) ps) where
    whole_parts : parts_in (flatten ps) ≡ ps
    whole_parts = parts-flatten ps (perm_every Ends d (each Ends ends))

    joins : Joins (parts_in (flatten ps))
    joins = subst Joins (sym whole_parts) (joins_perm (segments_by o c s) ps d segments_join)

    same : joined_bytes (parts_in (flatten ps)) ≡ cut_bytes o (segment_by c 0) s
    same = ap joined_bytes whole_parts ∙ sym (bytes_perm (segments_by o c s) ps d segments-together) ∙ bytes-segments

    -- with as much room as the plain cut had
    pub sequence-joined : (join_refusal (flatten ps) room ≡ 0) × (joined_bytes (parts_in (flatten ps)) ≡ cut_bytes o (segment_by c 0) s)
    sequence-joined = (says_join (flatten ps) room joins (subst (λ (r : List ℕ). length r ≤ room) (sym same) plain.room), same)
