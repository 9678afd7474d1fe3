-- A sequence cut into its segments, one call of `cut` each, and joined again in any order is the plain cut with SN 0 (`circle`). Each segment's call answers 0
-- (`segment-answers`), and as much room as the plain cut's block has is enough for it (`segment-room`). What the block must have is needed: a SEGMENT_INDEX other
-- than 0 stays in the plain cut, where the joined block has 0; a SUBARRAY_COUNT of 0 stays in it too, where the joined block has 1; and no more than 1,000 parts
-- are joined.
use mathlib.Core.Path.{◌≡◌, refl, sym, ap, ◌∙◌, subst}
use mathlib.Core.List.{List, [], ◌∷◌, map, flatten, Permᴰ}
use Prim.Native.Nat.{ℕ, zero, suc, ◌+◌, ◌*◌, ◌≤◌}
use native.Mathlib.Nat.{mul-le-mul_right}
use native.Mathlib.Omega.{arith}
use lib.ListN.{length, take, drop, length-append, length-map}
use Rattle.rules.specs.Numbers.{Bytes, splice, up_from}
use Rattle.rules.specs.Wave.{Wave, size_of, segment_index, subarray_count, encode, framed}
use Rattle.rules.specs.Rules.{opened}
use Rattle.rules.specs.Cut.{Setup, only, kept, cut, cut_bytes, cut_refusal}
use Rattle.rules.proofs.Thin.{length-up_from}
use Rattle.rules.proofs.Rows.{map-only}
use Rattle.rules.proofs.Frames.{length-framed}
use Rattle.rules.proofs.Demands.{CutTaken, cut-says, says-cut}
use Rattle.joining.specs.Join.{parts_in}
use Rattle.joining.proofs.Lists.{Every, every_mapped, Every-upFrom, map-up_from, perm_length, perm_every}
use Rattle.joining.proofs.Parts.{Ends, parts-flatten}
use Rattle.joining.proofs.Joined.{length_of}
use Rattle.joining.proofs.Cutting.{segment_by}
use Rattle.joining.proofs.Sequence.{segments_by, sequence-joined}
use Rattle.cuts.specs.declared.Written.{Written}
use Rattle.cuts.proofs.Calls.{CutCall}
use Rattle.cuts.proofs.Calls as cuts
use Rattle.joins.specs.declared.Joined.{Joined}
use Rattle.joins.proofs.Calls.{JoinCall}
use Rattle.joins.proofs.Calls as joins
use Rattle.demands.proofs.Written.{Wrote, cut_wrote, cut-part}

-- ---- a segment's block is no longer than the plain cut's

length_flatten_next : (xs : List ℕ) (t : List (List ℕ)) → length (flatten (xs ∷ t)) ≡ length xs + length (flatten t)
unfolding flatten
length_flatten_next xs t = length-append xs (flatten t)

-- one row of a table, and that row thinned
one_shorter : (n : ℕ) (t : List (List ℕ)) → length (flatten (take 1 (drop n t))) ≤ length (flatten t)
one_shorter zero [] = omega arith
one_shorter zero (r ∷ t) = let z : length (flatten {A = ℕ} []) ≡ 0 = unfold flatten in refl in omega (arith, length_flatten_next r [], length_flatten_next r t)
one_shorter (suc n) [] = omega arith
one_shorter (suc n) (r ∷ t) = omega (arith, one_shorter n t, length_flatten_next r t)

only_shorter : (k : ℕ) (t : List (List ℕ)) → length (flatten (only k t)) ≤ length (flatten t)
only_shorter zero t = omega arith
only_shorter (suc n) t = one_shorter n t

kept_shorter : (c : Setup) (k : ℕ) (t : List (List ℕ)) → length (flatten (map (kept c) (only k t))) ≤ length (flatten (map (kept c) t))
kept_shorter c k t = subst (λ (u : List (List ℕ)). length (flatten u) ≤ length (flatten (map (kept c) t))) (sym (map-only (kept c) k t)) (only_shorter k (map (kept c) t))

-- the block of segment k, beside that of all segments
pub segment_shorter : (o : ℕ) (c : Setup) (s : List ℕ) (k : ℕ) → length (cut_bytes o (segment_by c k) s) ≤ length (cut_bytes o (segment_by c 0) s)
unfolding cut_bytes cut kept
segment_shorter o c s k =
    let w : Wave = opened s in
    let z : ℕ = size_of w.head in
    let t : length (flatten (only k w.trig)) * 8 ≤ length (flatten w.trig) * 8 = mul-le-mul_right 8 (only_shorter k w.trig) in
    let x : length (flatten (map (kept c) (only k w.one))) * z ≤ length (flatten (map (kept c) w.one)) * z = mul-le-mul_right z (kept_shorter c k w.one) in
    let y : length (flatten (map (kept c) (only k w.two))) * z ≤ length (flatten (map (kept c) w.two)) * z = mul-le-mul_right z (kept_shorter c k w.two) in
    let text : ℕ = length w.text in
    let ris : ℕ = length w.ris * 8 in
    let one : length (framed (encode (cut o (segment_by c k) w))) ≡ 11 + (346 + (text + (length (flatten (only k w.trig)) * 8 + (ris + (length (flatten (map (kept c) (only k w.one))) * z + length (flatten (map (kept c) (only k w.two))) * z))))) =
    length-framed (encode (cut o (segment_by c k) w)) ∙ ap (λ (n : ℕ). 11 + n) (length_of (cut o (segment_by c k) w)) in
    let all : length (framed (encode (cut o (segment_by c 0) w))) ≡ 11 + (346 + (text + (length (flatten w.trig) * 8 + (ris + (length (flatten (map (kept c) w.one)) * z + length (flatten (map (kept c) w.two)) * z))))) =
    length-framed (encode (cut o (segment_by c 0) w)) ∙ ap (λ (n : ℕ). 11 + n) (length_of (cut o (segment_by c 0) w)) in
    omega (arith, t, x, y, one, all)

-- ---- the circle

-- a call of `join`, lent out₂, answered 0 for g parts and wrote the block that the call of `cut`, lent out, wrote; and where the outputs held the same, it left the same
pub record SameAsCut (g : ℕ) (out : List ℕ) (w : Written) (left out₂ : List ℕ) (w₂ : Joined) (left₂ : List ℕ) : Type 0 where
  pub answers : w₂.refusal ≡ 0
  pub counts : w₂.count ≡ g
  pub same_length : w₂.length ≡ w.length
  pub same_block : take w₂.length left₂ ≡ take w.length left
  pub same_slice : out₂ ≡ out → left₂ ≡ left

-- a block s, and a call of `cut` on it with SN 0 that answered 0
module _
    (s : List ℕ) (bytes : Bytes s)
    (index : segment_index (opened s).head ≡ 0) (some : 1 ≤ subarray_count (opened s).head) (most : subarray_count (opened s).head ≤ 1000)
    (c : Setup) (q : ℕ) (out : List ℕ) (w : Written) (left : List ℕ) (plain : CutCall s (segment_by c 0) q out w left) (z : w.refusal ≡ 0)
  where
    abbrev g : ℕ
    g = subarray_count (opened s).head

    whole-cut : Wrote (cut_bytes q (segment_by c 0) s) out w left
    whole-cut = cut_wrote s (segment_by c 0) q out w left plain z

    accepted : CutTaken s q (segment_by c 0) (length out)
    accepted = cut-says s q (segment_by c 0) (length out) (cuts.taken s (segment_by c 0) q out w left (cuts.called s (segment_by c 0) q out w left plain) z)

    -- as much room as the plain cut's block has is enough for each segment's
    pub segment-room : (k : ℕ) → length (cut_bytes q (segment_by c k) s) ≤ w.length
    segment-room k = omega (arith, segment_shorter q c s k, whole-cut.long)

    -- and for each segment a call with the same SP, NP, FP and order, lent room for its block
    module _
        (lent : ℕ → List ℕ) (v : ℕ → Written) (l : ℕ → List ℕ)
        (calls : (k : ℕ) → 1 ≤ k → k ≤ subarray_count (opened s).head → CutCall s (segment_by c k) q (lent k) (v k) (l k))
        (room : (k : ℕ) → 1 ≤ k → k ≤ subarray_count (opened s).head → length (cut_bytes q (segment_by c k) s) ≤ length (lent k))
      where
        -- every segment's call answers 0
        pub segment-answers : (k : ℕ) → 1 ≤ k → k ≤ subarray_count (opened s).head → (v k).refusal ≡ 0
        segment-answers k a b =
            cuts.number s (segment_by c k) q (lent k) (v k) (l k) (cuts.called s (segment_by c k) q (lent k) (v k) (l k) (calls k a b))
            ∙ says-cut s q (segment_by c k) (length (lent k)) (record {
              block = accepted.block;
              allows = record { order = accepted.allows.order; taken = record { segment = omega arith; point = accepted.allows.taken.point }; sparse = accepted.allows.sparse };
              room = room k a b;
            })

        abbrev written : List (List ℕ)
        written = map (λ k. take (v k).length (l k)) (up_from 1 g)

        written-segments : written ≡ segments_by q c s
        written-segments =
            map-up_from (λ k. take (v k).length (l k)) (λ k. cut_bytes q (segment_by c k) s) 1 g
            (λ k a b. (cut_wrote s (segment_by c k) q (lent k) (v k) (l k) (calls k a (omega arith)) (segment-answers k a (omega arith))).block)

        written-end : Every Ends written
        written-end =
            every_mapped Ends (λ k. take (v k).length (l k)) (up_from 1 g)
            (Every-upFrom (λ k. Ends (take (v k).length (l k))) 1 g (λ k a b.
            (cut-part s bytes (segment_by c k) q (lent k) (v k) (l k) (calls k a (omega arith)) (segment-answers k a (omega arith))).1))

        -- the blocks of all segments laid back to back in any order: a call of `join` lent as much room as the plain cut's block has answers 0 and writes that block
        pub circle : (ps : List (List ℕ)) → Permᴰ (map (λ k. take (v k).length (l k)) (up_from 1 (subarray_count (opened s).head))) ps
            → (out₂ : List ℕ) (w₂ : Joined) (left₂ : List ℕ) → JoinCall (flatten ps) out₂ w₂ left₂ → w.length ≤ length out₂
            → SameAsCut (subarray_count (opened s).head) out w left out₂ w₂ left₂
        circle ps d out₂ w₂ left₂ call enough =
            let again : cut_refusal q (segment_by c 0) s (length out₂) ≡ 0 =
            says-cut s q (segment_by c 0) (length out₂) (record { block = accepted.block; allows = accepted.allows; room = omega (arith, whole-cut.long) }) in
            let r = sequence-joined s bytes q c (length out₂) again index some most ps (subst (λ (u : List (List ℕ)). Permᴰ u ps) written-segments d) in
            let y = joins.called (flatten ps) out₂ w₂ left₂ call in
            let zero_too : w₂.refusal ≡ 0 = joins.number (flatten ps) out₂ w₂ left₂ y ∙ r.0 in
            let told = joins.said (flatten ps) out₂ w₂ left₂ y zero_too in
            let read : parts_in (flatten ps) ≡ ps = parts-flatten ps (perm_every Ends d written-end) in
            record {
              answers = zero_too;
              counts =
                  ap (λ (x : Joined). x.count) told ∙ ap length read ∙ sym (perm_length d)
                  ∙ length-map (up_from 1 g) (λ k. take (v k).length (l k)) ∙ length-up_from 1 g;
              same_length = ap (λ (x : Joined). x.length) told ∙ ap length r.1 ∙ sym whole-cut.long;
              same_block = joins.wrote (flatten ps) out₂ w₂ left₂ y zero_too ∙ r.1 ∙ sym whole-cut.block;
              same_slice = λ e. joins.filled (flatten ps) out₂ w₂ left₂ y zero_too ∙ (λ i. splice (e i) 0 (r.1 i)) ∙ sym whole-cut.leaves;
            }
