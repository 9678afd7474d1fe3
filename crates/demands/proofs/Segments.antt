-- Segments put where they belong: the block that a call of `join` wrote is accepted and has as many segments as there were parts, whose SEGMENT_INDEX are 1 to n,
-- each once; and `point` answers for each segment what it answers for the part of that index (`joined-segments`).
use mathlib.Core.Path.{◌≡◌, refl, sym, ap, ◌∙◌, subst}
use mathlib.Core.Bool.{Bool, true, false}
use mathlib.Core.List.{List, [], ◌∷◌}
use Prim.Native.Nat.{ℕ, zero, suc, ◌≤◌, ◌<◌}
use native.Mathlib.Omega.{arith}
use lib.ListN.{length, get_or, take}
use lib.Dec.{eqb}
use borrow.Author.Tests.{eqb-true, eqb-false}
use Rattle.rules.specs.Numbers.{Bytes}
use Rattle.rules.specs.Wave.{segments}
use Rattle.rules.specs.Rules.{refusal, opened}
use Rattle.rules.specs.Points.{sample}
use Rattle.joining.specs.Join.{index_of, indexed, parts_in, joined_bytes, join_refusal}
use Rattle.joining.proofs.Index.{Once, indexed_own, indexed_other}
use Rattle.joining.proofs.Says.{join_says}
use Rattle.joining.proofs.Segments.{SegmentIs, JoinedBlock, joined-block}
use Rattle.points.specs.declared.answers.Point.{Point}
use Rattle.points.specs.Points.{point_by, point_as}
use Rattle.points.proofs.Learnt.{PointCall}
use Rattle.joins.specs.declared.Joined.{Joined}
use Rattle.joins.proofs.Calls.{JoinCall, called, taken, said, wrote}

-- ---- the one part of an index

-- part i of ps has the index k, and no other has
pub record OnlyAt (k : ℕ) (ps : List (List ℕ)) (i : ℕ) : Type 0 where
  pub there : i < length ps
  pub index : index_of (get_or ps i []) ≡ k
  pub alone : (j : ℕ) → j < length ps → index_of (get_or ps j []) ≡ k → j ≡ i

none_at : (k : ℕ) (ps : List (List ℕ)) → length (indexed k ps) ≡ 0 → (j : ℕ) → j < length ps → index_of (get_or ps j []) ≡ k → ⊥
none_at k [] z j l e = omega arith
none_at k (p ∷ ps) z zero l e = omega (arith, ap length (indexed_own k p ps e))
none_at k (p ∷ ps) z (suc j) l e = go (eqb (index_of p) k) refl (λ y. none_at k ps y j (omega arith) e)
  where
    go : (t : Bool) → eqb (index_of p) k ≡ t → (length (indexed k ps) ≡ 0 → ⊥) → ⊥
    go true q ih = omega (arith, ap length (indexed_own k p ps (eqb-true (index_of p) k q)))
    go false q ih = ih (sym (ap length (indexed_other k p ps (eqb-false (index_of p) k q))) ∙ z)

only_at : (k : ℕ) (ps : List (List ℕ)) → length (indexed k ps) ≡ 1 → (i : ℕ) × OnlyAt k ps i
unfolding indexed
only_at k [] e = absurd (omega arith)
only_at k (p ∷ ps) e = go (eqb (index_of p) k) refl (only_at k ps)
  where
    later : (i : ℕ) → (index_of p ≡ k → ⊥) → OnlyAt k ps i → OnlyAt k (p ∷ ps) (suc i)
    later i h o = record { there = omega (arith, o.there); index = o.index; alone = unique }
      where
        unique : (j : ℕ) → j < length (p ∷ ps) → index_of (get_or (p ∷ ps) j []) ≡ k → j ≡ suc i
        unique zero l q = absurd (h q)
        unique (suc j) l q = ap suc (o.alone j (omega arith) q)

    go : (t : Bool) → eqb (index_of p) k ≡ t → (length (indexed k ps) ≡ 1 → (i : ℕ) × OnlyAt k ps i) → (i : ℕ) × OnlyAt k (p ∷ ps) i
    go true q ih = (0, record { there = omega arith; index = eqb-true (index_of p) k q; alone = unique })
      where
        none : length (indexed k ps) ≡ 0
        none = omega (arith, e, ap length (indexed_own k p ps (eqb-true (index_of p) k q)))

        unique : (j : ℕ) → j < length (p ∷ ps) → index_of (get_or (p ∷ ps) j []) ≡ k → j ≡ 0
        unique zero l r = refl
        unique (suc j) l r = absurd (none_at k ps none j (omega arith) r)
    go false q ih =
        let n : index_of p ≡ k → ⊥ = eqb-false (index_of p) k q in
        let o = ih (sym (ap length (indexed_other k p ps n)) ∙ e) in
        (suc o.0, later o.0 n o.1)

-- ---- the points

-- `point` answers for a segment what it answers for the part
same_point : (t : List ℕ) (k : ℕ) (p : List ℕ) → SegmentIs t k p → (a j : ℕ) → point_as t a k j ≡ point_as p a 1 j
unfolding point_as
same_point t k p is a j = λ i. point_by (is.answered a j i) (is.same-value a j i) (is.same-time j i) (is.same-mark a j i)

-- ---- the block

-- the block t, of the parts ps: it is accepted and has a segment for each part; the parts have the indices 1 to n, each of which is that of one part alone;
-- and each segment's points are those of the part of its index, each refused or answered alike
pub record SegmentsOf (ps : List (List ℕ)) (t : List ℕ) : Type 0 where
  pub accepted : refusal t ≡ 0
  pub many : segments (opened t).head ≡ length ps
  pub within : (i : ℕ) → i < length ps → (1 ≤ index_of (get_or ps i [])) × (index_of (get_or ps i []) ≤ length ps)
  pub once : (k : ℕ) → 1 ≤ k → k ≤ length ps → (i : ℕ) × OnlyAt k ps i
  pub same_points : (i : ℕ) → i < length ps → let p = get_or ps i [] in (a j : ℕ) (u v : Point) → PointCall t a (index_of p) j u → PointCall p a 1 j v → u ≡ v
  pub same-samples : (i : ℕ) → i < length ps → let p = get_or ps i [] in (a j : ℕ) → sample (opened t) a (index_of p) j ≡ sample (opened p) a 1 j

-- a call of `join` that answered 0 counted the parts, and wrote a block whose segments they are
pub joined-segments : (s : List ℕ) → Bytes s → (out : List ℕ) (w : Joined) (left : List ℕ) → JoinCall s out w left → w.refusal ≡ 0
    → (w.count ≡ length (parts_in s)) × SegmentsOf (parts_in s) (take w.length left)
joined-segments s b out w left call z =
    let c = called s out w left call in
    let e : join_refusal s (length out) ≡ 0 = taken s out w left c z in
    (ap (λ (x : Joined). x.count) (said s out w left c z), subst (SegmentsOf (parts_in s)) (sym (wrote s out w left c z)) (go (joined-block s b (length out) e) (join_says s (length out) e).0.together.once))
  where
    go : JoinedBlock (parts_in s) → Once 1 (length (parts_in s)) (parts_in s) → SegmentsOf (parts_in s) (joined_bytes (parts_in s))
    go block one = record {
      accepted = block.accepted;
      many = block.many;
      within = λ i l. let h = (block.placed i l).0 in (h.0, omega (arith, h.1));
      once = λ k l m. only_at k (parts_in s) (one k l (omega arith));
      same_points = λ i l a j u v x y. let p : List ℕ = get_or (parts_in s) i [] in x.2 ∙ same_point (joined_bytes (parts_in s)) (index_of p) p (block.placed i l).1 a j ∙ sym y.2;
      same-samples = λ i l. (block.placed i l).1.same-sample;
    }
