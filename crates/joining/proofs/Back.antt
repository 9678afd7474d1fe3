-- Where every part was written by our cut with SN not 0, cutting the joined block with SN k, SP 1, NP 0, FP 0 and their byte order gives part k back (`part_back`).
use mathlib.Core.Path.{◌≡◌, refl, sym, ap, ◌∙◌, subst}
use Prim.Native.Nat.{ℕ, zero, suc, ◌*◌, ◌≤◌}
use native.Mathlib.Nat.{one-le-mul}
use native.Mathlib.Omega.{arith}
use mathlib.Core.List.{List, [], ◌∷◌, map, flatten}
use lib.ListN.{length}
use Rattle.rules.specs.Numbers.{Bytes}
use Rattle.rules.specs.Wave.{Wave, order_of, size_of, segments, points, encode, framed}
use Rattle.rules.specs.Rules.{payload, refusal, opened}
use Rattle.rules.specs.Cut.{Setup, thinned, only, kept, changed, changes, or_else, one_if, cut, cut_bytes, cut_refusal}
use Rattle.rules.proofs.Rows.{Rows, Shape, total-rows}
use Rattle.rules.proofs.Waves.{Fits}
use Rattle.rules.proofs.Accepts.{Good}
use Rattle.rules.proofs.Opened.{fits-opened, shape_opened, good-opened}
use Rattle.rules.proofs.Demands.{CutTaken, cut-says, says-cut, cut_accepted}
use Rattle.joining.specs.Join.{index_of, indexed, part_at, parts_in, joined_bytes, join_refusal}
use Rattle.joining.proofs.Lists.{Every}
use Rattle.rules.proofs.Fields.{Agree, instead-out, agree}
use Rattle.joining.proofs.Parts.{parts-bytes}
use Rattle.joining.proofs.Index.{Within, every_at_index, index_at}
use Rattle.joining.proofs.Says.{Joins, join_says}
use Rattle.joining.proofs.Reading.{order-at}
use Rattle.joining.proofs.Cutting.{CutIs, only-first, cut_at}

-- ---- a whole segment is cut as it is

-- SP 1, NP 0, FP 0 and segment n
abbrev pub whole : ℕ → Setup
whole n = record { sp = 1; np = 0; fp = 0; sn = n }

thinned-one : (xs : List ℕ) → thinned 1 0 xs ≡ xs
unfolding thinned
thinned-one [] = refl
thinned-one (x ∷ xs) = ap {B = List ℕ} (λ r. x ∷ r) (thinned-one xs)

kept_whole : (n : ℕ) (t : List (List ℕ)) → map (kept (whole n)) t ≡ t
unfolding kept
kept_whole n [] = refl
kept_whole n (r ∷ rs) = λ i. thinned-one r i ∷ kept_whole n rs i

or_else_own : (n b : ℕ) → 1 ≤ n → or_else n b ≡ n
or_else_own zero b h = absurd (omega arith)
or_else_own (suc n) b h = refl

module _ (w : Wave) (sh : Shape w) (f : Fits w) (alone : w.head 144 ≡ 1) (sparse : 1 ≤ w.head 136) (index : 1 ≤ w.head 140) where
  one-segment : segments w.head ≡ 1
  one-segment = omega arith

  one_only : (k : ℕ) (t : List (List ℕ)) → Rows (segments w.head) k t → only 1 t ≡ t
  one_only k t r = only-first k t (subst (λ (g : ℕ). Rows g k t) one-segment r)

  cut-whole : cut (order_of w.head) (whole 1) w ≡ w
  unfolding cut
  cut-whole =
      let h : ℕ → ℕ = w.head in
      let t : only 1 w.trig ≡ w.trig = one_only sh.trig.wide w.trig sh.trig.rows in
      let x : map (kept (whole 1)) (only 1 w.one) ≡ w.one = kept_whole 1 (only 1 w.one) ∙ one_only (points h) w.one sh.one in
      let y : map (kept (whole 1)) (only 1 w.two) ≡ w.two = kept_whole 1 (only 1 w.two) ∙ one_only sh.two.wide w.two sh.two.rows in
      let count : length (flatten w.one) ≡ h 116 = total-rows (segments h) (points h) w.one sh.one ∙ sym sh.whole in
      let cs : List (ℕ × ℕ) = changes (order_of h) (whole 1) h (only 1 w.trig) (map (kept (whole 1)) (only 1 w.one)) (map (kept (whole 1)) (only 1 w.two)) in
      let a : Agree (changed cs h) h cs = (
        refl,
        (
          ap (λ (u : List (List ℕ)). length (flatten u) * 8) t ∙ sym f.trig-length,
          (
            ap (λ (u : List (List ℕ)). length (flatten u) * size_of h) x ∙ sym f.one-length,
            (
              ap (λ (u : List (List ℕ)). length (flatten u) * size_of h) y ∙ sym f.two-length,
              (ap (λ (u : List (List ℕ)). length (flatten u)) x ∙ count, (omega arith, (omega arith, (or_else_own (h 140) 1 index, (sym alone, tt))))),
            ),
          ),
        ),
      ) in
      λ v. record { head = λ k. agree (changed cs h) h cs a k (instead-out cs k (h k)) v; text = w.text; trig = t v; ris = w.ris; one = x v; two = y v }

-- ---- what our cut writes

-- p was written by our cut with SN not 0, from some block
pub record OurCut (p : List ℕ) : Type 0 where
  pub block : List ℕ
  pub bytes : Bytes block
  pub order : ℕ
  pub setup : Setup
  pub room : ℕ
  pub taken : cut_refusal order setup block room ≡ 0
  pub segment : 1 ≤ setup.sn
  pub written : p ≡ cut_bytes order setup block

pub one_if-some : (n g : ℕ) → 1 ≤ n → one_if n g ≡ 1
one_if-some zero g h = absurd (omega arith)
one_if-some (suc n) g h = refl

module _ (p : List ℕ) (c : OurCut p) where
  taken : CutTaken c.block c.order c.setup c.room
  taken = cut-says c.block c.order c.setup c.room c.taken

  read : opened p ≡ cut c.order c.setup (opened c.block)
  read = ap opened c.written ∙ (cut_accepted c.block c.bytes taken.block c.order c.setup taken.allows).1

  again : framed (encode (opened p)) ≡ p
  again = ap (λ (w : Wave). framed (encode w)) read ∙ unfold cut_bytes in sym c.written

  cut-alone : (opened p).head 144 ≡ 1
  cut-alone = ap (λ (w : Wave). w.head 144) read ∙ unfold cut in one_if-some c.setup.sn ((opened c.block).head 144) c.segment

  cut_sparse : 1 ≤ (opened p).head 136
  cut_sparse = subst (λ (w : Wave). 1 ≤ w.head 136) (sym read) (unfold cut in one-le-mul (omega arith) (omega arith))

-- ---- part k back

-- the cut of the whole segment k of the block t, in t's own byte order, is accepted where there is room for the block p, and is p
pub record CutsBack (t : List ℕ) (k : ℕ) (p : List ℕ) : Type 0 where
  pub order : order_of (opened t).head ≡ order_of (opened p).head
  pub taken : (room : ℕ) → length p ≤ room → cut_refusal (order_of (opened t).head) (whole k) t room ≡ 0
  pub same_bytes : cut_bytes (order_of (opened t).head) (whole k) t ≡ p

-- a part that our cut wrote is its own whole segment
module _ (p : List ℕ) (b : Bytes p) (e : refusal p ≡ 0) (c : OurCut p) (index : 1 ≤ index_of p) where
  own_bytes : cut_bytes (order_of (opened p).head) (whole 1) p ≡ p
  unfolding cut_bytes
  own_bytes = ap (λ (w : Wave). framed (encode w)) (cut-whole (opened p) (shape_opened p b e) (fits-opened p b e) (cut-alone p c) (cut_sparse p c) index) ∙ again p c

  own_taken : (room : ℕ) → length p ≤ room → cut_refusal (order_of (opened p).head) (whole 1) p room ≡ 0
  own_taken room l =
      let g : Good (length (payload p)) (opened p) = good-opened p b e in
      let o : ℕ = order_of (opened p).head in
      says-cut p o (whole 1) room (record {
        block = e;
        allows = record {
          order = (fits-opened p b e).order;
          taken = record { segment = omega arith; point = (shape_opened p b e).some };
          sparse = omega (arith, g.places.sparse);
        };
        room = subst (λ (r : List ℕ). length r ≤ room) (sym own_bytes) l;
      })

module _ (ps : List (List ℕ)) (b : Every Bytes ps) (j : Joins ps) (ours : Every OurCut ps) where
  back_at : (k : ℕ) → Within 1 (length ps) k → CutsBack (joined_bytes ps) k (part_at k ps)
  back_at k h =
      let once : length (indexed k ps) ≡ 1 = j.together.once k h.0 h.1 in
      let p : List ℕ = part_at k ps in
      let bytes : Bytes p = every_at_index Bytes k ps once b in
      let good : refusal p ≡ 0 = every_at_index (λ (x : List ℕ). refusal x ≡ 0) k ps once j.together.good in
      let c : OurCut p = every_at_index OurCut k ps once ours in
      let index : 1 ≤ index_of p = omega (arith, index_at k ps once) in
      let is : CutIs (joined_bytes ps) k p = cut_at ps b j k h in
      let o : order_of (opened (joined_bytes ps)).head ≡ order_of (opened p).head = order-at ps b j k h.0 h.1 in
      record {
        order = o;
        taken = λ room l. ap (λ (q : ℕ). cut_refusal q (whole k) (joined_bytes ps) room) o ∙ is.same_number (order_of (opened p).head) (whole 1) room ∙ own_taken p bytes good c index room l;
        same_bytes = ap (λ (q : ℕ). cut_bytes q (whole k) (joined_bytes ps)) o ∙ is.same_bytes (order_of (opened p).head) (whole 1) ∙ own_bytes p bytes good c index;
      }

pub part_back : (s : List ℕ) → Bytes s → (room : ℕ) → join_refusal s room ≡ 0 → Every OurCut (parts_in s) → (k : ℕ) → Within 1 (length (parts_in s)) k → CutsBack (joined_bytes (parts_in s)) k (part_at k (parts_in s))
part_back s b room e = back_at (parts_in s) (parts-bytes s b) (join_says s room e).0
