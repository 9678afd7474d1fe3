-- The points of a narrowed block: each is answered where it was (`point_same`) with its time bit for bit, and of a WORD block the exact value falls by the
-- old gain times the remainder of its sample, from 0 to 255 (`point_falls`).
use mathlib.Core.Path.{◌≡◌, refl, sym, ap, ap₂, ◌∙◌, subst}
use mathlib.Core.Logic.{inl, inr}
use Prim.Native.Nat.{ℕ, zero, suc, ◌+◌, ◌-◌, ◌*◌, ◌%◌, ◌^◌, ◌≤◌, ◌<◌}
use native.Mathlib.Nat.{mod-lt}
use native.Mathlib.Omega.{arith}
use mathlib.Core.Bool.{Bool, true, false, cond, ◌||◌}
use mathlib.Core.List.{List, [], ◌∷◌, map}
use lib.ListN.{get_or}
use lib.Dec.{T, leb, ltb, eqb}
use lib.IntN.{ℤ, pos, neg_ℤ, ◌+ℤ◌, ◌-ℤ◌, ◌*ℤ◌, -ℤ-+ℤ_cancel, neg_ℤ-neg_ℤ}
use lib.Ieee.{binary32, le, of_bits}
use lib.Ieee.Scale.{finite}
use borrow.Author.Tests.{lt-ltb}
use Rattle.rules.specs.Numbers.{Bytes, signed}
use Rattle.rules.specs.Wave.{Wave, segments, points}
use Rattle.rules.specs.Rules.{either, first, finite32, rules, refusal, opened}
use Rattle.rules.specs.Points.{array, sample, value, rule_of, time, units, chosen, inside, point_rules, point_refusal}
use Rattle.rules.specs.Cut.{or_else}
use Rattle.rules.proofs.Tests.{first_append}
use Rattle.rules.proofs.Rows.{Shape}
use Rattle.rules.proofs.Waves.{Fits}
use Rattle.rules.proofs.Signs.{times}
use Rattle.rules.proofs.Opened.{rules_numbered, shape_opened, fits-opened, good-opened}
use Rattle.rules.proofs.Asked.{raw_below}
use Rattle.rules.proofs.Rounds.{exact_at, value-order}
use Rattle.narrowing.specs.Narrow.{high, widened, comm_type, gain, narrowed, narrow_by, narrow, narrow_bytes, narrow_refusal}
use Rattle.rules.proofs.Products.{times_sum, times_other, take_part}
use Rattle.narrowing.proofs.Highs.{floor_of, high-at}
use Rattle.narrowing.proofs.Gains.{gain-units}
use Rattle.narrowing.proofs.Accepted.{Gained, NarrowTaken, narrow-says, narrow_byte, narrow-word, halved, narrow-bytes, narrow_accepted}

-- ---- times

time-narrow : (w : Wave) (n k : ℕ) → time (narrow w) n k ≡ time w n k
unfolding narrow
time-narrow w n k = go (comm_type w.head)
  where
    go : (t : ℕ) → time (narrow_by t w) n k ≡ time w n k
    go zero = refl
    go (suc t) = unfold narrowed time rule_of in refl

-- ---- values of a WORD wave

-- the sample as it stands in the wave, as an unsigned number
abbrev pub raw : Wave → ℕ → ℕ → ℕ → ℕ
raw w a n k = get_or (get_or (array a w) (n - 1) []) k 0

module _ (w : Wave) (word : comm_type w.head ≡ 1) (a n k : ℕ) where
  array-narrowed : array a (narrowed w) ≡ map (map high) (array a w)
  unfolding narrowed
  array-narrowed = go (eqb a 1)
    where
      go : (t : Bool) → cond t (map (map high) w.one) (map (map high) w.two) ≡ map (map high) (cond t w.one w.two)
      go true = refl
      go false = refl

  sample-narrowed : sample (narrowed w) a n k ≡ signed 1 (high (raw w a n k))
  unfolding sample narrowed
  sample-narrowed = ap (signed 1) (ap (λ (t : List (List ℕ)). get_or (get_or t (n - 1) []) k 0) array-narrowed ∙ high-at (array a w) (n - 1) k)

  sample_falls : raw w a n k < 65536 → sample w a n k ≡ sample (narrowed w) a n k *ℤ pos 256 +ℤ pos (raw w a n k % 256)
  unfolding sample
  sample_falls l =
      ap (λ (t : ℕ). signed (t + 1) (raw w a n k)) word ∙ floor_of (raw w a n k) l ∙ ap (λ (x : ℤ). x *ℤ pos 256 +ℤ pos (raw w a n k % 256)) (sym sample-narrowed)

  exact_falls : raw w a n k < 65536 → finite32 (gain w.head) ≡ true → finite (widened (gain w.head)) ≡ true
      → exact_at (narrowed w) a n k ≡ exact_at w a n k -ℤ units 149 (of_bits binary32 (gain w.head)) *ℤ pos (raw w a n k % 256)
  exact_falls l f fin =
      let g : ℤ = units 149 (of_bits binary32 (gain w.head)) in
      let o : ℤ = units 149 (of_bits binary32 (w.head 160)) in
      let x : ℤ = sample (narrowed w) a n k in
      let r : ℤ = pos (raw w a n k % 256) in
      let e : exact_at (narrowed w) a n k ≡ g *ℤ pos 256 *ℤ x -ℤ o = unfold narrowed in ap (λ (y : ℤ). y *ℤ x -ℤ o) (gain-units (gain w.head) f fin) in
      e ∙ take_part (g *ℤ pos 256 *ℤ x) (g *ℤ r) o
      ∙ ap (λ (y : ℤ). y +ℤ g *ℤ r -ℤ o -ℤ g *ℤ r) (sym (times_other g x (pos 256)))
      ∙ ap (λ (y : ℤ). y -ℤ o -ℤ g *ℤ r) (sym (times_sum g (x *ℤ pos 256) r))
      ∙ ap (λ (y : ℤ). g *ℤ y -ℤ o -ℤ g *ℤ r) (sym (sample_falls l))

-- ---- which points are answered

positive_twice : (x y : ℕ) → x * 2 ≡ y → ltb 0 x ≡ ltb 0 y
positive_twice zero y e = let z : 0 ≡ y = omega arith in ap (ltb 0) z
positive_twice (suc x) y e = lt-ltb 0 (suc x) (omega arith) ∙ sym (lt-ltb 0 y (omega arith))

point_rules_lem : (w : Wave) → Shape w → Fits w → comm_type w.head ≤ 1 → (a n k : ℕ) → point_rules a n k (narrow w).head ≡ point_rules a n k w.head
unfolding narrow
point_rules_lem w sh f l a n k = go (comm_type w.head) refl
  where
    go : (t : ℕ) → comm_type w.head ≡ t → point_rules a n k (narrow_by t w).head ≡ point_rules a n k w.head
    go zero e = refl
    go (suc zero) e = unfold narrowed point_rules chosen inside in
        ap (λ (t : Bool). (9, either a 1 2 ∷ (eqb a 1 || t) ∷ []) ∷ (10, leb 1 n ∷ leb n (segments w.head) ∷ []) ∷ (11, ltb k (points w.head) ∷ []) ∷ []) (positive_twice ((narrowed w).head 64) (w.head 64) (halved w sh f e).1)
    go (suc (suc t)) e = absurd (omega arith)

-- ---- the narrowed block

-- the old gain in units of 2^−149
abbrev pub old_gain : List ℕ → ℤ
old_gain s = units 149 (of_bits binary32 (gain (opened s).head))

module _ (s : List ℕ) (b : Bytes s) (m : ℕ) (e : narrow_refusal s m ≡ 0) where
  taken : NarrowTaken s m
  taken = narrow-says s m e

  read : opened (narrow_bytes s) ≡ narrow (opened s)
  read = (narrow_accepted s b m e).1

  -- a point is answered where it was
  pub point_same : (a n k : ℕ) → point_refusal (narrow_bytes s) a n k ≡ point_refusal s a n k
  unfolding point_refusal refusal
  point_same a n k =
      let t : List ℕ = narrow_bytes s in
      first_append (rules t) (point_rules a n k (opened t).head) (rules_numbered t)
      ∙ ap₂ or_else ((narrow_accepted s b m e).0 ∙ sym taken.block)
      (ap (λ (w : Wave). first (point_rules a n k w.head)) read ∙ ap first (point_rules_lem (opened s) (shape_opened s b taken.block) (fits-opened s b taken.block) (good-opened s b taken.block).kind a n k))
      ∙ sym (first_append (rules s) (point_rules a n k (opened s).head) (rules_numbered s))

  -- times are the same, bit for bit
  pub time-same : (n k : ℕ) → time (opened (narrow_bytes s)) n k ≡ time (opened s) n k
  time-same n k = ap (λ (w : Wave). time w n k) read ∙ time-narrow (opened s) n k

  -- a BYTE block is read as it was
  pub byte_same : comm_type (opened s).head ≡ 0 → opened (narrow_bytes s) ≡ opened s
  byte_same z = read ∙ narrow_byte (opened s) z

-- Point k of segment n of array a of a WORD block s, in the narrowed block t: its sample is 256 times the new one and a remainder, and its exact value falls by the old
-- gain times the remainder. Where the gain is not negative the value answered goes no higher, and where it is not positive no lower
pub record Fallen (s t : List ℕ) (a n k : ℕ) : Type 0 where
  pub remainder : ℕ
  pub under : remainder < 256
  pub of_sample : sample (opened s) a n k ≡ sample (opened t) a n k *ℤ pos 256 +ℤ pos remainder
  pub falls : exact_at (opened t) a n k ≡ exact_at (opened s) a n k -ℤ old_gain s *ℤ pos remainder
  pub no_higher : (g : ℕ) → old_gain s ≡ pos g → T (le (value (opened t) a n k) (value (opened s) a n k))
  pub no_lower : (g : ℕ) → old_gain s ≡ neg_ℤ (pos g) → T (le (value (opened s) a n k) (value (opened t) a n k))

module _ (s : List ℕ) (b : Bytes s) (m : ℕ) (e : narrow_refusal s m ≡ 0) (word : comm_type (opened s).head ≡ 1) (a n k : ℕ) (q : point_refusal s a n k ≡ 0) where
  read_word : opened (narrow_bytes s) ≡ narrowed (opened s)
  read_word = read s b m e ∙ narrow-word (opened s) word

  small : raw (opened s) a n k < 65536
  small = subst (λ (t : ℕ). raw (opened s) a n k < 256 ^ (t + 1)) word (raw_below s b a n k q)

  finite-word : Gained (opened s).head → finite (widened (gain (opened s).head)) ≡ true
  finite-word (inl z) = absurd (omega arith)
  finite-word (inr f) = f

  rest : ℕ
  rest = raw (opened s) a n k % 256

  exact_word : exact_at (opened (narrow_bytes s)) a n k ≡ exact_at (opened s) a n k -ℤ old_gain s *ℤ pos rest
  unfolding rest
  exact_word =
      ap (λ (v : Wave). exact_at v a n k) read_word
      ∙ exact_falls (opened s) word a n k small (good-opened s b (taken s b m e).block).floats.gain (finite-word (taken s b m e).gains)

  pub point_falls : Fallen s (narrow_bytes s) a n k
  point_falls =
      let t : List ℕ = narrow_bytes s in
      let old : ℤ = exact_at (opened s) a n k in
      let c : Bytes t = narrow-bytes s b (taken s b m e).block in
      let f : point_refusal t a n k ≡ 0 = point_same s b m e a n k ∙ q in
      record {
        remainder = rest;
        under = unfold rest in mod-lt (raw (opened s) a n k) (omega arith);
        of_sample = unfold rest in sample_falls (opened s) word a n k small ∙ ap (λ (v : Wave). sample v a n k *ℤ pos 256 +ℤ pos rest) (sym read_word);
        falls = exact_word;
        no_higher = λ g p.
            value-order t s c b a n k a n k f q (g * rest)
            (ap (λ (x : ℤ). x +ℤ pos (g * rest)) (exact_word ∙ ap (λ (x : ℤ). old -ℤ x *ℤ pos rest) p) ∙ -ℤ-+ℤ_cancel old (pos (g * rest)));
        no_lower = λ g p.
            value-order s t b c a n k a n k q f (g * rest)
            (sym (exact_word ∙ ap (λ (x : ℤ). old -ℤ x *ℤ pos rest) p ∙ ap (λ (x : ℤ). old -ℤ x) (times true false g rest) ∙ ap (λ (x : ℤ). old +ℤ x) (neg_ℤ-neg_ℤ (pos (g * rest)))));
      }
