-- The two loops over the entries of TRIGTIME: by patterns, what rising ones say (`rising_all`), and by floats, what holds at each turn (`time_more`,
-- `time-end`). Last: the rules of the tables, by those of the entries.
use mathlib.Core.Path.{◌≡◌, refl, sym, ap, ap₂, ◌∙◌, subst, subst₂}
use mathlib.Core.Bool.{Bool, true, false, not, cond, ◌&&◌}
use mathlib.Core.List.{List, [], ◌∷◌, map}
use Prim.Native.Nat.{ℕ, zero, suc, ◌+◌, ◌-◌, ◌*◌, ◌/◌, ◌%◌, ◌≤◌, ◌<◌}
use native.Mathlib.Omega.{arith}
use lib.ListN.{get_or, take, drop}
use lib.Seq.{drop-drop}
use lib.Ieee.{Float, nan, inf, fin, binary64, of_bits, of_fields, lt}
use Rattle.rules.specs.Numbers.{number, numbers, pieces, up_from}
use Rattle.rules.specs.Rules.{all, first, every?, finite32, finite64, measured_by, ascending}
use Rattle.rules.proofs.Every.{every_at}
use Rattle.rules.proofs.Samples.{number_at}
use Rattle.rules.proofs.Tests.{and_intro}
use Rattle.numbers.proofs.Bools.{and_assoc, and_end, and_false}
use Rattle.numbers.proofs.Ordered.{finite-below, ordered-bits}
use Rattle.descriptor.specs.declared.Patterns.{Patterns}
use Rattle.block.specs.declared.Layout.{Layout}
use Rattle.block.specs.Opened.{pattern_head, table_at, time_at, times_from, entry_rules, table_rules}

-- the first number of each entry is finite where all are
pub time-finite : (o from count : ℕ) (s : List ℕ) → every? finite64 (numbers o 8 (count * 2) (drop from s)) ≡ true → (j : ℕ) → j < count → finite64 (time_at o from s j) ≡ true
unfolding finite64 of_bits of_fields
time-finite o from count s e j h =
    let k : j * 2 * 8 ≡ j * 16 = omega arith in
    ap finite64 (sym (number_at o 8 (count * 2) (j * 2) (drop from s) (omega arith) ∙ ap (λ (l : List ℕ). number o (take 8 l)) (drop-drop (j * 2 * 8) from s ∙ ap (λ (n : ℕ). drop (from + n) s) k)))
    ∙ every_at finite64 (numbers o 8 (count * 2) (drop from s)) (j * 2) 0 e refl

-- ---- by patterns

module _ (o from : ℕ) (s : List ℕ) where
  -- the n entries from the j-th on have finite offsets, and times whose patterns rise from `last` to a finite one
  abbrev pub Rising : ℕ → ℕ → ℕ → Type 0
  Rising zero j last = last < 9218868437227405312
  Rising (suc n) j last = (last ≤ time_at o from s j) × (finite64 (number o (take 8 (drop (from + j * 16 + 8) s))) ≡ true) × Rising n (suc j) (time_at o from s j)

  pub rising_more : (count j last time : ℕ) → j < count → time ≡ time_at o from s j → last ≤ time → finite64 (number o (take 8 (drop (from + j * 16 + 8) s))) ≡ true
      → Rising (count - (j + 1)) (j + 1) time → Rising (count - j) j last
  rising_more count j last time h e l f r =
      let n : suc (count - (j + 1)) ≡ count - j = omega arith in
      let k : j + 1 ≡ suc j = omega arith in
      subst (λ (m : ℕ). Rising m j last) n (omega (arith, e), f, subst₂ (λ (i t : ℕ). Rising (count - (j + 1)) i t) k e r)

  pub rising_end : (count j last : ℕ) → count ≤ j → last < 9218868437227405312 → Rising (count - j) j last
  rising_end count j last h l = let n : 0 ≡ count - j = omega arith in subst (λ (m : ℕ). Rising m j last) n l

  under : (n j last : ℕ) → Rising n j last → last < 9218868437227405312
  under zero j last r = r
  under (suc n) j last r = omega (arith, r.0, under n (suc j) (time_at o from s j) r.2)

  rising_finite : (n j last : ℕ) → Rising n j last → every? finite64 (numbers o 8 (n * 2) (drop (from + j * 16) s)) ≡ true
  unfolding pieces finite64
  rising_finite zero j last r = refl
  rising_finite (suc n) j last r =
      let two : suc n * 2 ≡ suc (suc (n * 2)) = omega arith in
      let k : from + j * 16 + 8 + 8 ≡ from + suc j * 16 = omega arith in
      let d = ap (λ (l : List ℕ). drop 8 l) (drop-drop 8 (from + j * 16) s) ∙ drop-drop 8 (from + j * 16 + 8) s ∙ ap (λ (a : ℕ). drop a s) k in
      ap (λ (m : ℕ). every? finite64 (numbers o 8 m (drop (from + j * 16) s))) two
      ∙ and_intro _ _ (finite-below binary64 (time_at o from s j) (under n (suc j) (time_at o from s j) r.2))
      (and_intro _ _ (ap (λ (l : List ℕ). finite64 (number o (take 8 l))) (drop-drop 8 (from + j * 16) s) ∙ r.1)
      (ap (λ (l : List ℕ). every? finite64 (numbers o 8 (n * 2) l)) d ∙ rising_finite n (suc j) (time_at o from s j) r.2))

  rising_ascends : (n j last : ℕ) → Rising n j last → ascending (map (time_at o from s) (up_from j n)) ≡ true
  unfolding up_from
  rising_ascends zero j last r = refl
  rising_ascends (suc zero) j last r = refl
  rising_ascends (suc (suc n)) j last r =
      let t = time_at o from s in
      and_intro _ _ (ap not (ordered-bits binary64 (t j) (t (suc j)) r.2.0 (under n (suc (suc j)) (t (suc j)) r.2.2))) (rising_ascends (suc n) (suc j) (t j) r.2)

  pub rising_all : (count : ℕ) → Rising count 0 0 → first (entry_rules o from count s) ≡ 0
  rising_all count r =
      let k : from ≡ from + 0 * 16 = omega arith in
      ap₂ {C = ℕ} (λ a b. cond (a && true) (cond (b && true) 0 20) 8) (ap (λ (x : ℕ). every? finite64 (numbers o 8 (count * 2) (drop x s))) k ∙ rising_finite count 0 0 r) (rising_ascends count 0 0 r)

-- ---- by floats

-- these times ascend, and the first is not below one before it
abbrev pub after : Float → List ℕ → Bool
after last [] = true
after last (t ∷ ts) = not (lt (of_bits binary64 t) last) && ascending (t ∷ ts)

none_below : (x : Float) → lt x (inf true) ≡ false
unfolding lt
none_below nan = refl
none_below (inf true) = refl
none_below (inf false) = refl
none_below (fin s m e) = refl

pub after_none : (ts : List ℕ) → ascending ts ≡ after (of_bits binary64 18442240474082181120) ts
unfolding of_bits of_fields
after_none [] = refl
after_none (t ∷ ts) = ap (λ (b : Bool). not b && ascending (t ∷ ts)) (sym (none_below (of_bits binary64 t)))

after_first : (t : ℕ) (ts : List ℕ) → ascending (t ∷ ts) ≡ after (of_bits binary64 t) ts
after_first t [] = refl
after_first t (u ∷ ts) = refl

module _ (time : ℕ → ℕ) (count : ℕ) where
  pub time_more : (x ok r : Bool) (last : Float) (j : ℕ) → j < count → r ≡ not (lt (of_bits binary64 (time j)) last) → x ≡ ok && after last (map time (up_from j (count - j)))
      → x ≡ (ok && r) && after (of_bits binary64 (time j)) (map time (up_from (j + 1) (count - (j + 1))))
  unfolding up_from
  time_more x ok r last j h e i =
      let n : ℕ = count - (j + 1) in
      let a : count - j ≡ suc n = omega arith in
      let b : suc j ≡ j + 1 = omega arith in
      i ∙ ap (λ (m : ℕ). ok && after last (map time (up_from j m))) a
      ∙ ap₂ {C = Bool} (λ c d. ok && (c && d)) (sym e) (after_first (time j) (map time (up_from (suc j) n)))
      ∙ ap (λ (k : ℕ). ok && (r && after (of_bits binary64 (time j)) (map time (up_from k n)))) b
      ∙ sym (and_assoc ok r (after (of_bits binary64 (time j)) (map time (up_from (j + 1) n))))

  pub time-end : (x ok : Bool) (last : Float) (j : ℕ) → count ≤ j → x ≡ ok && after last (map time (up_from j (count - j))) → ok ≡ x
  unfolding up_from
  time-end x ok last j h i = let a : count - j ≡ 0 = omega arith in sym (i ∙ ap (λ (m : ℕ). ok && after last (map time (up_from j m))) a ∙ and_end ok)

-- ---- the rules of the tables, by those of the entries

-- rule 8 of a block with TRIGTIME is that of one without it, and of TRIGTIME's numbers
measured_apart : (h : ℕ → ℕ) (trig ris : List ℕ) → all (measured_by h trig ris) ≡ all (measured_by h [] ris) && every? finite64 trig
measured_apart h trig ris = go (finite32 (h 156)) (finite32 (h 160)) (finite32 (h 176)) (finite64 (h 180)) (every? finite64 trig) (every? finite64 ris)
  where
    go : (a b c d t r : Bool) → all (a ∷ b ∷ c ∷ d ∷ t ∷ r ∷ []) ≡ all (a ∷ b ∷ c ∷ d ∷ true ∷ r ∷ []) && t
    go true true true true true r = sym (and_end (r && true))
    go true true true true false r = sym (and_false (r && true))
    go true true true false t r = refl
    go true true false d t r = refl
    go true false c d t r = refl
    go false b c d t r = refl

module _ (o start : ℕ) (p : Patterns) (y : Layout) (s : List ℕ) where
  apart : all (measured_by (pattern_head p) (table_at o start y 3 s) (table_at o start y 4 s)) ≡ all (measured_by (pattern_head p) [] (table_at o start y 4 s)) && every? finite64 (table_at o start y 3 s)
  apart = measured_apart (pattern_head p) (table_at o start y 3 s) (table_at o start y 4 s)

  abbrev rest : List (ℕ × List Bool)
  rest = (20, ascending (times_from o (start + get_or y.starts 3 0) (get_or y.lengths 3 0 / 16) s) ∷ []) ∷ []

  pub tables_broken : all (measured_by (pattern_head p) [] (table_at o start y 4 s)) ≡ false → first (table_rules o start p y s) ≡ 8
  tables_broken e = ap (λ (b : Bool). cond b (first rest) 8) (apart ∙ ap (λ (b : Bool). b && every? finite64 (table_at o start y 3 s)) e)

  pub tables_by_entries : all (measured_by (pattern_head p) [] (table_at o start y 4 s)) ≡ true → get_or y.lengths 3 0 % 16 ≡ 0
      → first (entry_rules o (start + get_or y.starts 3 0) (get_or y.lengths 3 0 / 16) s) ≡ first (table_rules o start p y s)
  tables_by_entries e whole =
      let two : get_or y.lengths 3 0 / 16 * 2 ≡ get_or y.lengths 3 0 / 8 = omega arith in
      ap (λ (b : Bool). cond b (first rest) 8)
      (and_end _
      ∙ ap (λ (n : ℕ). every? finite64 (numbers o 8 n (drop (start + get_or y.starts 3 0) s))) two
      ∙ sym (apart ∙ ap (λ (b : Bool). b && every? finite64 (table_at o start y 3 s)) e))
