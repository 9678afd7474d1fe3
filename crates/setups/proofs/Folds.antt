-- The pairs as the loop takes them, one after another: what comes of those that are left, with the values of those before them (`going_on`). No pair (`step_none`), one that stands twice
-- (`step_twice`), the last (`step_end`), something else behind it (`step_stop`), or more (`step_more`). From the start it is what the pairs say (`from_start`).
use mathlib.Core.Path.{◌≡◌, refl, sym, ap, ap₂, ◌∙◌, subst}
use Prim.Native.Nat.{ℕ, suc, ◌+◌, ◌-◌, ◌≤◌, ◌<◌}
use native.Mathlib.Numerals.{add-one}
use native.Mathlib.Omega.{arith}
use mathlib.Core.Bool.{Bool, true, false, cond, not, ◌&&◌, ◌||◌}
use mathlib.Core.List.{List, [], ◌∷◌}
use mathlib.Core.Option.{Option as Maybe, none, some}
use lib.ListN.{length, get_or, drop, set, length-set, length-append, length-drop, drop_of_length-le}
use lib.Seq.{drop-cons, drop-drop, get_or-set_same, get_or-set_other}
use lib.Dec.{eqb}
use borrow.Author.Tests.{eqb-true, eqb-false, eq-eqb, ne_eqb}
use Rattle.std.specs.Prelude.{Option, Some, None, is_some, unwrap_or}
use Rattle.rules.specs.Cut as rules
use Rattle.numbers.proofs.Bools.{and_end, and_false}
use Rattle.digits.specs.Digits.{value_of}
use Rattle.cuts.specs.declared.Setup.{Setup}
use Rattle.cuts.specs.Cuts.{setup_of}
use Rattle.lines.specs.Grammar.{Key, SP, NP, FP, SN, nth, Pair, number_of, numbers_of, comma, pair_text}
use Rattle.lines.specs.Reader.{given, taken?, once?, pair_at, before, behind, pairs_by, pairs_at}
use Rattle.lines.proofs.Pairs.{pair-sound, length-pair}
use Rattle.setups.proofs.Starts.{eqb_turned}
use Rattle.setups.specs.Setups.{found_as, numbers_in, pairs_as}
use Rattle.setups.specs.declared.reads.Found.{Found}

abbrev pub free : List (Option ℕ) → ℕ → Bool
free vs k = not (is_some (get_or vs k None))

-- the pairs added to four values, one after another
abbrev pub added : List (Option ℕ) → List Pair → Option Setup
added vs [] = Some (setup_of (numbers_in vs))
added vs (p ∷ ps) = cond (free vs (nth p.key)) (added (set vs (nth p.key) (Some (value_of p.digits))) ps) None

abbrev pub going_on : List (Option ℕ) → Maybe (List Pair) → Option Setup
going_on vs none = None
going_on vs (some ps) = added vs ps

-- ---- a turn of the loop

below_4 : (k : Key) → nth k < 4
below_4 SP = omega arith
below_4 NP = omega arith
below_4 FP = omega arith
below_4 SN = omega arith

going_before : (vs : List (Option ℕ)) (p : Pair) (o : Maybe (List Pair)) → going_on vs (before p o) ≡ cond (free vs (nth p.key)) (going_on (set vs (nth p.key) (Some (value_of p.digits))) o) None
going_before vs p none = sym (go (free vs (nth p.key)) None)
  where
    go : (b : Bool) (n : Option Setup) → cond b n n ≡ n
    go true n = refl
    go false n = refl
going_before vs p (some ps) = refl

module _ (line : List ℕ) (at n : ℕ) (vs : List (Option ℕ)) where
  abbrev Here : Maybe Pair → Option Setup
  Here o = going_on vs (pairs_by (pairs_at n) (drop at line) o)

  -- what stands behind a pair that was found
  rest_is : (p : Pair) → drop (3 + length p.digits) (drop at line) ≡ drop (at + 3 + length p.digits) line
  rest_is p = let e : at + (3 + length p.digits) ≡ at + 3 + length p.digits = omega arith in drop-drop (3 + length p.digits) at line ∙ ap (λ (k : ℕ). drop k line) e

  module _ (p : Pair) where
    abbrev next : ℕ
    next = at + 3 + length p.digits

    here_end : next ≡ length line → Here (some p) ≡ going_on vs (some (p ∷ []))
    here_end e = ap (λ (u : List ℕ). going_on vs (behind (pairs_at n) p u)) (rest_is p ∙ drop_of_length-le line {i = next} (omega arith))

    here_more : next < length line → Here (some p) ≡ going_on vs (given (eqb (get_or line next 0) comma) (before p (pairs_at n (drop (next + 1) line))))
    here_more h =
        ap (λ (u : List ℕ). going_on vs (behind (pairs_at n) p u)) (rest_is p ∙ drop-cons line next 0 h)
        ∙ ap (λ (k : ℕ). going_on vs (given (eqb (get_or line next 0) comma) (before p (pairs_at n (drop k line))))) (sym (add-one next))

    -- the key was taken: whatever stands behind
    here_twice : is_some (get_or vs (nth p.key) None) ≡ true → Here (some p) ≡ None
    here_twice h = go (drop (3 + length p.digits) (drop at line))
      where
        not_free : free vs (nth p.key) ≡ false
        not_free = ap not h

        two : (b : Bool) (o : Maybe (List Pair)) → going_on vs (given b (before p o)) ≡ None
        two true o = going_before vs p o ∙ ap (λ (f : Bool). cond f (going_on (set vs (nth p.key) (Some (value_of p.digits))) o) None) not_free
        two false o = refl

        go : (u : List ℕ) → going_on vs (behind (pairs_at n) p u) ≡ None
        go [] = ap (λ (f : Bool). cond f (Some (setup_of (numbers_in (set vs (nth p.key) (Some (value_of p.digits)))))) None) not_free
        go (b ∷ u) = two (eqb b comma) (pairs_at n u)

-- ---- the same of what the code found there, with `left` pairs to go

module _ (line : List ℕ) (at left : ℕ) (vs : List (Option ℕ)) (r : Option Found) (e : r ≡ found_as at (pair_at (drop at line))) (some_left : 0 < left) where
  abbrev Ahead : Option Setup
  Ahead = going_on vs (pairs_at left (drop at line))

  -- of what may stand there, each case
  by_case : (P : Option Found → Option Setup → Type 0) → P None None
      → ((p : Pair) → pair_at (drop at line) ≡ some p → P (found_as at (some p)) (Here line at (left - 1) vs (some p))) → P r Ahead
  unfolding pairs_at
  by_case P nothing one =
      let n : left ≡ suc (left - 1) = omega arith in
      subst (λ (k : ℕ). P r (going_on vs (pairs_at k (drop at line)))) (sym n) (subst (λ (x : Option Found). P x (Here line at (left - 1) vs (pair_at (drop at line)))) (sym e) (go (pair_at (drop at line)) refl))
    where
      go : (o : Maybe Pair) → pair_at (drop at line) ≡ o → P (found_as at o) (Here line at (left - 1) vs o)
      go none q = nothing
      go (some p) q = one p q

  pub step_none : r ≡ None → None ≡ Ahead
  step_none = by_case (λ x a. x ≡ None → None ≡ a) (λ k. refl) (λ p q k. cc)

  module _ (f : Found) (there : r ≡ Some f) where
    -- of the pair that was found
    of_found : (P : Found → Option Setup → Type 0)
        → ((p : Pair) → pair_at (drop at line) ≡ some p → P (record { key = nth p.key; value = value_of p.digits; next = at + 3 + length p.digits }) (Here line at (left - 1) vs (some p))) → P f Ahead
    of_found P one =
        by_case (λ x a. x ≡ Some f → P f a) (λ k. cc)
        (λ p q k.
        let z : record { key = nth p.key; value = value_of p.digits; next = at + 3 + length p.digits } ≡ f = cc in
        subst (λ (x : Found). P x (Here line at (left - 1) vs (some p))) z (one p q))
        there

    -- its key is one of the four, and it ends within the line
    pub found_within : at ≤ length line → (f.key < 4) × (f.next ≤ length line)
    found_within h =
        of_found (λ x a. (x.key < 4) × (x.next ≤ length line))
        (λ p q. (
          below_4 p.key,
          omega (arith, ap length (pair-sound (drop at line) p q).1, length-append (pair_text p) (drop (3 + length p.digits) (drop at line)), length-pair p, length-drop at line, h),
        ))

    pub step_twice : is_some (get_or vs f.key None) ≡ true → None ≡ Ahead
    step_twice = of_found (λ x a. is_some (get_or vs x.key None) ≡ true → None ≡ a) (λ p q h. sym (here_twice line at (left - 1) vs p h))

    pub step_end : is_some (get_or vs f.key None) ≡ false → f.next ≡ length line → Some (setup_of (numbers_in (set vs f.key (Some f.value)))) ≡ Ahead
    step_end =
        of_found (λ x a. is_some (get_or vs x.key None) ≡ false → x.next ≡ length line → Some (setup_of (numbers_in (set vs x.key (Some x.value)))) ≡ a)
        (λ p q h l.
        sym (here_end line at (left - 1) vs p l ∙ ap (λ (b : Bool). cond (not b) (Some (setup_of (numbers_in (set vs (nth p.key) (Some (value_of p.digits)))))) None) h))

    module _ (more : f.next < length line) where
      pub step_stop : (get_or line f.next 0 ≡ comma → ⊥) → None ≡ Ahead
      step_stop =
          of_found (λ x a. x.next < length line → (get_or line x.next 0 ≡ comma → ⊥) → None ≡ a)
          (λ p q l n.
          sym (here_more line at (left - 1) vs p l ∙ ap (λ (b : Bool). going_on vs (given b (before p (pairs_at (left - 1) (drop (at + 3 + length p.digits + 1) line))))) (ne_eqb (get_or line (at + 3 + length p.digits) 0) comma n)))
          more

      pub step_more : is_some (get_or vs f.key None) ≡ false → get_or line f.next 0 ≡ comma → going_on (set vs f.key (Some f.value)) (pairs_at (left - 1) (drop (f.next + 1) line)) ≡ Ahead
      step_more =
          of_found (λ x a. x.next < length line → is_some (get_or vs x.key None) ≡ false → get_or line x.next 0 ≡ comma → going_on (set vs x.key (Some x.value)) (pairs_at (left - 1) (drop (x.next + 1) line)) ≡ a)
          (λ p q l h c.
          let u : Maybe (List Pair) = pairs_at (left - 1) (drop (at + 3 + length p.digits + 1) line) in
          sym (here_more line at (left - 1) vs p l
          ∙ ap (λ (b : Bool). going_on vs (given b (before p u))) (eq-eqb (get_or line (at + 3 + length p.digits) 0) comma c)
          ∙ going_before vs p u
          ∙ ap (λ (b : Bool). cond (not b) (going_on (set vs (nth p.key) (Some (value_of p.digits))) u) None) h))
          more

-- ---- from the start: what the pairs say

abbrev start : List (Option ℕ)
start = None ∷ None ∷ None ∷ None ∷ []

-- no key of the pairs was taken
abbrev all_free : List (Option ℕ) → List Pair → Bool
all_free vs [] = true
all_free vs (p ∷ ps) = free vs (nth p.key) && all_free vs ps

-- a key's number, of those before or of the pairs
abbrev number_by : List (Option ℕ) → List Pair → Key → ℕ
number_by vs ps k = cond (free vs (nth k)) (number_of k ps) (unwrap_or (get_or vs (nth k) None) 0)

abbrev numbers_by : List (Option ℕ) → List Pair → rules.Setup
numbers_by vs ps = record { sp = number_by vs ps SP; np = number_by vs ps NP; fp = number_by vs ps FP; sn = number_by vs ps SN }

-- one more value, at a key that was free
module _ (vs : List (Option ℕ)) (four : length vs ≡ 4) (j : Key) (v : ℕ) where
  abbrev more : List (Option ℕ)
  more = set vs (nth j) (Some v)

  value-at : (k : Key) → get_or more (nth k) None ≡ cond (eqb (nth k) (nth j)) (Some v) (get_or vs (nth k) None)
  value-at k = go (eqb (nth k) (nth j)) refl
    where
      go : (b : Bool) → eqb (nth k) (nth j) ≡ b → get_or more (nth k) None ≡ cond b (Some v) (get_or vs (nth k) None)
      go true e = ap (λ (i : ℕ). get_or more i None) (eqb-true (nth k) (nth j) e) ∙ get_or-set_same vs (nth j) (Some v) None (omega (arith, below_4 j, four))
      go false e = get_or-set_other vs (nth j) (nth k) (Some v) None (eqb-false (nth k) (nth j) e)

  free_more : (ps : List Pair) → all_free more ps ≡ not (taken? j ps) && all_free vs ps
  free_more [] = refl
  free_more (p ∷ ps) =
      ap₂ {C = Bool} (λ x y. not (is_some x) && y) (value-at p.key ∙ ap (λ (b : Bool). cond b (Some v) (get_or vs (nth p.key) None)) (eqb_turned (nth p.key) (nth j))) (free_more ps)
      ∙ go (eqb (nth j) (nth p.key)) (free vs (nth p.key)) (taken? j ps) (all_free vs ps) refl
    where
      go : (a f t r : Bool) → free vs (nth p.key) ≡ f → not (is_some (cond a (Some v) (get_or vs (nth p.key) None))) && (not t && r) ≡ not (a || t) && (f && r)
      go true f t r e = refl
      go false f t r e = ap (λ (b : Bool). b && (not t && r)) e ∙ swap f (not t) r
        where
          swap : (x y z : Bool) → x && (y && z) ≡ y && (x && z)
          swap true y z = refl
          swap false y z = sym (and_false y)

  module _ (ds : List ℕ) (is : value_of ds ≡ v) (here : free vs (nth j) ≡ true) (ps : List Pair) where
    number_more : (k : Key) → number_by more ps k ≡ number_by vs (record { key = j; digits = ds } ∷ ps) k
    number_more k = ap (λ (x : Option ℕ). cond (not (is_some x)) (number_of k ps) (unwrap_or x 0)) (value-at k) ∙ go (eqb (nth k) (nth j)) refl
      where
        go : (b : Bool) → eqb (nth k) (nth j) ≡ b
            → cond (not (is_some (cond b (Some v) (get_or vs (nth k) None)))) (number_of k ps) (unwrap_or (cond b (Some v) (get_or vs (nth k) None)) 0)
            ≡ cond (free vs (nth k)) (cond b (value_of ds) (number_of k ps)) (unwrap_or (get_or vs (nth k) None) 0)
        go true e =
            sym is ∙ sym (ap (λ (b : Bool). cond b (value_of ds) (unwrap_or (get_or vs (nth k) None) 0)) (ap (free vs) (eqb-true (nth k) (nth j) e) ∙ here))
        go false e = refl

    numbers_more : numbers_by more ps ≡ numbers_by vs (record { key = j; digits = ds } ∷ ps)
    numbers_more = λ i. record { sp = number_more SP i; np = number_more NP i; fp = number_more FP i; sn = number_more SN i }

-- a missing value counts as 0
or_zero : (x : Option ℕ) → unwrap_or x 0 ≡ cond (not (is_some x)) 0 (unwrap_or x 0)
or_zero None = refl
or_zero (Some n) = refl

added_is : (vs : List (Option ℕ)) → length vs ≡ 4 → (ps : List Pair) → added vs ps ≡ cond (once? ps && all_free vs ps) (Some (setup_of (numbers_by vs ps))) None
added_is vs four [] = λ i. Some (setup_of (record { sp = or_zero (get_or vs 0 None) i; np = or_zero (get_or vs 1 None) i; fp = or_zero (get_or vs 2 None) i; sn = or_zero (get_or vs 3 None) i }))
added_is vs four (p ∷ ps) =
    go (free vs (nth p.key)) refl (added_is (set vs (nth p.key) (Some (value_of p.digits))) (length-set vs (nth p.key) (Some (value_of p.digits)) ∙ four) ps)
  where
    order : (o t r : Bool) → o && (not t && r) ≡ (not t && o) && r
    order true true r = refl
    order true false r = refl
    order false true r = refl
    order false false r = refl

    go : (f : Bool) → free vs (nth p.key) ≡ f
        → (added (set vs (nth p.key) (Some (value_of p.digits))) ps ≡ cond (once? ps && all_free (set vs (nth p.key) (Some (value_of p.digits))) ps) (Some (setup_of (numbers_by (set vs (nth p.key) (Some (value_of p.digits))) ps))) None)
        → cond f (added (set vs (nth p.key) (Some (value_of p.digits))) ps) None ≡ cond ((not (taken? p.key ps) && once? ps) && (f && all_free vs ps)) (Some (setup_of (numbers_by vs (p ∷ ps)))) None
    go false e ih = sym (ap (λ (b : Bool). cond b (Some (setup_of (numbers_by vs (p ∷ ps)))) None) (and_false (not (taken? p.key ps) && once? ps)))
    go true e ih =
        ih
        ∙ ap₂ {C = Option Setup} (λ b c. cond b (Some (setup_of c)) None) (ap (λ (b : Bool). once? ps && b) (free_more vs four p.key (value_of p.digits) ps) ∙ order (once? ps) (taken? p.key ps) (all_free vs ps))
        (numbers_more vs four p.key (value_of p.digits) p.digits refl e ps)

-- the pairs added to none are what they say
pub from_start : (n : ℕ) (t : List ℕ) → going_on start (pairs_at n t) ≡ pairs_as (pairs_at n t)
unfolding numbers_of
from_start n t = go (pairs_at n t)
  where
    all-free : (ps : List Pair) → all_free start ps ≡ true
    all-free [] = refl
    all-free (p ∷ ps) = ap₂ {C = Bool} (λ a b. a && b) (one p.key) (all-free ps)
      where
        one : (k : Key) → free start (nth k) ≡ true
        one SP = refl
        one NP = refl
        one FP = refl
        one SN = refl

    go : (o : Maybe (List Pair)) → going_on start o ≡ pairs_as o
    go none = refl
    go (some ps) =
        added_is start refl ps
        ∙ ap (λ (b : Bool). cond b (Some (setup_of (numbers_of ps))) None) (ap (λ (b : Bool). once? ps && b) (all-free ps) ∙ and_end (once? ps))
