-- A key and a pair as the code reads them, test after test: which key (`key_is`, `key_by`), no pair (`too_short`, `no_key`, `no_comma`, `no_value`), or one (`pair_found`).
use mathlib.Core.Path.{◌≡◌, refl, sym, ap, ap₂, ◌∙◌}
use Prim.Native.Nat.{ℕ, suc, ◌+◌, ◌-◌, ◌≤◌, ◌<◌, min}
use native.Mathlib.Nat.{add-sub_cancel_left}
use native.Mathlib.Numerals.{add-one}
use native.Mathlib.Omega.{arith}
use mathlib.Core.Bool.{Bool, true, false, cond, ◌&&◌, false≢true}
use mathlib.Core.List.{List, [], ◌∷◌}
use mathlib.Core.Option.{Option as Maybe, none, some}
use lib.ListN.{length, get_or, take, drop, get_or-eq_default}
use lib.Seq.{drop-cons, drop-drop, get_or-drop, take_all}
use lib.Dec.{leb, ltb, eqb}
use borrow.Author.Tests.{le-leb, lt-leb, ltb-true, ltb-false, eq-eqb, ne_eqb}
use Rattle.std.specs.Prelude.{Some, None}
use Rattle.numbers.proofs.Bools.{and_assoc, and_end}
use Rattle.digits.specs.Digits.{value_of, digits_at, run_of}
use Rattle.digits.specs.declared.Run.{Run}
use Rattle.digits.proofs.Runs.{start-alike, start-full}
use Rattle.lines.specs.Grammar.{Key, SP, NP, FP, SN, nth, comma}
use Rattle.lines.specs.Reader.{key_of, value?, pair_by, pair_at}
use Rattle.setups.specs.Setups.{key_as, found_as}

-- ---- the key

-- the two letters that stand at `at`
pub key_is : (s : List ℕ) (at : ℕ) → at + 2 ≤ length s → (x y : ℕ) → get_or s at 0 ≡ x → get_or s (at + 1) 0 ≡ y → key_as (key_of (x ∷ y ∷ [])) ≡ key_as (key_of (take 2 (drop at s)))
key_is s at h x y p q =
    let e : take 2 (drop at s) ≡ get_or s at 0 ∷ get_or s (at + 1) 0 ∷ [] =
    ap (take 2) (drop-cons s at 0 (omega arith) ∙ ap {B = List ℕ} (λ l. get_or s at 0 ∷ l) (drop-cons s (suc at) 0 (omega arith)))
    ∙ ap (λ (k : ℕ). get_or s at 0 ∷ get_or s k 0 ∷ []) (sym (add-one at)) in
    sym (ap (λ (l : List ℕ). key_as (key_of l)) (e ∙ (λ i. p i ∷ q i ∷ [])))

-- which key two letters are, by the tests of each
pub key_by : (x y : ℕ) (s n f p q : Bool) → eqb x 83 ≡ s → eqb x 78 ≡ n → eqb x 70 ≡ f → eqb y 80 ≡ p → eqb y 78 ≡ q
    → key_as (cond (s && (p && true)) (some SP) (cond (n && (p && true)) (some NP) (cond (f && (p && true)) (some FP) (cond (s && (q && true)) (some SN) none)))) ≡ key_as (key_of (x ∷ y ∷ []))
unfolding key_of
key_by x y s n f p q es en ef ep eq =
    λ i.
    key_as
    (cond (sym es i && (sym ep i && true)) (some SP)
    (cond (sym en i && (sym ep i && true)) (some NP) (cond (sym ef i && (sym ep i && true)) (some FP) (cond (sym es i && (sym eq i && true)) (some SN) none))))

-- ---- the pair

module _ (s : List ℕ) (at : ℕ) where
  pair_here : pair_at (drop at s) ≡ pair_by (key_of (take 2 (drop at s))) (eqb (get_or s (at + 2) 0) comma) (digits_at (drop (at + 3) s))
  unfolding pair_at
  pair_here = ap₂ {C = Maybe _} (λ b l. pair_by (key_of (take 2 (drop at s))) (eqb b comma) (digits_at l)) (get_or-drop at s 2 0) (drop-drop 3 at s)

  pub no_comma : (get_or s (at + 2) 0 ≡ comma → ⊥) → None ≡ found_as at (pair_at (drop at s))
  no_comma n = sym (ap (found_as at) (pair_here ∙ ap (λ (b : Bool). pair_by (key_of (take 2 (drop at s))) b (digits_at (drop (at + 3) s))) (ne_eqb (get_or s (at + 2) 0) comma n)) ∙ go (key_of (take 2 (drop at s))))
    where
      go : (o : Maybe Key) → found_as at (pair_by o false (digits_at (drop (at + 3) s))) ≡ None
      go none = refl
      go (some k) = refl

  pub too_short : length s < at + 3 → None ≡ found_as at (pair_at (drop at s))
  too_short h = let z : get_or s (at + 2) 0 ≡ 0 = get_or-eq_default s 0 (omega arith) in no_comma (λ e. omega arith)

  pub no_key : key_as (key_of (take 2 (drop at s))) ≡ None → None ≡ found_as at (pair_at (drop at s))
  no_key e = sym (ap (found_as at) pair_here ∙ go (key_of (take 2 (drop at s))) e)
    where
      go : (o : Maybe Key) → key_as o ≡ None → found_as at (pair_by o (eqb (get_or s (at + 2) 0) comma) (digits_at (drop (at + 3) s))) ≡ None
      go none e = refl
      go (some k) e = cc

  pub no_value : value? (digits_at (drop (at + 3) s)) ≡ false → None ≡ found_as at (pair_at (drop at s))
  no_value e = sym (ap (found_as at) pair_here ∙ go (key_of (take 2 (drop at s))) (eqb (get_or s (at + 2) 0) comma))
    where
      go : (o : Maybe Key) (b : Bool) → found_as at (pair_by o b (digits_at (drop (at + 3) s))) ≡ None
      go none b = refl
      go (some k) false = refl
      go (some k) true = ap (λ (t : Bool). found_as at (cond t (some (record { key = k; digits = digits_at (drop (at + 3) s) })) none)) e

  pub pair_found : (k : ℕ) → key_as (key_of (take 2 (drop at s))) ≡ Some k → get_or s (at + 2) 0 ≡ comma → value? (digits_at (drop (at + 3) s)) ≡ true
      → Some (record { key = k; value = value_of (digits_at (drop (at + 3) s)); next = at + 3 + length (digits_at (drop (at + 3) s)) }) ≡ found_as at (pair_at (drop at s))
  pair_found k n c e = sym (ap (found_as at) (pair_here ∙ ap (λ (b : Bool). pair_by (key_of (take 2 (drop at s))) b (digits_at (drop (at + 3) s))) (eq-eqb (get_or s (at + 2) 0) comma c)) ∙ go (key_of (take 2 (drop at s))) n)
    where
      go : (o : Maybe Key) → key_as o ≡ Some k
          → found_as at (pair_by o true (digits_at (drop (at + 3) s))) ≡ Some (record { key = k; value = value_of (digits_at (drop (at + 3) s)); next = at + 3 + length (digits_at (drop (at + 3) s)) })
      go none n = cc
      go (some j) n =
          let z : nth j ≡ k = cc in
          ap (λ (t : Bool). found_as at (cond t (some (record { key = j; digits = digits_at (drop (at + 3) s) })) none)) e
          ∙ (λ i. Some (record { key = z i; value = value_of (digits_at (drop (at + 3) s)); next = at + 3 + length (digits_at (drop (at + 3) s)) }))

-- ---- the value, in the first eleven bytes behind the comma

value-long : (ds : List ℕ) → 10 < length ds → value? ds ≡ false
value-long ds h = ap₂ {C = Bool} (λ a b. a && (b && (leb (value_of ds) 4294967295 && true))) (le-leb 1 (length ds) (omega arith)) (lt-leb (length ds) 10 h)

module _ (u : List ℕ) where
  eleven : (t : Bool) → ltb (length (digits_at (take 11 u))) 11 ≡ t → (value? (digits_at (take 11 u)) ≡ value? (digits_at u)) × (value? (digits_at (take 11 u)) ≡ true → digits_at (take 11 u) ≡ digits_at u)
  eleven true e = let s : digits_at (take 11 u) ≡ digits_at u = start-alike 11 u (ltb-true (length (digits_at (take 11 u))) 11 e) in (ap value? s, λ v. s)
  eleven false e =
      let l : 11 ≤ length (digits_at (take 11 u)) = ltb-false (length (digits_at (take 11 u))) 11 e in
      let f : value? (digits_at (take 11 u)) ≡ false = value-long (digits_at (take 11 u)) (omega arith) in
      (f ∙ sym (value-long (digits_at u) (omega (arith, start-full 11 u))), λ v. absurd (false≢true (sym f ∙ v)))

  start_is : (n : ℕ) → n ≡ length u → take (min n 11) u ≡ take 11 u
  start_is n e = go (ltb n 11) (ltb-true n 11) (ltb-false n 11)
    where
      go : (t : Bool) → (t ≡ true → n < 11) → (t ≡ false → 11 ≤ n) → take (min n 11) u ≡ take 11 u
      go true f g = take_all (min n 11) u (omega (arith, f refl)) ∙ sym (take_all 11 u (omega (arith, f refl)))
      go false f g = let m : min n 11 ≡ 11 = omega (arith, g refl) in ap (λ (k : ℕ). take k u) m

-- the code's test of what it read from `from` on
abbrev pub tested : ℕ → Run → Bool
tested from r = (leb 1 (r.end - from) && leb (r.end - from) 10) && leb r.value 4294967295

joined : (from : ℕ) (ds : List ℕ) → (leb 1 (from + length ds - from) && leb (from + length ds - from) 10) && leb (value_of ds) 4294967295 ≡ value? ds
joined from ds = ap (λ (n : ℕ). (leb 1 n && leb n 10) && leb (value_of ds) 4294967295) (add-sub_cancel_left from (length ds)) ∙ simp (and_assoc, and_end)

module _ (from : ℕ) (u : List ℕ) (n : ℕ) (l : n ≡ length u) (r : Run) (e : r ≡ run_of from (take (from + min n 11 - from) u)) where
  run_is : r ≡ run_of from (take 11 u)
  run_is = e ∙ ap (λ (k : ℕ). run_of from (take k u)) (add-sub_cancel_left from (min n 11)) ∙ ap (run_of from) (start_is u n l)

  pub tested_is : tested from r ≡ value? (digits_at u)
  tested_is = ap (tested from) run_is ∙ joined from (digits_at (take 11 u)) ∙ (eleven u (ltb (length (digits_at (take 11 u))) 11) refl).0

  pub run_found : tested from r ≡ true → r ≡ run_of from u
  run_found t =
      run_is
      ∙ ap (λ (ds : List ℕ). record { end = from + length ds; value = value_of ds })
      ((eleven u (ltb (length (digits_at (take 11 u))) 11) refl).1 (sym (joined from (digits_at (take 11 u))) ∙ sym (ap (tested from) run_is) ∙ t))

  -- what was read ends where it starts, or behind
  pub run-behind : from ≤ r.end
  run-behind = omega (arith, ap (λ (x : Run). x.end) run_is)
