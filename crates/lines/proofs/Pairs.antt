-- One pair: what is read is what stands there (`pair-sound`), and what stands there is read (`pair_complete`).
use mathlib.Core.Path.{◌≡◌, refl, sym, ap, ap₂, ◌∙◌, subst}
use Prim.Native.Nat.{ℕ, ◌+◌, ◌-◌, ◌<◌}
use native.Mathlib.Nat.{add-sub_cancel_left}
use native.Mathlib.Omega.{arith}
use mathlib.Core.Bool.{Bool, true, false, cond, ◌&&◌}
use mathlib.Core.List.{List, [], ◌∷◌, ◌++◌, map, append_assoc}
use mathlib.Core.Option.{Option, none, some, some_inj, none-ne-some}
use lib.ListN.{length, get_or, take, drop, length-map, take-append-drop}
use lib.Seq.{drop-drop}
use lib.Dec.{leb, eqb}
use borrow.Author.Tests.{leb-true, le-leb, lt-ltb, eqb-true}
use Rattle.rules.specs.Numbers.{Below}
use Rattle.rules.specs.Rules.{same, digit?}
use Rattle.rules.proofs.Tests.{and_true, and_intro, all_each, each_all}
use Rattle.rules.proofs.Numbers.{same_eq}
use Rattle.rules.proofs.Frames.{digit-says}
use Rattle.digits.specs.Digits.{sign, value_of, digits_at}
use Rattle.digits.proofs.Runs.{digit-first, digits-below}
use Rattle.lines.specs.Grammar.{Key, SP, NP, FP, SN, name, Pair, Value, comma, pair_text}
use Rattle.lines.specs.Reader.{given, key_of, value?, pair_by, pair_at}

pub given-says : {A : Type 0} (b : Bool) (o : Option A) (x : A) → given b o ≡ some x → (b ≡ true) × (o ≡ some x)
given-says true o x e = (refl, e)
given-says false o x e = absurd (none-ne-some x e)

-- ---- the key

key-sound : (t : List ℕ) (k : Key) → key_of t ≡ some k → t ≡ name k
unfolding key_of
key-sound t k e = go (same t (name SP)) refl (same t (name NP)) refl (same t (name FP)) refl (same t (name SN)) refl e
  where
    is : (m : Key) → same t (name m) ≡ true → some m ≡ some k → t ≡ name k
    is m p e = same_eq t (name m) p ∙ ap name (some_inj.0 e)

    go : (a : Bool) → same t (name SP) ≡ a → (b : Bool) → same t (name NP) ≡ b → (c : Bool) → same t (name FP) ≡ c → (d : Bool) → same t (name SN) ≡ d
        → cond a (some SP) (cond b (some NP) (cond c (some FP) (given d (some SN)))) ≡ some k → t ≡ name k
    go true p b q c r d s e = is SP p e
    go false p true q c r d s e = is NP q e
    go false p false q true r d s e = is FP r e
    go false p false q false r true s e = is SN s e
    go false p false q false r false s e = absurd (none-ne-some k e)

key_complete : (k : Key) → key_of (name k) ≡ some k
unfolding key_of
key_complete SP = refl
key_complete NP = refl
key_complete FP = refl
key_complete SN = refl

-- ---- the digits

sign-digit : (d : ℕ) → d < 10 → sign d ≡ 48 + d
sign-digit d h = ap (λ (b : Bool). cond b (48 + d) (55 + d)) (lt-ltb d 10 h)

digits-sound : (t : List ℕ) → map sign (digits_at t) ++ drop (length (digits_at t)) t ≡ t
digits-sound [] = refl
digits-sound (b ∷ bs) = go (digit? b) refl (digits-sound bs)
  where
    go : (x : Bool) → digit? b ≡ x → map sign (digits_at bs) ++ drop (length (digits_at bs)) bs ≡ bs
        → map sign (cond x ((b - 48) ∷ digits_at bs) []) ++ drop (length (cond x ((b - 48) ∷ digits_at bs) [])) (b ∷ bs) ≡ b ∷ bs
    go true e ih =
        let d = digit-says b e in
        let back : 48 + (b - 48) ≡ b = omega (arith, d) in
        ap₂ {C = List ℕ} (λ x xs. x ∷ xs) (sign-digit (b - 48) (omega (arith, d)) ∙ back) ih
    go false e ih = refl

digits_complete : (ds r : List ℕ) → Below 10 ds → digits_at r ≡ [] → digits_at (map sign ds ++ r) ≡ ds
digits_complete [] r h e = e
digits_complete (d ∷ ds) r h e =
    let t : digit? (48 + d) ≡ true = and_intro (leb 48 (48 + d)) (leb (48 + d) 57) (le-leb 48 (48 + d) (omega arith)) (le-leb (48 + d) 57 (omega (arith, h.0))) in
    ap (λ (x : ℕ). digits_at (x ∷ (map sign ds ++ r))) (sign-digit d h.0)
    ∙ digit-first (48 + d) (map sign ds ++ r) t
    ∙ ap₂ {C = List ℕ} (λ x xs. x ∷ xs) (add-sub_cancel_left 48 d) (digits_complete ds r h.1 e)

-- ---- the pair

third : (t : List ℕ) → get_or t 2 0 ≡ comma → drop 2 t ≡ comma ∷ drop 3 t
third [] e = absurd (omega arith)
third (a ∷ []) e = absurd (omega arith)
third (a ∷ b ∷ []) e = absurd (omega arith)
third (a ∷ b ∷ c ∷ t) e = ap {B = List ℕ} (λ x. x ∷ t) e

pub pair-sound : (t : List ℕ) (p : Pair) → pair_at t ≡ some p → Value p.digits × (pair_text p ++ drop (3 + length p.digits) t ≡ t)
unfolding pair_at
pair-sound t p e = go (key_of (take 2 t)) refl e
  where
    Found : Pair → Type 0
    Found p = Value p.digits × (pair_text p ++ drop (3 + length p.digits) t ≡ t)

    found : (k : Key) → take 2 t ≡ name k → eqb (get_or t 2 0) comma && value? (digits_at (drop 3 t)) ≡ true → Found (record { key = k; digits = digits_at (drop 3 t) })
    found k q h =
        let ds : List ℕ = digits_at (drop 3 t) in
        let p = and_true (eqb (get_or t 2 0) comma) (value? ds) h in
        let v = all_each (leb 1 (length ds) ∷ leb (length ds) 10 ∷ leb (value_of ds) 4294967295 ∷ []) p.1 in (
          record { decimal = digits-below (drop 3 t); least = leb-true 1 (length ds) v.0; most = leb-true (length ds) 10 v.1.0; fits = leb-true (value_of ds) 4294967295 v.1.1.0 },
          append_assoc (name k) (comma ∷ map sign ds) (drop (3 + length ds) t)
              ∙ ap₂ {C = List ℕ} (λ x y. x ++ (comma ∷ (map sign ds ++ y))) (sym q) (sym (drop-drop (length ds) 3 t))
              ∙ ap (λ (x : List ℕ). take 2 t ++ (comma ∷ x)) (digits-sound (drop 3 t))
              ∙ ap (λ (x : List ℕ). take 2 t ++ x) (sym (third t (eqb-true (get_or t 2 0) comma p.0)))
              ∙ take-append-drop 2 t,
        )

    go : (o : Option Key) → key_of (take 2 t) ≡ o → pair_by o (eqb (get_or t 2 0) comma) (digits_at (drop 3 t)) ≡ some p → Found p
    go none q e = absurd (none-ne-some p e)
    go (some k) q e =
        let g = given-says (eqb (get_or t 2 0) comma && value? (digits_at (drop 3 t))) (some (record { key = k; digits = digits_at (drop 3 t) })) p e in
        subst Found (some_inj.0 g.1) (found k (key-sound (take 2 t) k q) g.0)

pub pair_complete : (p : Pair) (r : List ℕ) → Value p.digits → digits_at r ≡ [] → pair_at (pair_text p ++ r) ≡ some p
unfolding pair_at
pair_complete p r v e = go p.key
  where
    good : value? p.digits ≡ true
    good =
        let ds : List ℕ = p.digits in
        each_all (leb 1 (length ds) ∷ leb (length ds) 10 ∷ leb (value_of ds) 4294967295 ∷ [])
        (le-leb 1 (length ds) v.least, (le-leb (length ds) 10 v.most, (le-leb (value_of ds) 4294967295 v.fits, tt)))

    by : (k : Key) → pair_by (key_of (name k)) true (digits_at (map sign p.digits ++ r)) ≡ some (record { key = k; digits = p.digits })
    by k =
        ap (λ (o : Option Key). pair_by o true (digits_at (map sign p.digits ++ r))) (key_complete k)
        ∙ ap (pair_by (some k) true) (digits_complete p.digits r v.decimal e)
        ∙ ap (λ (b : Bool). given b (some (record { key = k; digits = p.digits }))) good

    go : (k : Key) → pair_at (pair_text (record { key = k; digits = p.digits }) ++ r) ≡ some (record { key = k; digits = p.digits })
    go SP = by SP
    go NP = by NP
    go FP = by FP
    go SN = by SN

pub length-pair : (p : Pair) → length (pair_text p) ≡ 3 + length p.digits
length-pair p = go p.key
  where
    go : (k : Key) → length (name k ++ (comma ∷ map sign p.digits)) ≡ 3 + length p.digits
    go SP = omega (arith, length-map p.digits sign)
    go NP = omega (arith, length-map p.digits sign)
    go FP = omega (arith, length-map p.digits sign)
    go SN = omega (arith, length-map p.digits sign)
