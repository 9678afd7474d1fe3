-- The reader accepts exactly the lines of the grammar, with exactly their numbers (`reads`, `accepts`, `refuses`), and the grammar gives a line one tree
-- (`unambiguous`), so one setup (`says-one`).
use mathlib.Core.Path.{◌≡◌, refl, sym, ap, ap₂, ◌∙◌, subst}
use mathlib.Core.Logic.{◌↔◌}
use Prim.Native.Nat.{ℕ, zero, suc, ◌+◌, ◌≤◌}
use native.Mathlib.Omega.{arith}
use mathlib.Core.Bool.{Bool, true, false, cond, not, ◌||◌, false≢true}
use mathlib.Core.List.{List, [], ◌∷◌, ◌++◌, append-nil}
use mathlib.Core.Option.{Option, none, some, some_inj, none-ne-some}
use lib.ListN.{length, take, drop, take-append-drop}
use lib.Seq.{drop_at, drop-length}
use lib.Dec.{eqb}
use borrow.Author.Tests.{eqb-true, eqb-false, ne_eqb, not-true}
use Rattle.rules.specs.Rules.{same}
use Rattle.rules.specs.Cut.{Setup}
use Rattle.rules.proofs.Tests.{and_true, and_intro}
use Rattle.rules.proofs.Numbers.{same_eq}
use Rattle.lines.specs.Grammar.{Word, Short, Long, letters, Key, nth, Pair, Line, Value, Absent, Once, Values, Good, comma, blank, pair_text, pairs_text, line_text, Says}
use Rattle.lines.specs.Reader.{given, pair_at, before, behind, pairs_by, pairs_at, taken?, once?, word_at, line_by, rest_by, line_in, setup_by, read_setup, refusal_by, read_refusal, or_zeros}
use Rattle.lines.proofs.Pairs.{given-says, pair-sound, pair_complete, length-pair}

-- ---- the pairs

more_text : (p : Pair) (qs : List Pair) → 1 ≤ length qs → pairs_text (p ∷ qs) ≡ pair_text p ++ (comma ∷ pairs_text qs)
more_text p [] h = absurd (omega arith)
more_text p (q ∷ qs) h = refl

-- what is found of some pairs in t, at most n
pub record Found (n : ℕ) (t : List ℕ) (ps : List Pair) : Type 0 where
  pub least : 1 ≤ length ps
  pub most : length ps ≤ n
  pub values : Values ps
  pub text : pairs_text ps ≡ t

pub pairs-sound : (n : ℕ) (t : List ℕ) (ps : List Pair) → pairs_at n t ≡ some ps → Found n t ps
unfolding pairs_at
pairs-sound zero t ps e = absurd (none-ne-some ps e)
pairs-sound (suc n) t ps e = one (pairs-sound n) (pair_at t) refl e
  where
    one : ((u : List ℕ) (qs : List Pair) → pairs_at n u ≡ some qs → Found n u qs) → (o : Option Pair) → pair_at t ≡ o → pairs_by (pairs_at n) t o ≡ some ps → Found (suc n) t ps
    one ih none q e = absurd (none-ne-some ps e)
    one ih (some p) q e = rest (drop (3 + length p.digits) t) refl e
      where
        s : Value p.digits × (pair_text p ++ drop (3 + length p.digits) t ≡ t)
        s = pair-sound t p q

        more : (b : ℕ) (u : List ℕ) → drop (3 + length p.digits) t ≡ b ∷ u → b ≡ comma → (r : Option (List Pair)) → pairs_at n u ≡ r → before p r ≡ some ps → Found (suc n) t ps
        more b u d c none r e = absurd (none-ne-some ps e)
        more b u d c (some qs) r e =
            let f : Found n u qs = ih u qs r in
            subst (Found (suc n) t) (some_inj.0 e)
            (record {
              least = omega arith;
              most = omega (arith, f.most);
              values = (s.0, f.values);
              text =
                  more_text p qs f.least
                  ∙ ap₂ {C = List ℕ} (λ x y. pair_text p ++ (x ∷ y)) (sym c) f.text
                  ∙ ap (λ (x : List ℕ). pair_text p ++ x) (sym d) ∙ s.1;
            })

        rest : (u : List ℕ) → drop (3 + length p.digits) t ≡ u → behind (pairs_at n) p u ≡ some ps → Found (suc n) t ps
        rest [] d e =
            subst (Found (suc n) t) (some_inj.0 e)
            (record { least = omega arith; most = omega arith; values = (s.0, tt); text = sym (append-nil (pair_text p)) ∙ ap (λ (x : List ℕ). pair_text p ++ x) (sym d) ∙ s.1 })
        rest (b ∷ u) d e =
            let g = given-says (eqb b comma) (before p (pairs_at n u)) ps e in
            more b u d (eqb-true b comma g.0) (pairs_at n u) refl g.1

pairs_complete : (n : ℕ) (ps : List Pair) → 1 ≤ length ps → length ps ≤ n → Values ps → pairs_at n (pairs_text ps) ≡ some ps
unfolding pairs_at
pairs_complete n [] lo hi v = absurd (omega arith)
pairs_complete zero (p ∷ ps) lo hi v = absurd (omega arith)
pairs_complete (suc n) (p ∷ []) lo hi v =
    let a : pair_at (pair_text p) ≡ some p = subst (λ (t : List ℕ). pair_at t ≡ some p) (append-nil (pair_text p)) (pair_complete p [] v.0 refl) in
    let d : drop (3 + length p.digits) (pair_text p) ≡ [] = ap (λ (k : ℕ). drop k (pair_text p)) (sym (length-pair p)) ∙ drop-length (pair_text p) in
    ap (pairs_by (pairs_at n) (pair_text p)) a ∙ ap (behind (pairs_at n) p) d
pairs_complete (suc n) (p ∷ q ∷ ps) lo hi v =
    let u : List ℕ = comma ∷ pairs_text (q ∷ ps) in
    ap (pairs_by (pairs_at n) (pair_text p ++ u)) (pair_complete p u v.0 refl)
    ∙ ap (behind (pairs_at n) p) (drop_at (pair_text p) u (3 + length p.digits) (length-pair p))
    ∙ ap (before p) (pairs_complete n (q ∷ ps) (omega arith) (omega arith) v.1)

-- ---- no pair twice

absent_sound : (k : Key) (ps : List Pair) → taken? k ps ≡ false → Absent k ps
absent_sound k [] e = tt
absent_sound k (p ∷ ps) e = go (eqb (nth k) (nth p.key)) refl e (absent_sound k ps)
  where
    go : (b : Bool) → eqb (nth k) (nth p.key) ≡ b → b || taken? k ps ≡ false → (taken? k ps ≡ false → Absent k ps) → Absent k (p ∷ ps)
    go true q e ih = absurd (false≢true (sym e))
    go false q e ih = (eqb-false (nth k) (nth p.key) q, ih e)

absent_complete : (k : Key) (ps : List Pair) → Absent k ps → taken? k ps ≡ false
absent_complete k [] a = refl
absent_complete k (p ∷ ps) a = ap₂ {C = Bool} (λ x y. x || y) (ne_eqb (nth k) (nth p.key) a.0) (absent_complete k ps a.1)

once-sound : (ps : List Pair) → once? ps ≡ true → Once ps
once-sound [] e = tt
once-sound (p ∷ ps) e =
    let h = and_true (not (taken? p.key ps)) (once? ps) e in (absent_sound p.key ps (not-true (taken? p.key ps) h.0), once-sound ps h.1)

once_complete : (ps : List Pair) → Once ps → once? ps ≡ true
once_complete [] o = refl
once_complete (p ∷ ps) o =
    and_intro (not (taken? p.key ps)) (once? ps) (ap not (absent_complete p.key ps o.0)) (once_complete ps o.1)

-- ---- the word

pub word_sound : (t : List ℕ) (w : Word) → word_at t ≡ some w → letters w ++ (blank ∷ drop (suc (length (letters w))) t) ≡ t
unfolding word_at
word_sound t w e = go (same (take 5 t) (letters Short ++ (blank ∷ []))) refl (same (take 15 t) (letters Long ++ (blank ∷ []))) refl e
  where
    Starts : Word → Type 0
    Starts w = letters w ++ (blank ∷ drop (suc (length (letters w))) t) ≡ t

    is : (n : ℕ) (front : List ℕ) → same (take n t) front ≡ true → front ++ drop n t ≡ t
    is n front q = ap (λ (x : List ℕ). x ++ drop n t) (sym (same_eq (take n t) front q)) ∙ take-append-drop n t

    go : (a : Bool) → same (take 5 t) (letters Short ++ (blank ∷ [])) ≡ a → (b : Bool) → same (take 15 t) (letters Long ++ (blank ∷ [])) ≡ b
        → cond a (some Short) (given b (some Long)) ≡ some w → Starts w
    go true p b q e = subst Starts (some_inj.0 e) (is 5 (letters Short ++ (blank ∷ [])) p)
    go false p true q e = subst Starts (some_inj.0 e) (is 15 (letters Long ++ (blank ∷ [])) q)
    go false p false q e = absurd (none-ne-some w e)

word_complete : (w : Word) (r : List ℕ) → word_at (letters w ++ (blank ∷ r)) ≡ some w
unfolding word_at
word_complete Short r = refl
word_complete Long r = refl

after_word : (w : Word) (r : List ℕ) → drop (suc (length (letters w))) (letters w ++ (blank ∷ r)) ≡ r
after_word Short r = refl
after_word Long r = refl

-- ---- the line

pub line-sound : (t : List ℕ) (l : Line) → line_in t ≡ some l → Good l × (line_text l ≡ t)
unfolding line_in line_text
line-sound t l e = one (word_at t) refl e
  where
    Read : Line → Type 0
    Read l = Good l × (line_text l ≡ t)

    one : (o : Option Word) → word_at t ≡ o → rest_by t o ≡ some l → Read l
    one none q e = absurd (none-ne-some l e)
    one (some w) q e = two (pairs_at 4 (drop (suc (length (letters w))) t)) refl e
      where
        two : (o : Option (List Pair)) → pairs_at 4 (drop (suc (length (letters w))) t) ≡ o → line_by w o ≡ some l → Read l
        two none r e = absurd (none-ne-some l e)
        two (some ps) r e =
            let g = given-says (once? ps) (some (record { word = w; pairs = ps })) l e in
            let f : Found 4 (drop (suc (length (letters w))) t) ps = pairs-sound 4 (drop (suc (length (letters w))) t) ps r in
            subst Read (some_inj.0 g.1) (
              record { least = f.least; most = f.most; once = once-sound ps g.0; values = f.values },
              ap (λ (x : List ℕ). letters w ++ (blank ∷ x)) f.text ∙ word_sound t w q,
            )

pub line_complete : (l : Line) → Good l → line_in (line_text l) ≡ some l
unfolding line_in line_text
line_complete l g =
    let w : Word = l.word in
    let ps : List Pair = l.pairs in
    ap (rest_by (letters w ++ (blank ∷ pairs_text ps))) (word_complete w (pairs_text ps))
    ∙ ap (λ (u : List ℕ). line_by w (pairs_at 4 u)) (after_word w (pairs_text ps))
    ∙ ap (line_by w) (pairs_complete 4 ps g.least g.most g.values)
    ∙ ap (λ (b : Bool). given b (some (record { word = w; pairs = ps }))) (once_complete ps g.once)

-- a line of the grammar has one tree
pub unambiguous : (l m : Line) → Good l → Good m → line_text l ≡ line_text m → l ≡ m
unambiguous l m g h e = some_inj.0 (sym (line_complete l g) ∙ ap line_in e ∙ line_complete m h)

-- ---- the four numbers

-- the reader has these numbers exactly where the grammar has the line with them
pub reads : (t : List ℕ) (s : Setup) → Says t s ↔ (read_setup t ≡ some s)
unfolding read_setup
reads t s = (there, back (line_in t) refl)
  where
    there : Says t s → setup_by (line_in t) ≡ some s
    there x = ap setup_by (ap line_in (sym x.text) ∙ line_complete x.line x.good) ∙ ap some x.numbers

    back : (o : Option Line) → line_in t ≡ o → setup_by o ≡ some s → Says t s
    back none e h = absurd (none-ne-some s h)
    back (some l) e h = let r = line-sound t l e in record { line = l; good = r.0; text = r.1; numbers = some_inj.0 h }

-- one line, one setup
pub says-one : (t : List ℕ) (r s : Setup) → Says t r → Says t s → r ≡ s
says-one t r s x y = some_inj.0 (sym ((reads t r).0 x) ∙ (reads t s).0 y)

-- accepted, and answered with these numbers
pub accepts : (t : List ℕ) (s : Setup) → Says t s ↔ ((read_refusal t ≡ 0) × (or_zeros (read_setup t) ≡ s))
unfolding read_refusal
accepts t s = (λ x. let e = (reads t s).0 x in (ap refusal_by e, ap or_zeros e), λ h. (reads t s).1 (go (read_setup t) h.0 h.1))
  where
    go : (o : Option Setup) → refusal_by o ≡ 0 → or_zeros o ≡ s → o ≡ some s
    go none z e = absurd (omega (arith, z))
    go (some r) z e = ap some e

-- 15 for any other line, and no other number
pub refuses : (t : List ℕ) → (read_refusal t ≡ 15) ↔ ((s : Setup) → Says t s → ⊥)
unfolding read_refusal
refuses t = (λ e s x. absurd (omega (arith, sym e ∙ ((accepts t s).0 x).0)), λ h. back (read_setup t) refl h)
  where
    back : (o : Option Setup) → read_setup t ≡ o → ((s : Setup) → Says t s → ⊥) → refusal_by o ≡ 15
    back none e h = refl
    back (some s) e h = absurd (h s ((reads t s).1 e))
