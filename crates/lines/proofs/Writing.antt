-- The line written is one of the grammar for its four numbers (`says-written`), so it is read back (`reads_written`), and writing what was read is the one normal line of that setup
-- (`normal_written`). It has 60 bytes at most (`longest`), and is refused exactly where the buffer is shorter (`writes`, `too_short`).
use mathlib.Core.Path.{◌≡◌, refl, sym, ap, ap₂, ◌∙◌, subst}
use mathlib.Core.Logic.{◌↔◌}
use Prim.Native.Nat.{ℕ, ◌+◌, ◌≤◌, ◌<◌}
use native.Mathlib.Omega.{arith}
use mathlib.Core.Bool.{Bool, true, false, cond, ◌&&◌}
use mathlib.Core.List.{List, [], ◌∷◌, map, cons-ne-nil, head-eq_of_cons-eq, tail-eq_of_cons-eq}
use mathlib.Core.Option.{some}
use lib.ListN.{length, length-append}
use lib.Dec.{leb, eqb}
use borrow.Author.Tests.{leb-true, le-leb, lt-leb}
use Rattle.rules.specs.Cut.{Setup}
use Rattle.rules.proofs.Tests.{first_held, held_first}
use Rattle.rules.proofs.Demands.{Small}
use Rattle.digits.specs.Digits.{places, digits_of, value_of, Shortest}
use Rattle.digits.proofs.Spelled.{places-some, places_few}
use Rattle.digits.proofs.Runs.{length_own, below_own, value_own, own_digits, own_shortest}
use Rattle.lines.specs.Grammar.{Key, SP, NP, FP, SN, nth, Pair, Line, Value, Values, Good, pair_text, pairs_text, line_text, number_of, numbers_of, Says}
use Rattle.lines.specs.Reader.{read_setup}
use Rattle.lines.specs.Writer.{pair, normal_line, setup_line, write_refusal, Trim, Normal}
use Rattle.lines.proofs.Pairs.{length-pair}
use Rattle.lines.proofs.Reading.{reads}

-- the digits of a number of 32 bits are a value
own_value : (n : ℕ) → n < 4294967296 → Value (digits_of n)
own_value n h = record {
  decimal = below_own n;
  least = omega (arith, length_own n, places-some n);
  most = omega (arith, length_own n, places_few n (omega arith));
  fits = omega (arith, value_own n);
}

-- ---- the line written

module _ (s : Setup) where
  module _ (u : Small s) where
    normal_good : Good (normal_line s)
    unfolding normal_line
    normal_good = record {
      least = omega arith;
      most = omega arith;
      once = (((λ e. omega arith), ((λ e. omega arith), ((λ e. omega arith), tt))), (((λ e. omega arith), ((λ e. omega arith), tt)), (((λ e. omega arith), tt), (tt, tt))));
      values = (own_value s.sp u.sp, (own_value s.np u.np, (own_value s.fp u.fp, (own_value s.sn u.sn, tt))));
    }

    normal_numbers : numbers_of (normal_line s).pairs ≡ s
    unfolding normal_line numbers_of
    normal_numbers = λ i. record { sp = value_own s.sp i; np = value_own s.np i; fp = value_own s.fp i; sn = value_own s.sn i }

    -- the line written is a line of the grammar, with the four numbers
    pub says-written : Says (setup_line s) s
    unfolding setup_line
    says-written = record { line = normal_line s; good = normal_good; text = refl; numbers = normal_numbers }

    -- and so it is read back
    pub reads_written : read_setup (setup_line s) ≡ some s
    reads_written = (reads (setup_line s) s).0 says-written

  pub normal_form : Normal (normal_line s)
  unfolding normal_line
  normal_form = record { word = refl; keys = refl; trim = (own_shortest s.sp, (own_shortest s.np, (own_shortest s.fp, (own_shortest s.sn, tt)))) }

  -- ---- its length

  pub length-line : length (setup_line s) ≡ 20 + (places s.sp + places s.np + places s.fp + places s.sn)
  unfolding setup_line line_text normal_line
  length-line =
      let p : Pair = pair SP s.sp in
      let q : Pair = pair NP s.np in
      let f : Pair = pair FP s.fp in
      let n : Pair = pair SN s.sn in
      omega (
        arith,
        length-pair p,
        length-pair q,
        length-pair f,
        length-pair n,
        length-append (pair_text p) (44 ∷ pairs_text (q ∷ f ∷ n ∷ [])),
        length-append (pair_text q) (44 ∷ pairs_text (f ∷ n ∷ [])),
        length-append (pair_text f) (44 ∷ pair_text n),
        length_own s.sp,
        length_own s.np,
        length_own s.fp,
        length_own s.sn,
      )

  pub longest : Small s → length (setup_line s) ≤ 60
  longest u = omega (arith, length-line, places_few s.sp u.sp, places_few s.np u.np, places_few s.fp u.fp, places_few s.sn u.sn)

  -- 15 for a buffer too short, and else 0
  pub too_short : (n : ℕ) → n < length (setup_line s) → write_refusal s n ≡ 15
  unfolding write_refusal
  too_short n h = ap (λ (b : Bool). cond (b && true) 0 15) (lt-leb (length (setup_line s)) n h)

  pub writes : (n : ℕ) → (write_refusal s n ≡ 0) ↔ (length (setup_line s) ≤ n)
  unfolding write_refusal
  writes n =
      let rs : List (ℕ × List Bool) = (15, leb (length (setup_line s)) n ∷ []) ∷ [] in
      (λ e. leb-true (length (setup_line s)) n (first_held rs (omega arith, tt) e).0.0, λ h. held_first rs ((le-leb (length (setup_line s)) n h, tt), tt))

-- ---- the normal line

abbrev pair_of : Key → List ℕ → Pair
pair_of k ds = record { key = k; digits = ds }

-- pairs with the four keys in their order
four : (ps : List Pair) → map (λ (p : Pair). p.key) ps ≡ SP ∷ NP ∷ FP ∷ SN ∷ []
    → (a b c d : List ℕ) × (pair_of SP a ∷ pair_of NP b ∷ pair_of FP c ∷ pair_of SN d ∷ [] ≡ ps)
four [] e = absurd (cons-ne-nil SP (NP ∷ FP ∷ SN ∷ []) (sym e))
four (p ∷ []) e = absurd (cons-ne-nil NP (FP ∷ SN ∷ []) (sym (tail-eq_of_cons-eq e)))
four (p ∷ q ∷ []) e = absurd (cons-ne-nil FP (SN ∷ []) (sym (tail-eq_of_cons-eq (tail-eq_of_cons-eq e))))
four (p ∷ q ∷ r ∷ []) e = absurd (cons-ne-nil SN [] (sym (tail-eq_of_cons-eq (tail-eq_of_cons-eq (tail-eq_of_cons-eq e)))))
four (p ∷ q ∷ r ∷ t ∷ []) e =
    let is : (k : Key) (x : Pair) → x.key ≡ k → pair_of k x.digits ≡ x = λ k x h. ap (λ (m : Key). pair_of m x.digits) (sym h) in
    let e1 = tail-eq_of_cons-eq e in
    let e2 = tail-eq_of_cons-eq e1 in
    let e3 = tail-eq_of_cons-eq e2 in (
      p.digits,
      q.digits,
      r.digits,
      t.digits,
      λ i. is SP p (head-eq_of_cons-eq e) i ∷ is NP q (head-eq_of_cons-eq e1) i ∷ is FP r (head-eq_of_cons-eq e2) i ∷ is SN t (head-eq_of_cons-eq e3) i ∷ [],
    )
four (p ∷ q ∷ r ∷ t ∷ u ∷ ps) e = absurd (cons-ne-nil u.key (map (λ (x : Pair). x.key) ps) (tail-eq_of_cons-eq (tail-eq_of_cons-eq (tail-eq_of_cons-eq (tail-eq_of_cons-eq e)))))

-- a line of the grammar in the normal form is the one that the writer writes for its setup
pub normal_one : (l : Line) → Good l → Normal l → line_text l ≡ setup_line (numbers_of l.pairs)
unfolding setup_line normal_line numbers_of
normal_one l g n =
    let f = four l.pairs n.keys in
    ap line_text (ap₂ {C = Line} (λ w ps. record { word = w; pairs = ps }) n.word (own f.0 f.1 f.2 f.3 l.pairs f.4 g.values n.trim))
  where
    is : (ds : List ℕ) → Value ds → Shortest ds → ds ≡ digits_of (value_of ds)
    is ds v t = sym (own_digits ds v.decimal t)

    Own : List Pair → Type 0
    Own ps = ps ≡ (normal_line (numbers_of ps)).pairs

    own : (a b c d : List ℕ) (ps : List Pair) → pair_of SP a ∷ pair_of NP b ∷ pair_of FP c ∷ pair_of SN d ∷ [] ≡ ps → Values ps → Trim ps → Own ps
    own a b c d ps e v t =
        let w : Values (pair_of SP a ∷ pair_of NP b ∷ pair_of FP c ∷ pair_of SN d ∷ []) = subst Values (sym e) v in
        let u : Trim (pair_of SP a ∷ pair_of NP b ∷ pair_of FP c ∷ pair_of SN d ∷ []) = subst Trim (sym e) t in
        subst Own e
        (λ i.
        pair_of SP (is a w.0 u.0 i) ∷ pair_of NP (is b w.1.0 u.1.0 i) ∷ pair_of FP (is c w.1.1.0 u.1.1.0 i) ∷ pair_of SN (is d w.1.1.1.0 u.1.1.1.0 i) ∷ [])

-- ---- writing what was read

-- a number of a line fits 32 bits
number_fits : (k : Key) (ps : List Pair) → Values ps → number_of k ps < 4294967296
number_fits k [] v = omega arith
number_fits k (p ∷ ps) v = go (eqb (nth k) (nth p.key)) (number_fits k ps v.1)
  where
    go : (b : Bool) → number_of k ps < 4294967296 → cond b (value_of p.digits) (number_of k ps) < 4294967296
    go true ih = omega (arith, v.0.fits)
    go false ih = ih

pub says-small : (t : List ℕ) (s : Setup) → Says t s → Small s
unfolding numbers_of
says-small t s x =
    let v : Values x.line.pairs = x.good.values in
    subst Small x.numbers
    (record { sp = number_fits SP x.line.pairs v; np = number_fits NP x.line.pairs v; fp = number_fits FP x.line.pairs v; sn = number_fits SN x.line.pairs v })

-- the line u is a normal line for the setup s, and the only one
pub record NormalLine (s : Setup) (u : List ℕ) : Type 0 where
  pub says : Says u s
  pub normal : Normal says.line
  pub one : (l : Line) → Good l → Normal l → numbers_of l.pairs ≡ s → line_text l ≡ u

pub normal_written : (t : List ℕ) (s : Setup) → read_setup t ≡ some s → NormalLine s (setup_line s)
unfolding says-written
normal_written t s e =
    let u : Small s = says-small t s ((reads t s).1 e) in
    record { says = says-written s u; normal = normal_form s; one = λ l g n h. normal_one l g n ∙ ap setup_line h }
