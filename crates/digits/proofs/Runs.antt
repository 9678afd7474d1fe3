-- Digits in a text, one byte after another: how many there are (`digit_more`, `digit_stop`), their number (`value_next`, `value-small`), and those of a start of the text
-- (`start-alike`, `start-full`), and a text read byte by byte (`read_more`, `read_stops`, `read_ends`). A number's own digits have its value (`value_own`), and digits with no zero before them are the number's own (`own_digits`).
use mathlib.Core.Path.{◌≡◌, refl, sym, ap, ap₂, ◌∙◌, subst}
use Prim.Native.Nat.{ℕ, zero, suc, ◌+◌, ◌-◌, ◌*◌, ◌^◌, ◌≤◌, ◌<◌}
use native.Mathlib.Nat.{pow-le-pow_right, pow-zero, pow-suc, zero-add, one-mul, mul-add, mul_assoc, mul_comm, add_assoc, mul-le-mul_left}
use native.Mathlib.Omega.{arith}
use mathlib.Core.Bool.{Bool, true, false, cond, ◌&&◌, false≢true}
use mathlib.Core.List.{List, [], ◌∷◌, ◌++◌, map, reverse, reverse-append, reverse-reverse}
use lib.ListN.{length, get_or, take, drop, length-reverse, length-take, length-drop}
use lib.Seq.{take-suc, take_all, get_or-take, get_or-drop, length-take-le}
use Rattle.rules.specs.Numbers.{Below, low, digits}
use Rattle.rules.specs.Rules.{every?, digit?}
use Rattle.rules.proofs.Tests.{and_true}
use Rattle.rules.proofs.Numbers.{below-reverse, below-take, low_below, low-digits, digits_low, length_digits, below-digits}
use Rattle.rules.proofs.Frames.{digit-says}
use Rattle.digits.specs.Digits.{places, digits_of, value_of, Shortest, digits_at, run_of}
use Rattle.digits.proofs.Spelled.{places-small, places-some, places-most, places-least, places_enough}

-- ---- digits one by one

pub digit-first : (b : ℕ) (t : List ℕ) → digit? b ≡ true → digits_at (b ∷ t) ≡ (b - 48) ∷ digits_at t
digit-first b t e = ap (λ (d : Bool). cond d ((b - 48) ∷ digits_at t) []) e

-- byte i is a digit, and so are those before it
pub digit_more : (t : List ℕ) (i : ℕ) → i ≤ length (digits_at t) → i < length t → digit? (get_or t i 0) ≡ true → i < length (digits_at t)
digit_more [] i h l e = absurd (omega arith)
digit_more (b ∷ t) i h l e = go (digit? b) refl i h l e (digit_more t)
  where
    go : (d : Bool) → digit? b ≡ d → (i : ℕ) → i ≤ length (cond d ((b - 48) ∷ digits_at t) []) → i < suc (length t) → digit? (get_or (b ∷ t) i 0) ≡ true
        → ((k : ℕ) → k ≤ length (digits_at t) → k < length t → digit? (get_or t k 0) ≡ true → k < length (digits_at t)) → i < length (cond d ((b - 48) ∷ digits_at t) [])
    go true q zero h l e ih = omega arith
    go true q (suc i) h l e ih = let r = ih i (omega arith) (omega arith) e in omega (arith, r)
    go false q zero h l e ih = absurd (false≢true (sym q ∙ e))
    go false q (suc i) h l e ih = absurd (omega arith)

-- byte i is none, and those before it are digits
pub digit_stop : (t : List ℕ) (i : ℕ) → i ≤ length (digits_at t) → i < length t → digit? (get_or t i 0) ≡ false → i ≡ length (digits_at t)
digit_stop [] i h l e = absurd (omega arith)
digit_stop (b ∷ t) i h l e = go (digit? b) refl i h l e (digit_stop t)
  where
    go : (d : Bool) → digit? b ≡ d → (i : ℕ) → i ≤ length (cond d ((b - 48) ∷ digits_at t) []) → i < suc (length t) → digit? (get_or (b ∷ t) i 0) ≡ false
        → ((k : ℕ) → k ≤ length (digits_at t) → k < length t → digit? (get_or t k 0) ≡ false → k ≡ length (digits_at t)) → i ≡ length (cond d ((b - 48) ∷ digits_at t) [])
    go true q zero h l e ih = absurd (false≢true (sym e ∙ q))
    go true q (suc i) h l e ih = ap suc (ih i (omega arith) (omega arith) e)
    go false q zero h l e ih = refl
    go false q (suc i) h l e ih = absurd (omega arith)

pub digits-below : (t : List ℕ) → Below 10 (digits_at t)
digits-below [] = tt
digits-below (b ∷ t) = go (digit? b) refl (digits-below t)
  where
    go : (d : Bool) → digit? b ≡ d → Below 10 (digits_at t) → Below 10 (cond d ((b - 48) ∷ digits_at t) [])
    go true q ih = (omega (arith, digit-says b q), ih)
    go false q ih = tt

pub digits_few : (t : List ℕ) → length (digits_at t) ≤ length t
digits_few [] = omega arith
digits_few (b ∷ t) = go (digit? b) (digits_few t)
  where
    go : (d : Bool) → length (digits_at t) ≤ length t → length (cond d ((b - 48) ∷ digits_at t) []) ≤ suc (length t)
    go true ih = omega arith
    go false ih = omega arith

digit_at : (t : List ℕ) (k : ℕ) → k < length (digits_at t) → get_or (digits_at t) k 0 ≡ get_or t k 0 - 48
digit_at [] k h = absurd (omega arith)
digit_at (b ∷ t) k h = go (digit? b) k h (digit_at t)
  where
    go : (d : Bool) (k : ℕ) → k < length (cond d ((b - 48) ∷ digits_at t) []) → ((j : ℕ) → j < length (digits_at t) → get_or (digits_at t) j 0 ≡ get_or t j 0 - 48)
        → get_or (cond d ((b - 48) ∷ digits_at t) []) k 0 ≡ get_or (b ∷ t) k 0 - 48
    go true zero h ih = refl
    go true (suc k) h ih = ih k (omega arith)
    go false k h ih = absurd (omega arith)

-- ---- their number

value_snoc : (ds : List ℕ) (d : ℕ) → value_of (ds ++ (d ∷ [])) ≡ value_of ds * 10 + d
unfolding low
value_snoc ds d = ap (low 10) (reverse-append ds (d ∷ [])) ∙ omega arith

-- a digit more
pub value_next : (t : List ℕ) (i : ℕ) → i < length (digits_at t) → value_of (take (suc i) (digits_at t)) ≡ value_of (take i (digits_at t)) * 10 + (get_or t i 0 - 48)
value_next t i h =
    let ds : List ℕ = digits_at t in
    ap value_of (take-suc ds i 0 h) ∙ value_snoc (take i ds) (get_or ds i 0) ∙ ap (λ (d : ℕ). value_of (take i ds) * 10 + d) (digit_at t i h)

value-below : (ds : List ℕ) → Below 10 ds → value_of ds < 10 ^ length ds
value-below ds b = subst (λ (w : ℕ). low 10 (reverse ds) < 10 ^ w) (length-reverse ds) (low_below 10 (reverse ds) (below-reverse 10 ds [] b tt))

-- k digits are a number below 10 ^ w for each w from k on
pub value-small : (w : ℕ) (ds : List ℕ) → Below 10 ds → length ds ≤ w → value_of ds < 10 ^ w
value-small w ds b h =
    let p : 10 ^ length ds ≤ 10 ^ w = pow-le-pow_right (omega arith) {i = length ds} {j = w} h in
    omega (arith, value-below ds b, p)

-- ---- a text read on to the byte at `at`, the digits before it the number v

-- the bytes of s that are looked at
abbrev pub text : List ℕ → ℕ → ℕ → List ℕ
text s from to = take (to - from) (drop from s)

abbrev pub ReadTo : List ℕ → ℕ → ℕ → ℕ → ℕ → Type 0
ReadTo s from to at v = (at - from ≤ length (digits_at (text s from to))) × (v ≡ value_of (take (at - from) (digits_at (text s from to))))

module _ (s : List ℕ) (from to at v : ℕ) (h : from ≤ at) (b : to ≤ length s) (r : ReadTo s from to at v) where
  abbrev t : List ℕ
  t = text s from to

  long : length t ≡ to - from
  long = length-take-le (to - from) (drop from s) (omega (arith, length-drop from s))

  byte_is : at < to → get_or t (at - from) 0 ≡ get_or s at 0
  byte_is l =
      let e : from + (at - from) ≡ at = omega arith in
      get_or-take (to - from) (drop from s) (at - from) 0 (omega arith) ∙ get_or-drop from s (at - from) 0 ∙ ap (λ (k : ℕ). get_or s k 0) e

  -- these are all its digits
  whole : at - from ≡ length (digits_at t) → record { end = at; value = v } ≡ run_of from t
  whole e =
      let ends : at ≡ from + length (digits_at t) = omega (arith, e) in
      λ i. record { end = ends i; value = (r.1 ∙ ap value_of (take_all (at - from) (digits_at t) (omega (arith, e)))) i }

  pub read_stops : at < to → digit? (get_or s at 0) ≡ false → record { end = at; value = v } ≡ run_of from t
  read_stops l e = whole (digit_stop t (at - from) r.0 (omega (arith, long)) (ap digit? (byte_is l) ∙ e))

  pub read_ends : at ≡ to → record { end = at; value = v } ≡ run_of from t
  read_ends e = whole (omega (arith, r.0, digits_few t, long))

  module _ (l : at < to) (e : digit? (get_or s at 0) ≡ true) where
    more : at - from < length (digits_at t)
    more = digit_more t (at - from) r.0 (omega (arith, long)) (ap digit? (byte_is l) ∙ e)

    next : v * 10 + (get_or s at 0 - 48) ≡ value_of (take (at + 1 - from) (digits_at t))
    next =
        let one : suc (at - from) ≡ at + 1 - from = omega arith in
        ap₂ {C = ℕ} (λ n d. n * 10 + (d - 48)) r.1 (sym (byte_is l)) ∙ sym (value_next t (at - from) more) ∙ ap (λ (n : ℕ). value_of (take n (digits_at t))) one

    pub read_more : ReadTo s from to (at + 1) (v * 10 + (get_or s at 0 - 48))
    read_more = (omega (arith, more), next)

    pub read_bound : to ≤ from + 19 → v * 10 + (get_or s at 0 - 48) < 10000000000000000000
    read_bound few =
        let ds : List ℕ = digits_at t in
        let n : ℕ = at + 1 - from in
        let small : value_of (take n ds) < 10 ^ 19 = value-small 19 (take n ds) (below-take 10 n ds (digits-below t)) (omega (arith, length-take n ds)) in
        omega (arith, next, small)

-- ---- a text of digits alone

pub digits-all : (t : List ℕ) → every? digit? t ≡ true → digits_at t ≡ map (λ (b : ℕ). b - 48) t
digits-all [] e = refl
digits-all (b ∷ t) e =
    let p = and_true (digit? b) (every? digit? t) e in
    digit-first b t p.0 ∙ ap {B = List ℕ} (λ ds. (b - 48) ∷ ds) (digits-all t p.1)

-- as many digits as bytes
pub digits-whole : (t : List ℕ) → length (digits_at t) ≡ length t → every? digit? t ≡ true
digits-whole [] e = refl
digits-whole (b ∷ t) e = go (digit? b) e (digits-whole t)
  where
    go : (d : Bool) → length (cond d ((b - 48) ∷ digits_at t) []) ≡ suc (length t) → (length (digits_at t) ≡ length t → every? digit? t ≡ true) → d && every? digit? t ≡ true
    go true e ih = ih (omega arith)
    go false e ih = absurd (omega arith)

-- ---- the digits in the first n bytes of a text

-- fewer than n: the text has no more
pub start-alike : (n : ℕ) (t : List ℕ) → length (digits_at (take n t)) < n → digits_at (take n t) ≡ digits_at t
start-alike zero t h = absurd (omega arith)
start-alike (suc n) [] h = refl
start-alike (suc n) (b ∷ t) h = go (digit? b) h (start-alike n t)
  where
    go : (d : Bool) → length (cond d ((b - 48) ∷ digits_at (take n t)) []) < suc n → (length (digits_at (take n t)) < n → digits_at (take n t) ≡ digits_at t)
        → cond d ((b - 48) ∷ digits_at (take n t)) [] ≡ cond d ((b - 48) ∷ digits_at t) []
    go true h ih = ap {B = List ℕ} (λ ds. (b - 48) ∷ ds) (ih (omega arith))
    go false h ih = refl

-- n: the text has as many at least
pub start-full : (n : ℕ) (t : List ℕ) → length (digits_at (take n t)) ≤ length (digits_at t)
start-full zero t = omega arith
start-full (suc n) [] = omega arith
start-full (suc n) (b ∷ t) = go (digit? b) (start-full n t)
  where
    go : (d : Bool) → length (digits_at (take n t)) ≤ length (digits_at t) → length (cond d ((b - 48) ∷ digits_at (take n t)) []) ≤ length (cond d ((b - 48) ∷ digits_at t) [])
    go true ih = omega (arith, ih)
    go false ih = omega arith

-- ---- a number's own digits

module _ (n : ℕ) where
  pub length_own : length (digits_of n) ≡ places n
  length_own = length-reverse (digits 10 (places n) n) ∙ length_digits 10 (places n) n

  pub below_own : Below 10 (digits_of n)
  below_own = below-reverse 10 (digits 10 (places n) n) [] (below-digits 10 (places n) n (omega arith)) tt

  pub value_own : value_of (digits_of n) ≡ n
  value_own = ap (low 10) (reverse-reverse (digits 10 (places n) n)) ∙ low-digits 10 (places n) n (omega arith) (places_enough n)

low_append : (b : ℕ) (xs ys : List ℕ) → low b (xs ++ ys) ≡ low b xs + b ^ length xs * low b ys
unfolding low
low_append b [] ys = sym (zero-add (b ^ 0 * low b ys) ∙ ap (λ (p : ℕ). p * low b ys) (pow-zero b) ∙ one-mul (low b ys))
low_append b (x ∷ xs) ys =
    ap (λ (n : ℕ). x + b * n) (low_append b xs ys)
    ∙ ap (λ (n : ℕ). x + n) (mul-add b (low b xs) (b ^ length xs * low b ys) ∙ ap (λ (n : ℕ). b * low b xs + n) (sym (mul_assoc b (b ^ length xs) (low b ys))))
    ∙ sym (add_assoc x (b * low b xs) (b * b ^ length xs * low b ys))
    ∙ ap (λ (p : ℕ). x + b * low b xs + p * low b ys) (mul_comm b (b ^ length xs) ∙ sym (pow-suc b (length xs)))

-- the first digit, and those behind it
value_cons : (d : ℕ) (ds : List ℕ) → value_of (d ∷ ds) ≡ value_of ds + 10 ^ length ds * d
unfolding low
value_cons d ds =
    let one : d + 10 * 0 ≡ d = omega arith in
    ap (low 10) (reverse-append (d ∷ []) ds) ∙ low_append 10 (reverse ds) (d ∷ [])
    ∙ ap₂ {C = ℕ} (λ w n. value_of ds + 10 ^ w * n) (length-reverse ds) one

-- digits with no zero before them are as many as their number has
shortest_places : (ds : List ℕ) → Below 10 ds → Shortest ds → places (value_of ds) ≡ length ds
shortest_places [] b s = absurd s
shortest_places (d ∷ []) b s = let r = value-below (d ∷ []) b in places-small (value_of (d ∷ [])) (omega (arith, r, pow-suc 10 0, pow-zero 10))
shortest_places (d ∷ e ∷ ds) b s =
    let w : ℕ = length (e ∷ ds) in
    let v : ℕ = value_of (d ∷ e ∷ ds) in
    let p : 10 ^ w * 1 ≤ 10 ^ w * d = mul-le-mul_left (10 ^ w) s in
    let least : suc w ≤ places v = places-least w v (omega (arith, value_cons d (e ∷ ds), p)) in
    let most : places v ≤ suc w = places-most w v (value-below (d ∷ e ∷ ds) b) in
    omega (arith, least, most)

-- and they are its own
pub own_digits : (ds : List ℕ) → Below 10 ds → Shortest ds → digits_of (value_of ds) ≡ ds
own_digits ds b s =
    ap (λ (w : ℕ). reverse (digits 10 w (value_of ds))) (shortest_places ds b s ∙ sym (length-reverse ds))
    ∙ ap reverse (digits_low 10 (reverse ds) (below-reverse 10 ds [] b tt)) ∙ reverse-reverse ds

-- a number's own digits have no zero before them
pub own_shortest : (n : ℕ) → Shortest (digits_of n)
own_shortest n = go (digits_of n) (length_own n) (below_own n) (value_own n)
  where
    go : (ds : List ℕ) → length ds ≡ places n → Below 10 ds → value_of ds ≡ n → Shortest ds
    go [] l b v = omega (arith, l, places-some n)
    go (d ∷ []) l b v = tt
    go (zero ∷ e ∷ ds) l b v =
        let small : n < 10 ^ length (e ∷ ds) = subst (λ (k : ℕ). k < 10 ^ length (e ∷ ds)) (sym (value_cons 0 (e ∷ ds) ∙ none (value_of (e ∷ ds)) (10 ^ length (e ∷ ds))) ∙ v) (value-below (e ∷ ds) b.1) in
        absurd (omega (arith, l, places-most (length ds) n small))
      where
        none : (x y : ℕ) → x + y * 0 ≡ x
        none x y = omega arith
    go (suc d ∷ e ∷ ds) l b v = omega arith
