-- Numbers as text: the count of decimal digits (`places-step`, `places-least`, `places_enough`), and a turn of the loop that writes them (`digit-step`).
use mathlib.Core.Path.{◌≡◌, refl, sym, ap, ap₂, ◌∙◌}
use mathlib.Core.Bool.{Bool, true, false, cond}
use mathlib.Core.List.{List, [], ◌∷◌, ◌++◌, map, reverse, reverse-cons, map-append, append_assoc}
use Prim.Native.Nat.{ℕ, zero, suc, ◌+◌, ◌-◌, ◌*◌, ◌/◌, ◌%◌, ◌^◌, ◌≤◌, ◌<◌, max}
use native.Mathlib.Nat.{div-lt_iff_lt-mul, pow-le-pow_right, pow-suc, pow-zero}
use native.Mathlib.Omega.{arith}
use lib.ListN.{length, take, drop, set, length-append, length-map, length-reverse}
use lib.Seq.{lt-length-set, take-set-le, drop-set-lt, drop-cons, get_or-set_same}
use lib.Dec.{ltb}
use borrow.Author.Tests.{ltb-true, ltb-false, lt-ltb, le-ltb}
use Rattle.rules.specs.Numbers.{digits, splice}
use Rattle.rules.proofs.Numbers.{length_digits}
use Rattle.digits.specs.Digits.{sign, spelled, places_by, places}

-- ---- digits

spelled_suc : (b w n : ℕ) → spelled b (suc w) n ≡ spelled b w (n / b) ++ (sign (n % b) ∷ [])
unfolding spelled digits
spelled_suc b w n = ap (map sign) (reverse-cons (n % b) (digits b w (n / b))) ∙ map-append sign (reverse (digits b w (n / b))) (n % b ∷ [])

pub length-spelled : (b w n : ℕ) → length (spelled b w n) ≡ w
unfolding spelled
length-spelled b w n = length-map (reverse (digits b w n)) sign ∙ length-reverse (digits b w n) ∙ length_digits b w n

-- ---- how many decimal digits

-- enough steps are as good as more
fuel : (f g n : ℕ) → n ≤ f → n ≤ g → places_by f n ≡ places_by g n
unfolding places_by
fuel zero zero n p q = refl
fuel zero (suc g) n p q = sym (ap (λ (t : Bool). cond t 1 (suc (places_by g (n / 10)))) (lt-ltb n 10 (omega arith)))
fuel (suc f) zero n p q = ap (λ (t : Bool). cond t 1 (suc (places_by f (n / 10)))) (lt-ltb n 10 (omega arith))
fuel (suc f) (suc g) n p q = go (ltb n 10) (ltb-false n 10) (λ l. fuel f g (n / 10) (omega arith) (omega arith))
  where
    go : (t : Bool) → (t ≡ false → 10 ≤ n) → (10 ≤ n → places_by f (n / 10) ≡ places_by g (n / 10)) → cond t 1 (suc (places_by f (n / 10))) ≡ cond t 1 (suc (places_by g (n / 10)))
    go true h e = refl
    go false h e = ap suc (e (h refl))

pub places-small : (n : ℕ) → n < 10 → places n ≡ 1
unfolding places places_by
places-small zero h = refl
places-small (suc n) h = ap (λ (t : Bool). cond t 1 (suc (places_by n (suc n / 10)))) (lt-ltb (suc n) 10 h)

pub places-step : (n : ℕ) → 10 ≤ n → places n ≡ suc (places (n / 10))
unfolding places places_by
places-step zero h = absurd (omega arith)
places-step (suc n) h =
    ap (λ (t : Bool). cond t 1 (suc (places_by n (suc n / 10)))) (le-ltb (suc n) 10 h) ∙ ap suc (fuel n (suc n / 10) (suc n / 10) (omega arith) (omega arith))

pub places-most : (w n : ℕ) → n < 10 ^ suc w → places n ≤ suc w
places-most zero n h = omega (arith, places-small n (omega (arith, pow-suc 10 zero, pow-zero 10)))
places-most (suc w) n h =
    go (ltb n 10) (ltb-true n 10) (ltb-false n 10) (places-most w (n / 10) ((div-lt_iff_lt-mul (omega arith)).1 (rw pow-suc at h)))
  where
    go : (t : Bool) → (t ≡ true → n < 10) → (t ≡ false → 10 ≤ n) → places (n / 10) ≤ suc w → places n ≤ suc (suc w)
    go true f g q = omega (arith, places-small n (f refl))
    go false f g q = omega (arith, places-step n (g refl))

pub places-some : (n : ℕ) → 1 ≤ places n
places-some n = go (ltb n 10) (ltb-true n 10) (ltb-false n 10)
  where
    go : (t : Bool) → (t ≡ true → n < 10) → (t ≡ false → 10 ≤ n) → 1 ≤ places n
    go true f g = omega (arith, places-small n (f refl))
    go false f g = omega (arith, places-step n (g refl))

-- a number of 32 bits has at most ten
pub places_few : (n : ℕ) → n < 2 ^ 32 → places n ≤ 10
places_few n h = places-most 9 n (omega arith)

pub places-least : (w n : ℕ) → 10 ^ w ≤ n → suc w ≤ places n
places-least zero n h = places-some n
places-least (suc w) n h =
    let p : 10 ^ suc w ≡ 10 ^ w * 10 = pow-suc 10 w in
    let q : 10 ^ 0 ≤ 10 ^ w = pow-le-pow_right (omega arith) {i = 0} {j = w} (omega arith) in
    let l : suc w ≤ places (n / 10) = places-least w (n / 10) (omega arith) in
    omega (arith, places-step n (omega arith))

-- one more than the power of ten that the number reaches; 0 counts as 1
pub places_power : (n m k : ℕ) → m ≡ max n 1 → 10 ^ k ≤ m → m < 10 * 10 ^ k → k + 1 ≡ places n
places_power zero m zero e l h = omega (arith, places-small zero (omega arith))
places_power zero m (suc k) e l h = let p : 10 ^ 1 ≤ 10 ^ suc k = pow-le-pow_right (omega arith) {i = 1} {j = suc k} (omega arith) in absurd (omega arith)
places_power (suc n) m k e l h =
    let p : 10 ^ suc k ≡ 10 ^ k * 10 = pow-suc 10 k in
    omega (arith, places-least k (suc n) (omega arith), places-most k (suc n) (omega arith))

enough_by : (f n : ℕ) → n ≤ f → n < 10 ^ places n
enough_by zero n h = let e = places-small n (omega arith) in let p : 10 ^ places n ≡ 10 = ap (λ (w : ℕ). 10 ^ w) e in omega (arith, p)
enough_by (suc f) n h = go (ltb n 10) (ltb-true n 10) (ltb-false n 10) (enough_by f (n / 10))
  where
    go : (t : Bool) → (t ≡ true → n < 10) → (t ≡ false → 10 ≤ n) → (n / 10 ≤ f → n / 10 < 10 ^ places (n / 10)) → n < 10 ^ places n
    go true k g ih = let p : 10 ^ places n ≡ 10 = ap (λ (w : ℕ). 10 ^ w) (places-small n (k refl)) in omega (arith, p, k refl)
    go false k g ih =
        let p : 10 ^ places n ≡ 10 ^ places (n / 10) * 10 = ap (λ (w : ℕ). 10 ^ w) (places-step n (g refl)) ∙ pow-suc 10 (places (n / 10)) in
        omega (arith, p, g refl, ih (omega (arith, g refl)))

-- as many digits as a number has are enough for it
pub places_enough : (n : ℕ) → n < 10 ^ places n
places_enough n = enough_by n n (omega arith)

-- ---- a turn of the loop that writes the digits, from the lowest

-- a byte stored right behind a text, before the text is written
set_first : (l : List ℕ) (at : ℕ) (xs : List ℕ) (v : ℕ) → at + length xs < length l → splice (set l (at + length xs) v) at xs ≡ splice l at (xs ++ (v ∷ []))
set_first l at xs v h =
    let p : ℕ = at + length xs in
    let e : suc p ≡ at + length (xs ++ (v ∷ [])) = omega (arith, length-append xs (v ∷ [])) in
    let d : drop p (set l p v) ≡ v ∷ drop (suc p) l =
    drop-cons (set l p v) p 0 (lt-length-set l p v h) ∙ ap₂ {C = List ℕ} (λ x y. x ∷ y) (get_or-set_same l p v 0 h) (drop-set-lt (suc p) l p v (omega arith)) in
    ap₂ {C = List ℕ} (λ x y. x ++ xs ++ y) (take-set-le at l p v (omega arith)) d
    ∙ ap (λ (k : ℕ). take at l ++ xs ++ (v ∷ drop k l)) e
    ∙ simp append_assoc

pub digit-step : (l : List ℕ) (at b left rest : ℕ) → 0 < left → at + left ≤ length l
    → splice (set l (at + (left - 1)) (sign (rest % b))) at (spelled b (left - 1) (rest / b)) ≡ splice l at (spelled b left rest)
digit-step l at b zero rest p h = absurd (omega arith)
digit-step l at b (suc w) rest p h =
    let e : suc w - 1 ≡ w = omega arith in
    let n : length (spelled b w (rest / b)) ≡ w = length-spelled b w (rest / b) in
    ap (λ (x : ℕ). splice (set l (at + x) (sign (rest % b))) at (spelled b x (rest / b))) e
    ∙ ap (λ (x : ℕ). splice (set l (at + x) (sign (rest % b))) at (spelled b w (rest / b))) (sym n)
    ∙ set_first l at (spelled b w (rest / b)) (sign (rest % b)) (omega arith)
    ∙ ap (splice l at) (sym (spelled_suc b w rest))
