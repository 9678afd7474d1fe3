-- Samples of 16 bits by rank: each is one (`rank_of`) and fits (`rank_fits`); their order (`raised-order`); and those from a rank on are the ones between two
-- numbers (`bounded`). Last, the casts of the code.
use mathlib.Core.Path.{◌≡◌, refl, sym, ap, ap₂, ◌∙◌, subst}
use Prim.Native.Nat.{ℕ, suc, ◌+◌, ◌-◌, ◌^◌, ◌≤◌, ◌<◌}
use native.Mathlib.Nat.{lt_of_lt_of_le}
use native.Mathlib.Omega.{arith}
use mathlib.Core.Bool.{Bool, true, false, ◌&&◌, true≢false, false≢true}
use lib.Dec.{leb, ltb, leb→le, le→leb, lit≤}
use lib.IntN.{ℤ, pos, negsuc, neg_ℤ, ◌+ℤ◌, ◌-ℤ◌}
use lib.Signed.{mag, le_z}
use mir.Syntax.{w16, w32}
use mir.Val.{SFits, hbits, to_z, of_z}
use mir.ValLaws.{to_z_pos, to_z-of_z}
use borrow.Author.Tests.{ltb-true, ltb-false, le-leb, lt-leb}
use Rattle.rules.specs.Points.{signed_by}
use Rattle.rules.proofs.Tests.{same_test}
use Rattle.rules.proofs.Signs.{minus_lt, minus_le}
use Rattle.rules.proofs.Products.{add_part, take_part}
use Rattle.numbers.proofs.Bools.{and_end, and_false}
use Rattle.levels.specs.Levels.{between, raised, ranked, Edge}

-- ---- the n-th sample from −32,768 up

-- below 0, and from 0 on
low_is : (n : ℕ) → n < 32768 → raised n ≡ negsuc (32767 - n)
unfolding raised
low_is n h = let e : 32768 - n ≡ suc (32767 - n) = omega arith in minus_lt n 32768 h ∙ ap (λ (k : ℕ). neg_ℤ (pos k)) e

high_is : (n : ℕ) → 32768 ≤ n → raised n ≡ pos (n - 32768)
unfolding raised
high_is n h = minus_le n 32768 h

pub raised-fits : (n : ℕ) → n < 65536 → mag (raised n) < 2 ^ 15
raised-fits n h = go (ltb n 32768) refl
  where
    go : (b : Bool) → ltb n 32768 ≡ b → mag (raised n) < 2 ^ 15
    go true e = subst (λ (z : ℤ). mag z < 2 ^ 15) (sym (low_is n (ltb-true n 32768 e))) (omega arith)
    go false e = subst (λ (z : ℤ). mag z < 2 ^ 15) (sym (high_is n (ltb-false n 32768 e))) (omega (arith, ltb-false n 32768 e))

raised_of : (z : ℤ) → mag z < 2 ^ 15 → (n : ℕ) × (n < 65536) × (z ≡ raised n)
raised_of (pos a) h = let e : 32768 + a - 32768 ≡ a = omega arith in (32768 + a, omega arith, sym (high_is (32768 + a) (omega arith) ∙ ap pos e))
raised_of (negsuc a) h = let e : 32767 - (32767 - a) ≡ a = omega arith in (32767 - a, omega arith, sym (low_is (32767 - a) (omega arith) ∙ ap negsuc e))

same-order : (a b i j : ℕ) → (a ≤ b → i ≤ j) → (i ≤ j → a ≤ b) → leb a b ≡ leb i j
same-order a b i j f g = same_test (leb a b) (leb i j) (λ h. le→leb i j (f (leb→le a b h))) (λ h. le→leb a b (g (leb→le i j h)))

pub raised-order : (i j : ℕ) → le_z (raised i) (raised j) ≡ leb i j
raised-order i j = go (ltb i 32768) refl (ltb j 32768) refl
  where
    go : (p : Bool) → ltb i 32768 ≡ p → (q : Bool) → ltb j 32768 ≡ q → le_z (raised i) (raised j) ≡ leb i j
    go true e true f =
        let a = ltb-true i 32768 e in
        let b = ltb-true j 32768 f in
        ap₂ le_z (low_is i a) (low_is j b) ∙ same-order (32767 - j) (32767 - i) i j (λ h. omega arith) (λ h. omega arith)
    go true e false f =
        let a = ltb-true i 32768 e in
        let b = ltb-false j 32768 f in
        ap₂ le_z (low_is i a) (high_is j b) ∙ sym (le-leb i j (omega arith))
    go false e true f =
        let a = ltb-false i 32768 e in
        let b = ltb-true j 32768 f in
        ap₂ le_z (high_is i a) (low_is j b) ∙ sym (lt-leb i j (omega arith))
    go false e false f =
        let a = ltb-false i 32768 e in
        let b = ltb-false j 32768 f in
        ap₂ le_z (high_is i a) (high_is j b) ∙ same-order (i - 32768) (j - 32768) i j (λ h. omega arith) (λ h. omega arith)

-- ---- samples by rank

pub rank_fits : (f : Bool) (j : ℕ) → j < 65536 → mag (ranked f j) < 2 ^ 15
unfolding ranked
rank_fits false j h = raised-fits j h
rank_fits true j h = raised-fits (65535 - j) (omega arith)

rank_of : (f : Bool) (z : ℤ) → mag z < 2 ^ 15 → (j : ℕ) × (j < 65536) × (z ≡ ranked f j)
unfolding ranked
rank_of false z h = raised_of z h
rank_of true z h = let r = raised_of z h in let e : 65535 - (65535 - r.0) ≡ r.0 = omega (arith, r.1) in (65535 - r.0, omega arith, r.2 ∙ ap raised (sym e))

-- d ranks on, the sample is d more, or d less
pub rank_step : (f : Bool) (i d : ℕ) → i + d < 65536 → ranked f (i + d) ≡ ranked f i +ℤ signed_by f d
unfolding ranked raised
rank_step false i d h = sym (add_part (pos i) (pos d) (pos 32768))
rank_step true i d h =
    let m : ℕ = 65535 - (i + d) in
    let e : m + d ≡ 65535 - i = omega arith in
    take_part (pos m) (pos d) (pos 32768) ∙ ap (λ (n : ℕ). pos n -ℤ pos 32768 -ℤ pos d) e

-- ---- the ranks from k on are the samples between two numbers

abbrev pub Bounding : Bool → ℕ → ℤ → ℤ → Type 0
Bounding f k low high = (j : ℕ) → j < 65536 → between low high (ranked f j) ≡ leb k j

-- the highest number and the lowest are those of rank 65,535 and 0
up_to : (n : ℕ) → n < 65536 → le_z (raised n) (pos 32767) ≡ true
up_to n h = ap (le_z (raised n)) (sym (high_is 65535 (omega arith))) ∙ raised-order n 65535 ∙ le-leb n 65535 (omega arith)

down_to : (n : ℕ) → le_z (negsuc 32767) (raised n) ≡ true
down_to n = ap (λ (z : ℤ). le_z z (raised n)) (sym (low_is 0 (omega arith))) ∙ raised-order 0 n ∙ le-leb 0 n (omega arith)

pub rising_bounds : (f : Bool) (k : ℕ) (z : ℤ) → f ≡ false → z ≡ ranked f k → Bounding f k z (pos 32767)
rising_bounds true k z e q = absurd (true≢false e)
rising_bounds false k z e q = subst (λ (x : ℤ). Bounding false k x (pos 32767)) (sym q) at
  where
    at : Bounding false k (ranked false k) (pos 32767)
    at j h = unfold between ranked in ap₂ (λ (a b : Bool). a && b) (raised-order k j) (up_to j h) ∙ and_end (leb k j)

pub falling_bounds : (f : Bool) (k : ℕ) (z : ℤ) → f ≡ true → k < 65536 → z ≡ ranked f k → Bounding f k (negsuc 32767) z
falling_bounds false k z e l q = absurd (false≢true e)
falling_bounds true k z e l q = subst (λ (x : ℤ). Bounding true k (negsuc 32767) x) (sym q) at
  where
    at : Bounding true k (negsuc 32767) (ranked true k)
    at j h =
        unfold between ranked in
        ap₂ (λ (a b : Bool). a && b) (down_to (65535 - j)) (raised-order (65535 - j) (65535 - k) ∙ same-order (65535 - j) (65535 - k) k j (λ p. omega arith) (λ p. omega arith))

-- no rank
pub no_bounds : (f : Bool) (k : ℕ) → k ≡ 65536 → Bounding f k (pos 32767) (negsuc 32767)
unfolding between
no_bounds f k e j h = none (ranked f j) ∙ sym (lt-leb k j (omega arith))
  where
    none : (z : ℤ) → le_z (pos 32767) z && le_z z (negsuc 32767) ≡ false
    none (pos n) = and_false (leb 32767 n)
    none (negsuc n) = refl

-- so a test that holds from rank k on holds between the two
pub bounded : (t : ℤ → Bool) (f : Bool) (k : ℕ) (low high : ℤ) → Bounding f k low high → Edge (λ j. t (ranked f j)) 65536 k → (z : ℤ) → mag z < 2 ^ 15 → t z ≡ between low high z
bounded t f k low high b e z h =
    let j = rank_of f z h in
    subst (λ (x : ℤ). t x ≡ between low high x) (sym j.2) (e.1 j.0 j.1 ∙ sym (b j.0 j.1))

-- ---- the n-th sample, worked out in 32 bits and cast to 16

module _ (n : ℕ) (h : n < 65536) where
  difference : to_z w32 n -ℤ pos 32768 ≡ raised n
  unfolding raised
  difference = ap (λ (z : ℤ). z -ℤ pos 32768) (to_z_pos w32 n (lt_of_lt_of_le h (lit≤ tt)))

  pub difference_fits : SFits w32 (to_z w32 n -ℤ pos 32768)
  difference_fits = record { sfits = subst (λ (z : ℤ). mag z < 2 ^ hbits w32) (sym difference) (lt_of_lt_of_le (raised-fits n h) (lit≤ tt)) }

  wide : to_z w32 (of_z w32 (to_z w32 n -ℤ pos 32768)) ≡ raised n
  wide = to_z-of_z w32 (to_z w32 n -ℤ pos 32768) difference_fits ∙ difference

  pub cast_fits : SFits w16 (to_z w32 (of_z w32 (to_z w32 n -ℤ pos 32768)))
  cast_fits = record { sfits = subst (λ (z : ℤ). mag z < 2 ^ hbits w16) (sym wide) (raised-fits n h) }

  pub cast_is : to_z w16 (of_z w16 (to_z w32 (of_z w32 (to_z w32 n -ℤ pos 32768)))) ≡ raised n
  cast_is = to_z-of_z w16 (to_z w32 (of_z w32 (to_z w32 n -ℤ pos 32768))) cast_fits ∙ wide
