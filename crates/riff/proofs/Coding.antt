-- A sample is read as it was written, and written as it was read, at both widths. First: 8-bit ones are written with 128 added (`raised_is`).
use mathlib.Core.Path.{◌≡◌, refl, sym, ap, ap₂, ◌∙◌, subst}
use mathlib.Core.Logic.{◌⊎◌, inl, inr}
use Prim.Native.Nat.{ℕ, zero, suc, ◌+◌, ◌-◌, ◌%◌, ◌/◌, ◌^◌, ◌≤◌, ◌<◌}
use native.Mathlib.Nat.{add_comm}
use native.Mathlib.Omega.{arith}
use mathlib.Core.Bool.{Bool, true, false, cond}
use mathlib.Core.List.{List, [], ◌∷◌, map}
use lib.Dec.{ltb}
use lib.IntN.{ℤ, pos, negsuc, ◌+ℤ◌}
use lib.ListN.{length, get_or}
use lib.Signed.{mag}
use borrow.Author.Tests.{ltb-true, ltb-false, lt-ltb, le-ltb}
use Rattle.rules.specs.Numbers.{Below, signed, unsigned, EachFits}
use Rattle.rules.proofs.Asked.{signed-fits}
use Rattle.rules.proofs.Twos.{unsigned-below, read_back, unsigned_signed}
use Rattle.riff.specs.Files.{raised, lowered, coded, heard}

pub raised_is : (x : ℤ) → mag x < 128 → pos (raised x) ≡ x +ℤ pos 128
raised_is (pos n) h = ap pos (add_comm 128 n)
raised_is (negsuc n) h =
    let e : 127 - n ≡ 128 - suc n = omega arith in
    ap pos e ∙ sym (ap (λ (b : Bool). cond b (negsuc (suc n - suc 128)) (pos (128 - suc n))) (le-ltb 128 (suc n) (omega arith)))

-- so the byte of a sample is the sample's own byte, with 128 added
pub raised_byte : (n : ℕ) → n < 256 → coded 1 (signed 1 n) ≡ (n + 128) % 256
unfolding coded signed
raised_byte n h = go (ltb n 128) refl
  where
    go : (b : Bool) → ltb n 128 ≡ b → raised (cond b (pos n) (negsuc (256 - suc n))) ≡ (n + 128) % 256
    go true q = let l : n < 128 = ltb-true n 128 q in omega arith
    go false q = let l : 128 ≤ n = ltb-false n 128 q in omega arith

-- ---- one sample

raised_below : (x : ℤ) → mag x < 128 → raised x < 256
raised_below (pos n) h = omega arith
raised_below (negsuc n) h = omega arith

lowered-raised : (x : ℤ) → mag x < 128 → lowered (raised x) ≡ x
lowered-raised (pos n) h = let e : 128 + n - 128 ≡ n = omega arith in rw (le-ltb (128 + n) 128 (omega arith)) (ap pos e)
lowered-raised (negsuc n) h = let e : 127 - (127 - n) ≡ n = omega arith in rw (lt-ltb (127 - n) 128 (omega arith)) (ap negsuc e)

raised-lowered : (c : ℕ) → c < 256 → (mag (lowered c) < 128) × (raised (lowered c) ≡ c)
raised-lowered c h = go (ltb c 128) refl
  where
    go : (b : Bool) → ltb c 128 ≡ b → (mag (cond b (negsuc (127 - c)) (pos (c - 128))) < 128) × (raised (cond b (negsuc (127 - c)) (pos (c - 128))) ≡ c)
    go true q = let l : c < 128 = ltb-true c 128 q in (omega arith, omega arith)
    go false q = let l : 128 ≤ c = ltb-false c 128 q in (omega arith, omega arith)

module _ (w : ℕ) (v : (w ≡ 1) ⊎ (w ≡ 2)) where
  -- what holds of a byte and of a word holds
  either_way : (P : ℕ → Type 0) → P 1 → P 2 → P w
  either_way P one two = go v
    where
      go : (w ≡ 1) ⊎ (w ≡ 2) → P w
      go (inl e) = subst P (sym e) one
      go (inr e) = subst P (sym e) two

  coded-below : (x : ℤ) → mag x < 256 ^ w / 2 → coded w x < 256 ^ w
  unfolding coded
  coded-below x = either_way (λ k. mag x < 256 ^ k / 2 → coded k x < 256 ^ k) (raised_below x) (unsigned-below 2 x (omega arith))

  heard-coded : (x : ℤ) → mag x < 256 ^ w / 2 → heard w (coded w x) ≡ x
  unfolding coded heard
  heard-coded x = either_way (λ k. mag x < 256 ^ k / 2 → heard k (coded k x) ≡ x) (lowered-raised x) (read_back 2 x (omega arith))

  pub coded-heard : (c : ℕ) → c < 256 ^ w → (mag (heard w c) < 256 ^ w / 2) × (coded w (heard w c) ≡ c)
  unfolding coded heard
  coded-heard c = either_way (λ k. c < 256 ^ k → (mag (heard k c) < 256 ^ k / 2) × (coded k (heard k c) ≡ c)) (raised-lowered c) (λ h. (signed-fits 2 c (omega arith) h, unsigned_signed 2 c h))

  -- ---- all samples

  pub below-coded : (xs : List ℤ) → EachFits w xs → Below (256 ^ w) (map (coded w) xs)
  below-coded [] h = tt
  below-coded (x ∷ xs) h = (coded-below x (h 0 (omega arith)), below-coded xs (λ q l. h (suc q) (omega arith)))

  pub heard_codes : (xs : List ℤ) → EachFits w xs → map (heard w) (map (coded w) xs) ≡ xs
  heard_codes [] h = refl
  heard_codes (x ∷ xs) h = ap₂ {C = List ℤ} (λ y ys. y ∷ ys) (heard-coded x (h 0 (omega arith))) (heard_codes xs (λ q l. h (suc q) (omega arith)))

  pub heard-fits : (cs : List ℕ) → Below (256 ^ w) cs → EachFits w (map (heard w) cs)
  heard-fits [] h q l = absurd (omega arith)
  heard-fits (c ∷ cs) h zero l = (coded-heard c h.0).0
  heard-fits (c ∷ cs) h (suc q) l = heard-fits cs h.1 q (omega arith)

  pub codes_heard : (cs : List ℕ) → Below (256 ^ w) cs → map (coded w) (map (heard w) cs) ≡ cs
  codes_heard [] h = refl
  codes_heard (c ∷ cs) h = ap₂ {C = List ℕ} (λ d ds. d ∷ ds) (coded-heard c h.0).1 (codes_heard cs h.1)
