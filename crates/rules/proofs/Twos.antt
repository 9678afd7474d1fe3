-- Two's complement: the number of w bytes that is read as a signed one is one of w bytes (`unsigned-below`) and is read as it (`read_back`), and a number of w
-- bytes is the one of what is read from it (`unsigned_signed`). The same of lists (`all-below`, `all_back`).
use mathlib.Core.Path.{◌≡◌, refl, ap, ap₂, ◌∙◌}
use Prim.Native.Nat.{ℕ, zero, suc, ◌-◌, ◌*◌, ◌/◌, ◌^◌, ◌<◌}
use native.Mathlib.Nat.{pow-suc}
use native.Mathlib.Omega.{arith}
use mathlib.Core.Bool.{Bool, true, false, cond}
use mathlib.Core.List.{List, [], ◌∷◌, map}
use lib.Dec.{ltb}
use lib.IntN.{ℤ, pos, negsuc}
use lib.Signed.{mag}
use borrow.Author.Tests.{lt-ltb, le-ltb, ltb-false}
use Rattle.rules.specs.Numbers.{Below, signed, unsigned, EachFits}

-- half of the numbers of w bytes, twice
pub halves : (w : ℕ) → 0 < w → 256 ^ w / 2 * 2 ≡ 256 ^ w
halves zero p = absurd (omega arith)
halves (suc w) p = omega (arith, pow-suc 256 w)

pub unsigned-below : (w : ℕ) (z : ℤ) → 0 < w → mag z < 256 ^ w / 2 → unsigned w z < 256 ^ w
unfolding unsigned
unsigned-below w (pos n) p h = omega (arith, halves w p)
unsigned-below w (negsuc n) p h = omega (arith, halves w p)

pub read_back : (w : ℕ) (z : ℤ) → 0 < w → mag z < 256 ^ w / 2 → signed w (unsigned w z) ≡ z
unfolding signed unsigned
read_back w (pos n) p h = ap (λ (t : Bool). cond t (pos n) (negsuc (256 ^ w - suc n))) (lt-ltb n (256 ^ w / 2) h)
read_back w (negsuc n) p h =
    let m : ℕ = 256 ^ w - suc n in
    let e : 256 ^ w - suc m ≡ n = omega (arith, halves w p) in
    ap (λ (t : Bool). cond t (pos m) (negsuc (256 ^ w - suc m))) (le-ltb m (256 ^ w / 2) (omega (arith, halves w p))) ∙ ap negsuc e

pub unsigned_signed : (w n : ℕ) → n < 256 ^ w → unsigned w (signed w n) ≡ n
unfolding signed unsigned
unsigned_signed w n h = go (ltb n (256 ^ w / 2))
  where
    go : (t : Bool) → unsigned w (cond t (pos n) (negsuc (256 ^ w - suc n))) ≡ n
    go true = refl
    go false = omega arith

-- ---- of every number of a list

pub all-below : (w : ℕ) (zs : List ℤ) → 0 < w → EachFits w zs → Below (256 ^ w) (map (unsigned w) zs)
all-below w [] p f = tt
all-below w (z ∷ zs) p f = (unsigned-below w z p (f 0 (omega arith)), all-below w zs p (λ q h. f (suc q) (omega arith)))

pub all_back : (w : ℕ) (zs : List ℤ) → 0 < w → EachFits w zs → map (signed w) (map (unsigned w) zs) ≡ zs
all_back w [] p f = refl
all_back w (z ∷ zs) p f = ap₂ {C = List ℤ} (λ x xs. x ∷ xs) (read_back w z p (f 0 (omega arith))) (all_back w zs p (λ q h. f (suc q) (omega arith)))
