-- A sample's high byte is the whole number at or below sample / 256, as signed numbers (`floor_of`); and tables of high bytes.
use mathlib.Core.Path.{◌≡◌, refl, sym, ap, ◌∙◌, fun_ext}
use Prim.Native.Nat.{ℕ, suc, ◌+◌, ◌-◌, ◌*◌, ◌/◌, ◌%◌, ◌≤◌, ◌<◌}
use native.Mathlib.Nat.{div-add-mod', mod-lt}
use native.Mathlib.Omega.{arith}
use mathlib.Core.Bool.{Bool, true, false, cond}
use mathlib.Core.List.{List, [], ◌∷◌, ◌++◌, map, map-map, map-append, flatten}
use lib.ListN.{length, get_or, length-map, get_or-map}
use lib.Dec.{ltb}
use lib.IntN.{ℤ, pos, negsuc, neg_ℤ, ◌+ℤ◌, ◌*ℤ◌}
use borrow.Author.Tests.{ltb-true, ltb-false, lt-ltb, le-ltb}
use Rattle.rules.specs.Numbers.{Below, total, signed}
use Rattle.rules.proofs.Numbers.{length-flatten}
use Rattle.rules.proofs.Signs.{plus_fst}
use Rattle.narrowing.specs.Narrow.{high}

-- a sample is 256 times its high byte, and a remainder from 0 to 255
pub floor_of : (x : ℕ) → x < 65536 → signed 2 x ≡ signed 1 (high x) *ℤ pos 256 +ℤ pos (x % 256)
unfolding signed
floor_of x h = go (ltb x 32768) refl
  where
    whole : x / 256 * 256 + x % 256 ≡ x
    whole = div-add-mod' x 256

    rest : x % 256 < 256
    rest = mod-lt x (omega arith)

    go : (t : Bool) → ltb x 32768 ≡ t → cond (ltb x 32768) (pos x) (negsuc (65536 - suc x)) ≡ cond (ltb (x / 256) 128) (pos (x / 256)) (negsuc (256 - suc (x / 256))) *ℤ pos 256 +ℤ pos (x % 256)
    go true e =
        let l : x < 32768 = ltb-true x 32768 e in
        let m : ltb (x / 256) 128 ≡ true = lt-ltb (x / 256) 128 (omega (arith, whole)) in
        ap (λ (t : Bool). cond t (pos x) (negsuc (65536 - suc x))) e
        ∙ ap pos (sym whole)
        ∙ ap (λ (t : Bool). cond t (pos (x / 256)) (negsuc (256 - suc (x / 256))) *ℤ pos 256 +ℤ pos (x % 256)) (sym m)
    go false e =
        let l : 32768 ≤ x = ltb-false x 32768 e in
        let m : ltb (x / 256) 128 ≡ false = le-ltb (x / 256) 128 (omega (arith, whole, rest)) in
        let d : ℕ = suc (256 - suc (x / 256)) * 256 in
        let n : d - x % 256 ≡ suc (65536 - suc x) = omega (arith, whole, rest) in
        ap (λ (t : Bool). cond t (pos x) (negsuc (65536 - suc x))) e
        ∙ ap (λ (k : ℕ). neg_ℤ (pos k)) (sym n)
        ∙ sym (plus_fst true d (x % 256) (omega (arith, whole, rest)))
        ∙ ap (λ (t : Bool). cond t (pos (x / 256)) (negsuc (256 - suc (x / 256))) *ℤ pos 256 +ℤ pos (x % 256)) (sym m)

-- ---- tables

pub lengths_high : (t : List (List ℕ)) → map length (map (map high) t) ≡ map length t
lengths_high t = map-map length (map high) t ∙ ap (λ (f : List ℕ → ℕ). map f t) (fun_ext (λ (r : List ℕ). length-map r high))

pub length_high : (t : List (List ℕ)) → length (flatten (map (map high) t)) ≡ length (flatten t)
length_high t = length-flatten (map (map high) t) ∙ ap total (lengths_high t) ∙ sym (length-flatten t)

-- the number at a place
pub high-at : (t : List (List ℕ)) (i k : ℕ) → get_or (get_or (map (map high) t) i []) k 0 ≡ high (get_or (get_or t i []) k 0)
high-at t i k = ap (λ (r : List ℕ). get_or r k 0) (get_or-map (map high) t i []) ∙ get_or-map high (get_or t i []) k 0

below-map : (xs : List ℕ) → Below 65536 xs → Below 256 (map high xs)
below-map [] h = tt
below-map (x ∷ xs) h = (omega arith, below-map xs h.1)

pub flatten-high : (t : List (List ℕ)) → flatten (map (map high) t) ≡ map high (flatten t)
unfolding flatten
flatten-high [] = refl
flatten-high (r ∷ rs) = ap {B = List ℕ} (λ l. map high r ++ l) (flatten-high rs) ∙ sym (map-append high r (flatten rs))

pub below-high : (t : List (List ℕ)) → Below 65536 (flatten t) → Below 256 (flatten (map (map high) t))
below-high t h = rw flatten-high (below-map (flatten t) h)
