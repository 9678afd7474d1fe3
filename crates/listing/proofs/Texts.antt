-- A mark as text, and text written over a buffer: what stands before its end (`taken`), a word more (`word_line`).
use mathlib.Core.Path.{◌≡◌, ap, ◌∙◌, subst}
use mathlib.Core.Bool.{Bool}
use mathlib.Core.List.{List, [], ◌∷◌, ◌++◌, append_assoc}
use Prim.Native.Nat.{ℕ, ◌+◌, ◌≤◌, ◌<◌}
use native.Mathlib.Omega.{arith}
use lib.ListN.{length, take, drop, set, length-append}
use lib.Seq.{take_at, length-take-le, sets-eq}
use Rattle.rules.specs.Numbers.{splice}
use Rattle.rules.specs.Points.{mark_number}
use Rattle.rules.proofs.Marks.{mark_le}
use Rattle.copies.specs.Copies.{Wrote}
use Rattle.copies.proofs.Laws.{length-splice, then, behind}
use Rattle.digits.specs.Digits.{places}
use Rattle.digits.proofs.Spelled.{places-small}
use Rattle.listing.specs.Listing.{line}

-- a mark has one digit
pub places-mark : (b : Bool) → places (mark_number b) ≡ 1
places-mark b = places-small (mark_number b) (omega (arith, mark_le b))

-- ---- text over a buffer

-- a byte stored right behind a text
pub set_last : (l : List ℕ) (at n : ℕ) (xs : List ℕ) (v : ℕ) → length xs ≡ n → at + n < length l → set (splice l at xs) (at + n) v ≡ splice l at (xs ++ (v ∷ []))
set_last l at n xs v e h =
    let r : at + n + 1 ≤ length (splice l at xs) = omega (arith, length-splice l at xs (omega arith)) in
    sets-eq (v ∷ []) (splice l at xs) (at + n) r ∙ then l at n xs (v ∷ []) e (omega arith)

-- the same text in other words
pub worded : {l l' xs ys : List ℕ} {at r : ℕ} → xs ≡ ys → Wrote l at xs l' r → Wrote l at ys l' r
worded {l} {l'} {xs} {ys} {at} {r} e p = subst (λ (x : List ℕ). Wrote l at x l' r) e p

-- what stands before its end
pub taken : {l l' bs : List ℕ} {at e : ℕ} → Wrote l at bs l' e → at ≤ length l → take e l' ≡ take at l ++ bs
taken {l} {l'} {bs} {at} {e} p h =
    ap (take e) p.leaves ∙ take_at (take at l ++ bs) (drop (at + length bs) l) e (omega (arith, p.ends, length-append (take at l) bs, length-take-le at l h))

-- a word and its blank, then the rest of a line
pub word_line : {l l' l'' : List ℕ} {at m r : ℕ} (w v : List ℕ) (ws : List (List ℕ)) → Wrote l at (w ++ (32 ∷ [])) l' m → Wrote l' m (line (v ∷ ws)) l'' r → m ≤ length l → Wrote l at (line (w ∷ v ∷ ws)) l'' r
word_line {l} {l'} {l''} {at} {m} {r} w v ws p q h = subst (λ (x : List ℕ). Wrote l at x l'' r) (append_assoc w (32 ∷ []) (line (v ∷ ws))) (behind p q h)
