-- No sample is at the rail where neither the least nor the greatest of them is (`none_there`).
use mathlib.Core.Path.{◌≡◌, refl, sym, ap, ◌∙◌, subst}
use mathlib.Core.Logic.{◌⊎◌}
use Prim.Native.Nat.{ℕ, zero, suc, ◌+◌, ◌-◌, ◌/◌, ◌^◌, ◌≤◌, ◌<◌}
use native.Mathlib.Omega.{arith}
use mathlib.Core.Bool.{Bool, true, false, ◌||◌, true≢false}
use mathlib.Core.List.{map}
use lib.Dec.{T, le→leb}
use lib.IntN.{ℤ, pos, negsuc, neg_ℤ}
use lib.Signed.{le_z, mag}
use Rattle.rules.specs.Numbers.{lowest, highest, equal, up_from}
use Rattle.rules.specs.Points.{at_rail, mark_number, mark_count_of}
use Rattle.rules.proofs.Tests.{or_says, says_or}
use Rattle.fills.proofs.Marking.{equal-same}
use Rattle.columns.specs.Columns.{lesser, greater, joined, least, greatest, run}
use Rattle.columns.proofs.Extremes.{Picks, picks_lesser, picks_greater, ge_ℤ}
use Rattle.columns.proofs.Runs.{run-first, run_is}

-- a number of a type is from its lowest to its highest
from_lowest : (h : ℕ) (x : ℤ) → mag x < h → T (le_z (neg_ℤ (pos h)) x)
from_lowest zero x l = absurd (omega arith)
from_lowest (suc h) (pos n) l = tt
from_lowest (suc h) (negsuc n) l = omega (arith, le→leb)

to-highest : (h : ℕ) (x : ℤ) → mag x < h → T (le_z x (pos (h - 1)))
to-highest h (pos n) l = omega (arith, le→leb)
to-highest h (negsuc n) l = tt

none_marked : (size : ℕ) (f : ℕ → ℤ) (n a : ℕ) → ((k : ℕ) → a ≤ k → k < a + n → at_rail size (f k) ≡ false) → mark_count_of size (map f (up_from a n)) ≡ 0
unfolding up_from mark_count_of
none_marked size f zero a h = refl
none_marked size f (suc n) a h =
    ap (λ (b : Bool). mark_number b + mark_count_of size (map f (up_from (suc a) n))) (h a (omega arith) (omega arith))
    ∙ ap (λ (m : ℕ). 0 + m) (none_marked size f n (suc a) (λ k p q. h k (omega arith) (omega arith)))

module _ (size : ℕ) (f : ℕ → ℤ) (typed : (k : ℕ) → mag (f k) < 256 ^ size / 2) (a b : ℕ) (l : a < b) where
  -- a sample at the end of its type is the least, or the greatest
  same : (op : ℤ → ℤ → ℤ) (R : ℤ → ℤ → Bool) (p : Picks op R) (k : ℕ) → a ≤ k → k < b → ((x : ℤ) → mag x < 256 ^ size / 2 → T (R (f k) x)) → f k ≡ joined op (run f a b)
  same op R p k h i e =
      let j = run_is f op R p a b l in
      p.both (f k) (joined op (run f a b)) (e (joined op (run f a b)) (subst (λ (x : ℤ). mag x < 256 ^ size / 2) j.3 (typed j.0))) (run-first f op R p a b k h i)

  either : (k : ℕ) → a ≤ k → k < b → at_rail size (f k) ≡ true → (at_rail size (least (run f a b)) ≡ true) ⊎ (at_rail size (greatest (run f a b)) ≡ true)
  either k h i e = or_says (equal (f k) (lowest size)) (equal (f k) (highest size)) at_least at-greatest (unfold at_rail in e)
    where
      at_least : equal (f k) (lowest size) ≡ true → at_rail size (least (run f a b)) ≡ true
      at_least q =
          let r : f k ≡ lowest size = equal-same (f k) (lowest size) q in
          subst (λ (x : ℤ). at_rail size x ≡ true) (same lesser le_z picks_lesser k h i (λ x m. subst (λ (y : ℤ). T (le_z y x)) (sym r) (from_lowest (256 ^ size / 2) x m))) e

      at-greatest : equal (f k) (highest size) ≡ true → at_rail size (greatest (run f a b)) ≡ true
      at-greatest q =
          let r : f k ≡ highest size = equal-same (f k) (highest size) q in
          subst (λ (x : ℤ). at_rail size x ≡ true) (same greater ge_ℤ picks_greater k h i (λ x m. subst (λ (y : ℤ). T (le_z x y)) (sym r) (to-highest (256 ^ size / 2) x m))) e

  pub none_there : at_rail size (least (run f a b)) || at_rail size (greatest (run f a b)) ≡ false → 0 ≡ mark_count_of size (run f a b)
  none_there n = sym (none_marked size f (b - a) a (λ k h i. go (at_rail size (f k)) k refl h (omega arith)))
    where
      go : (t : Bool) (k : ℕ) → at_rail size (f k) ≡ t → a ≤ k → k < b → at_rail size (f k) ≡ false
      go false k e h i = e
      go true k e h i = absurd (true≢false (sym (says_or (at_rail size (least (run f a b))) (at_rail size (greatest (run f a b))) (λ x. x) (λ x. x) (either k h i e)) ∙ n))
