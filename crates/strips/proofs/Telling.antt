-- What a tally tells of all samples: where columns end (`ends`), the sum (`sum_is`), which fits 64 bits (`sum_fits`), and the first point that holds the
-- greatest (`peak_is`), which is not looked for before it can be (`none_before`).
use mathlib.Core.Path.{◌≡◌, refl, sym, ap, ap₂, ◌∙◌, subst}
use Prim.Native.Nat.{ℕ, suc, ◌+◌, ◌-◌, ◌*◌, ◌^◌, ◌≤◌, ◌<◌}
use native.Mathlib.Nat.{le_trans, lt_of_le_of_lt, mul-le-mul_left, mul-le-mul_right}
use native.Mathlib.Numerals.{add-one}
use native.Mathlib.Omega.{arith}
use mathlib.Core.Bool.{Bool, true, false, ◌&&◌, false≢true}
use lib.Dec.{T, ltb, lit<}
use lib.IntN.{ℤ, pos, nat_abs, ◌-ℤ◌}
use lib.ListN.{get_or}
use lib.Signed.{le_z, mag, nat_abs-le}
use mir.Syntax.{w64}
use mir.Val.{SFits, to_z}
use mir.ValLaws.{to_z_pos}
use borrow.Author.Tests.{ltb-true, ltb-false}
use Rattle.rules.specs.Numbers.{equal}
use Rattle.rules.proofs.Thin.{get_or-up_from}
use Rattle.rules.proofs.Tests.{and_true, and_intro}
use Rattle.fills.proofs.Sampling.{mag_le}
use Rattle.fills.proofs.Marking.{equal_refl, equal-same}
use Rattle.levels.specs.Levels.{between}
use Rattle.crossings.specs.Answers.{First}
use Rattle.crossings.proofs.Firsts.{found_at, agreeing}
use Rattle.columns.specs.Columns.{greater, greatest, sum_of, run, start}
use Rattle.columns.proofs.Order.{le_ℤ_refl, le_ℤ_antisymm}
use Rattle.columns.proofs.Extremes.{picks_greater, ge_ℤ}
use Rattle.columns.proofs.Sums.{sum-small}
use Rattle.columns.proofs.Runs.{run_length, run_is}
use Rattle.columns.proofs.Columns.{start_grows, start_mono, start-end}
use Rattle.tallies.specs.declared.Tally.{Tally}
use Rattle.tallies.specs.Tallies.{heights, Seen}
use Rattle.tallies.proofs.Heights.{Words, heights_few, sum-from}
use Rattle.tallies.proofs.Tallying.{greatest_of}
use Rattle.strips.specs.Strips.{or_zero, peak_of}

-- ---- columns

-- a product of two numbers of points
pub product_fits : (q m : ℕ) → q ≤ 16777216 → m ≤ 16777216 → q * m < 2 ^ 64
product_fits q m h l = lt_of_le_of_lt (le_trans (mul-le-mul_right m h) (mul-le-mul_left 16777216 l)) (lit< tt)

-- column q starts before it ends, and ends with the last point at the latest
pub ends : (m w q a b : ℕ) → 1 ≤ w → w ≤ m → q < w → a ≡ start m w q → b ≡ start m w (q + 1) → (a < b) × (b ≤ m) × (b ≡ start m w (suc q))
ends m w q a b p l h ea eb =
    let n : b ≡ start m w (suc q) = eb ∙ ap (start m w) (add-one q) in
    (omega (arith, ea, n, start_grows m w p l q), omega (arith, n, start_mono m w p (suc q) w h, start-end m w p), n)

-- ---- the sum

module _ (f : ℕ → ℤ) (m : ℕ) (l : m ≤ 16777216) (s : (k : ℕ) → k < m → mag (f k) < 2 ^ 15) where
  at : (k : ℕ) → k < m → get_or (run f 0 m) k (pos 0) ≡ f k
  at k h = let e : 0 + k ≡ k = omega arith in get_or-up_from f 0 (m - 0) k (pos 0) (omega arith) ∙ ap f e

  most : nat_abs (sum_of (run f 0 m)) ≤ 2 ^ 39
  most =
      le_trans (sum-small (2 ^ 15) (run f 0 m) (λ k h. let i : k < m = omega (arith, h, run_length f 0 m) in subst (λ (x : ℤ). nat_abs x ≤ 2 ^ 15) (sym (at k i)) (nat_abs-le (f k) (s k i))))
      (omega (arith, run_length f 0 m, l, mul-le-mul_right (2 ^ 15) l))

  pub sum_fits : SFits w64 (sum_of (run f 0 m))
  sum_fits = record { sfits = lt_of_le_of_lt (le_trans (mag_le (sum_of (run f 0 m))) most) (lit< tt) }

module _ (f : ℕ → ℤ) (s : Words f) (m : ℕ) (l : m ≤ 16777216) where
  module _ (h : ℕ) (e : h ≡ heights (run f 0 m)) where
    pub heights-most : h < 2 ^ 63
    heights-most = lt_of_le_of_lt (le_trans (subst (λ (n : ℕ). n ≤ m * 65535) (sym e) (let z : m - 0 ≡ m = omega arith in subst (λ (n : ℕ). heights (run f 0 m) ≤ n * 65535) z (heights_few f s 0 m))) (mul-le-mul_right 65535 l)) (lit< tt)

    product_most : m * 32768 < 2 ^ 63
    product_most = lt_of_le_of_lt (mul-le-mul_right 32768 l) (lit< tt)

    pub sum_is : to_z w64 h -ℤ to_z w64 (m * 32768) ≡ sum_of (run f 0 m)
    sum_is =
        ap₂ (λ (x y : ℤ). x -ℤ y) (to_z_pos w64 h heights-most) (to_z_pos w64 (m * 32768) product_most) ∙ ap (λ (n : ℕ). pos n -ℤ pos (m * 32768)) e ∙ sum-from f s m

-- ---- the peak

holds : (b : Bool) → T b → b ≡ true
holds true h = refl
holds false h = absurd h

-- from g up to g there is g alone
between_is : (g z : ℤ) → between g g z ≡ equal z g
unfolding between
between_is g z = go (equal z g) refl (le_z g z && le_z z g) refl
  where
    go : (b : Bool) → equal z g ≡ b → (c : Bool) → le_z g z && le_z z g ≡ c → le_z g z && le_z z g ≡ equal z g
    go true e c h =
        let r : z ≡ g = equal-same z g e in
        let t : le_z g g ≡ true = holds (le_z g g) (le_ℤ_refl g) in
        ap (λ (x : ℤ). le_z g x && le_z x g) r ∙ and_intro (le_z g g) (le_z g g) t t ∙ sym e
    go false e false h = h ∙ sym e
    go false e true h =
        let p = and_true (le_z g z) (le_z z g) h in
        let r : z ≡ g = le_ℤ_antisymm z g (subst T (sym p.1) tt) (subst T (sym p.0) tt) in
        absurd (false≢true (sym e ∙ ap (λ (x : ℤ). equal x g) r ∙ equal_refl g))

-- none before `near` is the greatest
pub none_before : (top x z : ℤ) → x ≡ top → le_z top z ≡ false → between x x z ≡ false
unfolding between
none_before top x z e h = ap (λ (y : ℤ). le_z y z && le_z z y) e ∙ ap (λ (b : Bool). b && le_z z top) h

module _ (size : ℕ) (f : ℕ → ℤ) (s : Words f) (m : ℕ) (p : 1 ≤ m) (t : Tally) (seen : Seen size f m t) (x : ℤ) (e : x ≡ t.top) (r : ℕ) (q : First (λ k. between x x (f k)) m r) where
  abbrev g : ℤ
  g = greatest (run f 0 m)

  top_is : x ≡ g
  top_is = e ∙ seen.top_is ∙ greatest_of f s 0 m p

  the_first : First (λ k. equal (f k) g) m r
  the_first = agreeing (λ k. between x x (f k)) (λ k. equal (f k) g) m r (λ j h. ap (λ (y : ℤ). between y y (f j)) top_is ∙ between_is g (f j)) q

  inside : r < m
  inside = go (ltb r m) refl (run_is f greater ge_ℤ picks_greater 0 m p)
    where
      go : (b : Bool) → ltb r m ≡ b → (k : ℕ) × (0 ≤ k) × (k < m) × (f k ≡ g) → r < m
      go true h k = ltb-true r m h
      go false h k = absurd (false≢true (sym (the_first.fails k.0 (omega (arith, k.2, ltb-false r m h))) ∙ subst (λ (z : ℤ). equal z g ≡ true) (sym k.3) (equal_refl g)))

  pub peak_is : r ≡ peak_of f m
  unfolding peak_of
  peak_is = sym (ap or_zero (found_at (λ k. equal (f k) g) m r the_first inside))
