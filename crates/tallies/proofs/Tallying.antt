-- A tally goes on behind what it has (`seen_next`, `spanned_next`), starts from nothing (`seen_none`) and with a column of none (`seen_fresh`,
-- `spanned_fresh`), and its numbers fit their types (`next_fits`). Of a column that is not empty its least and greatest are those of the samples
-- (`least_of`, `greatest_of`).
use mathlib.Core.Path.{◌≡◌, refl, sym, ap, ap₂, ◌∙◌, subst}
use Prim.Native.Nat.{ℕ, suc, ◌+◌, ◌-◌, ◌^◌, ◌≤◌, ◌<◌}
use native.Mathlib.Nat.{mul-le-mul_right}
use native.Mathlib.Omega.{arith}
use mathlib.Core.Bool.{Bool, true, false, cond}
use mathlib.Core.List.{List, ◌∷◌}
use lib.Dec.{T, le→leb}
use lib.IntN.{ℤ, pos, negsuc}
use lib.Signed.{le_z, lt_z, mag, le_z_yes, lt_z_yes, clash_ℤ}
use Rattle.rules.specs.Points.{mark_count_of}
use Rattle.rules.proofs.Marks.{marks_append, marks_few}
use Rattle.columns.specs.Columns.{lesser, greater, joined, least, greatest, run}
use Rattle.columns.proofs.Order.{le_ℤ_trans}
use Rattle.columns.proofs.Extremes.{Picks, picks_lesser, picks_greater, ge_ℤ, joined_append, joined-bound, joined-first}
use Rattle.columns.proofs.Runs.{run_length, run_at, run_none, run_join, run_is}
use Rattle.tallies.specs.declared.Tally.{Tally}
use Rattle.tallies.specs.declared.extents.Extent.{Extent}
use Rattle.tallies.specs.Tallies.{heights, extent_of, nothing, fresh, together, Seen, Spanned}
use Rattle.tallies.proofs.Heights.{Words, heights_append, heights_few}

-- ---- of samples of 16 bits the least is at most 32,767 and the greatest at least −32,768

low-bound : (z : ℤ) → mag z < 2 ^ 15 → T (le_z z (pos 32767))
low-bound (pos n) h = omega (arith, le→leb)
low-bound (negsuc n) h = tt

high-bound : (z : ℤ) → mag z < 2 ^ 15 → T (le_z (negsuc 32767) z)
high-bound (pos n) h = tt
high-bound (negsuc n) h = omega (arith, le→leb)

module _ (f : ℕ → ℤ) (s : Words f) (a b : ℕ) (l : a < b) where
  word : (op : ℤ → ℤ → ℤ) (R : ℤ → ℤ → Bool) → Picks op R → mag (joined op (run f a b)) < 2 ^ 15
  word op R p = let k = run_is f op R p a b l in subst (λ (z : ℤ). mag z < 2 ^ 15) k.3 (s k.0)

  pub least_of : least (pos 32767 ∷ run f a b) ≡ least (run f a b)
  least_of = joined-bound lesser le_z picks_lesser (pos 32767) (run f a b) (omega (arith, run_length f a b)) (low-bound (least (run f a b)) (word lesser le_z picks_lesser))

  pub greatest_of : greatest (negsuc 32767 ∷ run f a b) ≡ greatest (run f a b)
  greatest_of = joined-bound greater ge_ℤ picks_greater (negsuc 32767) (run f a b) (omega (arith, run_length f a b)) (high-bound (greatest (run f a b)) (word greater ge_ℤ picks_greater))

-- ---- the start

pub seen_none : (size : ℕ) (f : ℕ → ℤ) → Seen size f 0 nothing
unfolding heights mark_count_of joined
seen_none size f = record {
  heights_are = ap heights (sym (run_none f 0));
  marks_are = ap (mark_count_of size) (sym (run_none f 0));
  top_is = ap (λ (xs : List ℤ). greatest (negsuc 32767 ∷ xs)) (sym (run_none f 0));
  below = λ j h. absurd (omega arith);
  within = omega arith;
}

pub seen_fresh : (size : ℕ) (f : ℕ → ℤ) (b : ℕ) (t : Tally) → Seen size f b t → Seen size f b (fresh t)
seen_fresh size f b t s = record { heights_are = s.heights_are; marks_are = s.marks_are; top_is = s.top_is; below = s.below; within = s.within }

pub spanned_fresh : (f : ℕ → ℤ) (a : ℕ) (t : Tally) → Spanned f a a (fresh t)
unfolding joined
spanned_fresh f a t = record {
  least_is = ap (λ (xs : List ℤ). least (pos 32767 ∷ xs)) (sym (run_none f a));
  greatest_is = ap (λ (xs : List ℤ). greatest (negsuc 32767 ∷ xs)) (sym (run_none f a));
}

-- ---- with the points from i up to e more

module _ (f : ℕ → ℤ) (i e : ℕ) (l : i < e) where
  -- what stands first of a run that begins with u, and goes on
  pub first_next : (op : ℤ → ℤ → ℤ) (R : ℤ → ℤ → Bool) → Picks op R → (u : ℤ) (c : ℕ) → c ≤ i → (x y : ℤ) → x ≡ joined op (u ∷ run f c i) → y ≡ joined op (run f i e) → op x y ≡ joined op (u ∷ run f c e)
  first_next op R p u c h x y ex ey =
      ap₂ op ex ey ∙ sym (joined_append op R p (u ∷ run f c i) (run f i e) (omega arith) (omega (arith, run_length f i e)))
      ∙ ap (λ (xs : List ℤ). joined op (u ∷ xs)) (run_join f c i e h (omega (arith, l)))

  module _ (t : Tally) (x : Extent) (q : x ≡ extent_of (run f i e)) where
    pub spanned_next : (c m at : ℕ) → c ≤ i → Spanned f c i t → Spanned f c e (together t x m at)
    spanned_next c m at h s = record {
      least_is = first_next lesser le_z picks_lesser (pos 32767) c h t.least x.least s.least_is (ap (λ (y : Extent). y.least) q);
      greatest_is = first_next greater ge_ℤ picks_greater (negsuc 32767) c h t.greatest x.greatest s.greatest_is (ap (λ (y : Extent). y.greatest) q);
    }

    module _ (size m : ℕ) (n : m ≡ mark_count_of size (run f i e)) (s : Seen size f i t) where
      heights_next : t.heights + x.heights ≡ heights (run f 0 e)
      heights_next =
          ap₂ (λ (u v : ℕ). u + v) s.heights_are (ap (λ (y : Extent). y.heights) q) ∙ sym (heights_append (run f 0 i) (run f i e))
          ∙ ap heights (run_join f 0 i e (omega arith) (omega (arith, l)))

      marks_next : t.marks + m ≡ mark_count_of size (run f 0 e)
      marks_next =
          ap₂ (λ (u v : ℕ). u + v) s.marks_are n ∙ sym (marks_append size (run f 0 i) (run f i e))
          ∙ ap (mark_count_of size) (run_join f 0 i e (omega arith) (omega (arith, l)))

      -- no sample before point i is above the greatest so far
      at-most : (j : ℕ) → j < i → T (le_z (f j) t.top)
      at-most j h =
          subst (λ (z : ℤ). T (le_z (f j) z)) (sym s.top_is)
          (subst (λ (z : ℤ). T (le_z z (greatest (negsuc 32767 ∷ run f 0 i)))) (run_at f 0 i j (omega arith) h)
          (joined-first greater ge_ℤ picks_greater (negsuc 32767 ∷ run f 0 i) (suc (j - 0)) (omega (arith, run_length f 0 i))))

      abbrev top : ℤ
      top = greater t.top x.greatest

      -- none of them is the greatest of more, where that is above it; and none that was below it before
      above_all : T (lt_z t.top x.greatest) → (j : ℕ) → j < i → le_z top (f j) ≡ false
      above_all g j h = go (le_z top (f j)) refl
        where
          go : (b : Bool) → le_z top (f j) ≡ b → le_z top (f j) ≡ false
          go false r = r
          go true r =
              clash_ℤ (lt_z_yes {a = t.top} {b = x.greatest} g)
              (le_z_yes (le_ℤ_trans x.greatest top t.top (picks_greater.right t.top x.greatest) (le_ℤ_trans top (f j) t.top (subst T (sym r) tt) (at-most j h))))

      still_above : (j : ℕ) → le_z t.top (f j) ≡ false → le_z top (f j) ≡ false
      still_above j g = go (le_z top (f j)) refl
        where
          go : (b : Bool) → le_z top (f j) ≡ b → le_z top (f j) ≡ false
          go false r = r
          go true r = absurd (subst T g (le_ℤ_trans t.top top (f j) (picks_greater.left t.top x.greatest) (subst T (sym r) tt)))

      pub seen_next : Seen size f e (together t x m i)
      seen_next = record {
        heights_are = heights_next;
        marks_are = marks_next;
        top_is = first_next greater ge_ℤ picks_greater (negsuc 32767) 0 (omega arith) t.top x.greatest s.top_is (ap (λ (y : Extent). y.greatest) q);
        below = go (lt_z t.top x.greatest) (λ h. h);
        within = reach (lt_z t.top x.greatest);
      }
        where
          go : (b : Bool) → (T b → T (lt_z t.top x.greatest)) → (j : ℕ) → j < cond b i t.near → le_z top (f j) ≡ false
          go true h j k = above_all (h tt) j k
          go false h j k = still_above j (s.below j k)

          reach : (b : Bool) → cond b i t.near ≤ e
          reach true = omega (arith, l)
          reach false = omega (arith, l, s.within)

      pub next_fits : Words f → e ≤ 16777216 → (t.heights + x.heights < 2 ^ 64) × (t.marks + m < 2 ^ 32)
      next_fits w k = (
        subst (λ (n : ℕ). n < 2 ^ 64) (sym heights_next) (omega (arith, heights_few f w 0 e, mul-le-mul_right 65535 k)),
        subst (λ (n : ℕ). n < 2 ^ 32) (sym marks_next) (omega (arith, marks_few size f 0 (e - 0), k)),
      )
