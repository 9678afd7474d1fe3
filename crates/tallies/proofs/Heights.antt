-- How far samples are above −32,768: of two runs together (`heights_append`), of one more, by its bytes (`bytes_next`), bounded by how many there are
-- (`heights_few`), as the code works one out (`height_apart`), and the sum of the samples from it (`sum-from`).
use mathlib.Core.Path.{◌≡◌, refl, sym, ap, ap₂, ◌∙◌}
use Prim.Native.Nat.{ℕ, zero, suc, ◌+◌, ◌-◌, ◌*◌, ◌/◌, ◌%◌, ◌^◌, ◌≤◌, ◌<◌}
use native.Mathlib.Nat.{add_assoc, zero-add, suc-mul}
use native.Mathlib.Omega.{arith}
use mathlib.Core.List.{List, [], ◌∷◌, ◌++◌, map}
use mathlib.Core.Bool.{Bool, cond}
use lib.IntN.{ℤ, pos, negsuc, nat_abs, ◌+ℤ◌, ◌-ℤ◌, +ℤ_assoc, +ℤ_comm, +ℤ-neg_ℤ_cancel}
use lib.Signed.{mag}
use mir.Syntax.{w16}
use mir.Val.{SFits, to_z, of_z}
use mir.ValLaws.{to_z-of_z}
use borrow.Author.Tests.{le-ltb}
use Rattle.rules.specs.Numbers.{up_from}
use Rattle.columns.specs.Columns.{sum_of, run}
use Rattle.columns.proofs.Runs.{run-one, run_join}
use Rattle.tallies.specs.Tallies.{height, heights}

-- every sample is a number of 16 bits
abbrev pub Words : (ℕ → ℤ) → Type 0
Words f = (k : ℕ) → mag (f k) < 2 ^ 15

pub height-most : (z : ℤ) → mag z < 2 ^ 15 → height z < 65536
unfolding height
height-most (pos n) h = omega (arith, h)
height-most (negsuc n) h = omega arith

pub heights_append : (xs ys : List ℤ) → heights (xs ++ ys) ≡ heights xs + heights ys
unfolding heights
heights_append [] ys = sym (zero-add (heights ys))
heights_append (x ∷ xs) ys = ap (λ (n : ℕ). height x + n) (heights_append xs ys) ∙ sym (add_assoc (height x) (heights xs) (heights ys))

module _ (f : ℕ → ℤ) (s : Words f) where
  few : (n a : ℕ) → heights (map f (up_from a n)) ≤ n * 65535
  unfolding heights up_from
  few zero a = omega arith
  few (suc n) a = omega (arith, few n (suc a), height-most (f a) (s a), suc-mul n 65535)

  pub heights_few : (a b : ℕ) → heights (run f a b) ≤ (b - a) * 65535
  heights_few a b = few (b - a) a

-- of one sample more, by its low and its high byte
pub bytes_next : (f : ℕ → ℤ) (a k low high h : ℕ) → a ≤ k → high * 256 + low ≡ heights (run f a k) → h ≡ height (f k) → (high + h / 256) * 256 + (low + h % 256) ≡ heights (run f a (k + 1))
unfolding heights
bytes_next f a k low high h l e q =
    let u : h / 256 * 256 + h % 256 ≡ h = omega arith in
    let v : height (f k) + 0 ≡ h = omega (arith, q) in
    let r : (high + h / 256) * 256 + (low + h % 256) ≡ high * 256 + low + (height (f k) + 0) = omega (arith, u, v) in
    r ∙ ap (λ (n : ℕ). n + (height (f k) + 0)) e ∙ sym (heights_append (run f a k) (f k ∷ []))
    ∙ ap heights (ap (λ (ys : List ℤ). run f a k ++ ys) (sym (run-one f k)) ∙ run_join f a k (k + 1) l (omega arith))

-- ---- the sum

height_is : (z : ℤ) → mag z < 2 ^ 15 → pos (height z) ≡ z +ℤ pos 32768
unfolding height
height_is (pos n) h = refl
height_is (negsuc n) h =
    let e : 32767 - n ≡ 32768 - suc n = omega arith in
    ap pos e ∙ sym (ap (λ (t : Bool). cond t (negsuc (suc n - suc 32768)) (pos (32768 - suc n))) (le-ltb 32768 (suc n) (omega (arith, h))))

-- as the code works it out
pub height_apart : (z : ℤ) → SFits w16 z → nat_abs (to_z w16 (of_z w16 z) -ℤ negsuc 32767) ≡ height z
height_apart z h = ap (λ (x : ℤ). nat_abs (x -ℤ negsuc 32767)) (to_z-of_z w16 z h) ∙ ap nat_abs (sym (height_is z h.sfits))

-- two sums of two, taken the other way
across : (a b c d : ℤ) → a +ℤ b +ℤ (c +ℤ d) ≡ a +ℤ c +ℤ (b +ℤ d)
across a b c d =
    +ℤ_assoc a b (c +ℤ d)
    ∙ ap (λ (x : ℤ). a +ℤ x) (sym (+ℤ_assoc b c d) ∙ ap (λ (x : ℤ). x +ℤ d) (+ℤ_comm b c) ∙ +ℤ_assoc c b d)
    ∙ sym (+ℤ_assoc a c (b +ℤ d))

module _ (f : ℕ → ℤ) (s : Words f) where
  above : (n a : ℕ) → pos (heights (map f (up_from a n))) ≡ sum_of (map f (up_from a n)) +ℤ pos (n * 32768)
  unfolding heights sum_of up_from
  above zero a = refl
  above (suc n) a =
      let e : 32768 + n * 32768 ≡ suc n * 32768 = omega arith in
      ap₂ (λ (x y : ℤ). x +ℤ y) (height_is (f a) (s a)) (above n (suc a)) ∙ across (f a) (pos 32768) (sum_of (map f (up_from (suc a) n))) (pos (n * 32768))
      ∙ ap (λ (x : ℕ). f a +ℤ sum_of (map f (up_from (suc a) n)) +ℤ pos x) e

  pub sum-from : (m : ℕ) → pos (heights (run f 0 m)) -ℤ pos (m * 32768) ≡ sum_of (run f 0 m)
  sum-from m =
      let e : m - 0 ≡ m = omega arith in
      ap (λ (x : ℤ). x -ℤ pos (m * 32768)) (above (m - 0) 0 ∙ ap (λ (n : ℕ). sum_of (run f 0 m) +ℤ pos (n * 32768)) e) ∙ +ℤ-neg_ℤ_cancel (sum_of (run f 0 m)) (pos (m * 32768))
