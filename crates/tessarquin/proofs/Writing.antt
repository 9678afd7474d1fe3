-- Numbers of eight bytes in a slice: those written one behind the other are one write (`numbers_then`), and they are read back (`numbers-read`).
use mathlib.Core.Path.{◌≡◌, sym, ap, ◌∙◌}
use mathlib.Core.List.{List, [], ◌∷◌, ◌++◌, flatten, append-nil, append_assoc}
use Prim.Native.Nat.{ℕ, ◌+◌, ◌*◌, ◌^◌, ◌≤◌, ◌<◌}
use native.Mathlib.Numerals.{add-one}
use native.Mathlib.Omega.{arith}
use lib.ListN.{length, take, drop, get_or}
use lib.Seq.{take_at, drop_at, take-suc, drop-drop, length-take-le}
use Rattle.rules.specs.Numbers.{Below, number, bytes, pieces, numbers, all_bytes, splice}
use Rattle.rules.proofs.Numbers.{number-bytes, numbers-all_bytes, length-bytes, length-all_bytes, all_bytes_append}
use Rattle.rules.proofs.Slices.{numbers-take}
use Rattle.copies.proofs.Laws.{then}

-- ---- one write behind another

-- one number alone
pub one_number : (n : ℕ) → bytes 0 8 n ≡ all_bytes 0 8 (n ∷ [])
unfolding flatten
one_number n = sym (append-nil (bytes 0 8 n))

module _ (l : List ℕ) (at : ℕ) where
  -- numbers right behind n others
  pub numbers_then : (n : ℕ) (xs ys : List ℕ) → length xs ≡ n → at + n * 8 ≤ length l → splice (splice l at (all_bytes 0 8 xs)) (at + n * 8) (all_bytes 0 8 ys) ≡ splice l at (all_bytes 0 8 (xs ++ ys))
  numbers_then n xs ys e h =
      then l at (n * 8) (all_bytes 0 8 xs) (all_bytes 0 8 ys) (length-all_bytes 0 8 xs ∙ ap (λ (k : ℕ). k * 8) e) h ∙ ap (splice l at) (sym (all_bytes_append 0 8 xs ys))

  -- one number right behind n others
  pub number_then : (n : ℕ) (xs : List ℕ) (y : ℕ) → length xs ≡ n → at + n * 8 ≤ length l → splice (splice l at (all_bytes 0 8 xs)) (at + n * 8) (bytes 0 8 y) ≡ splice l at (all_bytes 0 8 (xs ++ (y ∷ [])))
  number_then n xs y e h = ap (splice (splice l at (all_bytes 0 8 xs)) (at + n * 8)) (one_number y) ∙ numbers_then n xs (y ∷ []) e h

  -- a turn of a loop that writes the numbers of a list, one at a time
  pub number_next : (ns : List ℕ) (i : ℕ) → i < length ns → at + i * 8 ≤ length l → splice (splice l at (all_bytes 0 8 (take i ns))) (at + i * 8) (bytes 0 8 (get_or ns i 0)) ≡ splice l at (all_bytes 0 8 (take (i + 1) ns))
  number_next ns i b h =
      number_then i (take i ns) (get_or ns i 0) (length-take-le i ns (omega arith)) h ∙ ap (λ (k : List ℕ). splice l at (all_bytes 0 8 k)) (sym (take-suc ns i 0 b) ∙ ap (λ (k : ℕ). take k ns) (sym (add-one i)))

-- ---- what stands at the start of a slice that was written

-- the bytes themselves
pub front : (bs slice : List ℕ) (n : ℕ) → length bs ≡ n → take n (splice slice 0 bs) ≡ bs
front bs slice n e = take_at bs (drop (0 + length bs) slice) n e

-- the numbers that they are
pub numbers-read : (ns slice : List ℕ) → Below (256 ^ 8) ns → numbers 0 8 (length ns) (splice slice 0 (all_bytes 0 8 ns)) ≡ ns
numbers-read ns slice h =
    sym (numbers-take 0 8 (length ns) (length ns * 8) (splice slice 0 (all_bytes 0 8 ns)) (omega arith))
    ∙ ap (numbers 0 8 (length ns)) (front (all_bytes 0 8 ns) slice (length ns * 8) (length-all_bytes 0 8 ns)) ∙ numbers-all_bytes 0 8 ns h

-- the first of them alone (`numbers-before`), and what stands behind these (`numbers-behind`)
module _ (xs ys slice : List ℕ) where
  apart : splice slice 0 (all_bytes 0 8 (xs ++ ys)) ≡ all_bytes 0 8 xs ++ (all_bytes 0 8 ys ++ drop (length (xs ++ ys) * 8) slice)
  apart =
      let e : 0 + length (all_bytes 0 8 (xs ++ ys)) ≡ length (xs ++ ys) * 8 = omega (arith, length-all_bytes 0 8 (xs ++ ys)) in
      (λ i. all_bytes_append 0 8 xs ys i ++ drop (e i) slice)
      ∙ append_assoc (all_bytes 0 8 xs) (all_bytes 0 8 ys) (drop (length (xs ++ ys) * 8) slice)

  pub numbers-before : (n : ℕ) → length xs * 8 ≡ n → take n (splice slice 0 (all_bytes 0 8 (xs ++ ys))) ≡ all_bytes 0 8 xs
  numbers-before n e = ap (take n) apart ∙ take_at (all_bytes 0 8 xs) (all_bytes 0 8 ys ++ drop (length (xs ++ ys) * 8) slice) n (length-all_bytes 0 8 xs ∙ e)

  pub numbers-behind : (n : ℕ) → length xs * 8 ≡ n → drop n (splice slice 0 (all_bytes 0 8 (xs ++ ys))) ≡ all_bytes 0 8 ys ++ drop (length (xs ++ ys) * 8) slice
  numbers-behind n e = ap (drop n) apart ∙ drop_at (all_bytes 0 8 xs) (all_bytes 0 8 ys ++ drop (length (xs ++ ys) * 8) slice) n (length-all_bytes 0 8 xs ∙ e)

-- the last of them
pub last_read : (xs : List ℕ) (y n : ℕ) (slice : List ℕ) → length xs * 8 ≡ n → y < 256 ^ 8 → number 0 (take 8 (drop n (splice slice 0 (all_bytes 0 8 (xs ++ (y ∷ [])))))) ≡ y
last_read xs y n slice e h =
    let rest : List ℕ = drop (length (xs ++ (y ∷ [])) * 8) slice in
    ap (λ (l : List ℕ). number 0 (take 8 l)) (numbers-behind xs (y ∷ []) slice n e ∙ ap (λ (l : List ℕ). l ++ rest) (sym (one_number y)))
    ∙ ap (number 0) (take_at (bytes 0 8 y) rest 8 (length-bytes 0 8 y)) ∙ number-bytes 0 8 y h

-- two of them, and three
pub pair_read : (x y : ℕ) (slice : List ℕ) → Below (256 ^ 8) (x ∷ y ∷ [])
    → let l = splice slice 0 (all_bytes 0 8 (x ∷ y ∷ [])) in (number 0 (take 8 l) ≡ x) × (number 0 (take 8 (drop 8 l)) ≡ y)
unfolding pieces
pair_read x y slice h =
    let r = numbers-read (x ∷ y ∷ []) slice h in (ap (λ (l : List ℕ). get_or l 0 0) r, ap (λ (l : List ℕ). get_or l 1 0) r)

pub three_read : (x y z : ℕ) (slice : List ℕ) → Below (256 ^ 8) (x ∷ y ∷ z ∷ [])
    → let l = splice slice 0 (all_bytes 0 8 (x ∷ y ∷ z ∷ [])) in (number 0 (take 8 l) ≡ x) × (number 0 (take 8 (drop 8 l)) ≡ y) × (number 0 (take 8 (drop 16 l)) ≡ z)
unfolding pieces
three_read x y z slice h =
    let r = numbers-read (x ∷ y ∷ z ∷ []) slice h in
    let l : List ℕ = splice slice 0 (all_bytes 0 8 (x ∷ y ∷ z ∷ [])) in
    (ap (λ (l : List ℕ). get_or l 0 0) r, ap (λ (l : List ℕ). get_or l 1 0) r, ap (λ (u : List ℕ). number 0 (take 8 u)) (sym (drop-drop 8 8 l)) ∙ ap (λ (l : List ℕ). get_or l 2 0) r)
