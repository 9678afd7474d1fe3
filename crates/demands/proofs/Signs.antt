-- Signed numbers of eight bytes that a call for C left in a slice (`signed_in`): samples are read back as they were (`signed-read`).
use mathlib.Core.Path.{◌≡◌, sym, ap, ◌∙◌}
use mathlib.Core.List.{List, map}
use Prim.Native.Nat.{ℕ, zero, suc, ◌/◌, ◌^◌, ◌≤◌}
use native.Mathlib.Nat.{lt_of_lt_of_le}
use native.Mathlib.Omega.{arith}
use lib.Dec.{lit≤}
use lib.IntN.{ℤ}
use lib.ListN.{length, length-map}
use Rattle.rules.specs.Numbers.{signed, unsigned, EachFits, numbers, signed_bytes, splice}
use Rattle.rules.proofs.Twos.{all-below, all_back}
use Rattle.tessarquin.proofs.Writing.{numbers-read}

-- the first n signed numbers in a slice of bytes
abbrev pub signed_in : ℕ → List ℕ → List ℤ
signed_in n left = map (signed 8) (numbers 0 8 n left)

-- a number of at most two bytes has eight
half : (w : ℕ) → w ≤ 2 → 256 ^ w / 2 ≤ 256 ^ 8 / 2
half zero h = lit≤ tt
half (suc zero) h = lit≤ tt
half (suc (suc zero)) h = lit≤ tt
half (suc (suc (suc w))) h = absurd (omega arith)

pub signed-read : (w : ℕ) (zs : List ℤ) (n : ℕ) (slice : List ℕ) → w ≤ 2 → length zs ≡ n → EachFits w zs → signed_in n (splice slice 0 (signed_bytes zs)) ≡ zs
signed-read w zs n slice h e f =
    let wide : EachFits 8 zs = λ q l. lt_of_lt_of_le (f q l) (half w h) in
    ap (λ (k : ℕ). signed_in k (splice slice 0 (signed_bytes zs))) (sym (length-map zs (unsigned 8) ∙ e))
    ∙ ap (map (signed 8)) (numbers-read (map (unsigned 8) zs) slice (all-below 8 zs (omega arith) wide)) ∙ all_back 8 zs (omega arith) wide
