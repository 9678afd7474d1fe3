-- A header's answer by the tests of rule 1 in the order in which the code judges them: two bytes, `#` and d, d bytes more, and that these are digits.
use mathlib.Core.Path.{◌≡◌, refl}
use mathlib.Core.Bool.{Bool, true, false}
use mathlib.Core.List.{List}
use Rattle.std.specs.Prelude.{Some, None}
use Rattle.std.proofs.lemmas.Bool.Decides.{nat_tests}
use Prim.Native.Nat.{ℕ, ◌^◌, ◌≤◌, ◌<◌}
use native.Mathlib.Nat.{pow-le-pow_right}
use native.Mathlib.Omega.{arith}
use lib.ListN.{length, get_or, take, drop}
use Rattle.rules.specs.Rules.{all, every?, digit?, digit_count, stated, payload_start, frame}
use Rattle.rules.proofs.Tests.{all_each}
use Rattle.rules.proofs.Frames.{digits_say}
use Rattle.frames.specs.declared.Header.{Header}
use Rattle.frames.specs.Headers.{framed_as, header_by, header_of}

module _ (s : List ℕ) where
  pub unframed_short : length s < 2 → None ≡ header_of s
  unfolding header_of frame
  unframed_short h = grind (arith, nat_tests)

  pub unframed_hash : (get_or s 0 0 ≡ 35 → ⊥) → None ≡ header_of s
  unfolding header_of frame
  unframed_hash h = grind (arith, nat_tests)

  pub unframed_low : get_or s 1 0 < 49 → None ≡ header_of s
  unfolding header_of frame
  unframed_low h = grind (arith, nat_tests)

  pub unframed_high : 57 < get_or s 1 0 → None ≡ header_of s
  unfolding header_of frame
  unframed_high h = grind (arith, nat_tests)

  pub unframed_end : length s < payload_start s → None ≡ header_of s
  unfolding header_of frame
  unframed_end h = grind (arith, nat_tests)

  pub framed-digits : get_or s 0 0 ≡ 35 → 49 ≤ get_or s 1 0 → get_or s 1 0 ≤ 57 → payload_start s ≤ length s
      → header_by (every? digit? (take (digit_count s) (drop 2 s))) s ≡ header_of s
  unfolding header_of frame
  framed-digits h low high e = grind (arith, nat_tests)

-- ---- what a header says to those who asked for it: rule 1 is broken, or kept and these are its numbers

module _ (s : List ℕ) where
  unframed_by : (b : Bool) → None ≡ header_by b s → b ≡ false
  unframed_by true e = cc
  unframed_by false e = refl

  framed_by : (h : Header) (b : Bool) → Some h ≡ header_by b s → (b ≡ true) × (h ≡ framed_as s)
  framed_by h true e = (refl, cc)
  framed_by h false e = cc

  pub unframed_says : None ≡ header_of s → all (frame s) ≡ false
  unfolding header_of
  unframed_says e = unframed_by (all (frame s)) e

  pub framed-says : (h : Header) → Some h ≡ header_of s → (all (frame s) ≡ true) × (h ≡ framed_as s)
  unfolding header_of
  framed-says h e = framed_by h (all (frame s)) e

-- where rule 1 is kept the two numbers are small
pub framed-small : (s : List ℕ) → all (frame s) ≡ true → (payload_start s ≤ 11) × (stated s < 1000000000)
framed-small s k =
    let d = digits_say s (all_each (frame s) k) in
    let p : 10 ^ digit_count s ≤ 10 ^ 9 = pow-le-pow_right (omega arith) {i = digit_count s} {j = 9} d.0 in
    (omega (arith, d.0), omega (arith, d.1))
