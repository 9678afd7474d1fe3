-- A long of a good part's descriptor, as it is read from the slice: `long-read`.
use mathlib.Core.Path.{◌≡◌, sym, ap, ◌∙◌}
use Prim.Native.Nat.{ℕ, ◌+◌, ◌-◌, ◌≤◌, ◌<◌}
use native.Mathlib.Omega.{arith}
use mathlib.Core.List.{List}
use lib.ListN.{length, get_or, take, drop}
use Rattle.rules.specs.Numbers.{Bytes, number}
use Rattle.rules.specs.Template.{template, width_at}
use Rattle.rules.specs.Rules.{payload_start, refusal, opened}
use Rattle.rules.proofs.Opened.{sized-opened, payload_there, order_there}
use Rattle.copies.specs.Copies.{part}
use Rattle.parts.specs.Parts.{this}
use Rattle.parts.proofs.Standing.{reach, in_slice, byte_in}
use Rattle.parts.proofs.Tables.{long_there}

module _ (s : List ℕ) (at start : ℕ) (h : at < length s) (b : Bytes (this s at)) (z : refusal (this s at) ≡ 0) (e : start ≡ at + payload_start (this s at)) where
  pub descriptor_there : start + 346 ≤ length s
  descriptor_there = omega (arith, (sized-opened (this s at) b z).least, payload_there (this s at) b z, reach s at h)

  pub long-read : (k : ℕ) → width_at template k ≡ 4 → k + 4 ≤ 346 → number (get_or s (start + 34) 0) (take 4 (drop (start + k) s)) ≡ (opened (this s at)).head k
  long-read k w l =
      let p : List ℕ = this s at in
      let m : at + (payload_start p + 34) ≡ start + 34 = omega arith in
      let n : at + (payload_start p + k) ≡ start + k = omega arith in
      let long : 346 ≤ length p - payload_start p = omega (arith, (sized-opened p b z).least, payload_there p b z) in
      let o : get_or p (payload_start p + 34) 0 ≡ get_or s (start + 34) 0 = byte_in s at h (payload_start p + 34) (omega arith) ∙ ap (λ (i : ℕ). get_or s i 0) m in
      ap (number (get_or s (start + 34) 0)) (sym (in_slice s at h 4 (payload_start p + k) (omega arith) ∙ ap (λ (i : ℕ). part s i 4) n))
      ∙ long_there p b z (get_or s (start + 34) 0) k (sym o ∙ order_there p b z) w
