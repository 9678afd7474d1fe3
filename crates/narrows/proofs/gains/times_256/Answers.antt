-- The sign, and the rest doubled eight times, are the product's bits (`pattern_times256`).
use mathlib.Core.Path.{◌≡◌, refl, sym, ap₂, ◌∙◌}
use Prim.Native.Nat.{ℕ, ◌+◌, ◌*◌, ◌/◌, ◌%◌, ◌<◌}
use mathlib.Core.Bool.{Bool, true, false, cond}
use native.Mathlib.Omega.{arith}
use lib.Dec.{leb}
use borrow.Author.Tests.{ltb-true, leb-true, leb-false}
use Rattle.narrows.proofs.Doubles.{pattern_range, pattern_times256}
use Rattle.narrows.proofs.gains.times_256.Goals as goal

pub grow-requires : goal.grow-requires
grow-requires c = let n = c.args.gain in ltb-true (n % 2147483648) 2071986176 (sym (pattern_range n c.requires.gain_value) ∙ c.requires.gain_value_2)

-- the sign's bit by a division
sign : (n : ℕ) → n < 4294967296 → n / 2147483648 * 2147483648 ≡ cond (leb 2147483648 n) 2147483648 0
sign n h = go (leb 2147483648 n) refl
  where
    go : (d : Bool) → leb 2147483648 n ≡ d → n / 2147483648 * 2147483648 ≡ cond d 2147483648 0
    go true e = omega (arith, leb-true 2147483648 n e)
    go false e = omega (arith, leb-false 2147483648 n e)

pub returns : goal.returns
returns c =
    let n = c.args.gain in
    ap₂ {C = ℕ} (λ x y. x + y) (sign n (omega (arith, c.ranges.gain))) c.grow.ensures.value ∙ sym (pattern_times256 n c.requires.gain_value c.requires.gain_value_2)
