-- What a strip answers, and what it leaves in the two slices that it was lent; and its numbers as bytes. Definitions only.
use Rattle.std.specs.Prelude.{◌≡◌, ℕ, zero, suc, List, ℤ, pos, length}
use Rattle.rules.specs.Numbers.{unless_refused}
use Rattle.rules.specs.Rules.{opened}
use Rattle.fills.specs.Fills.{over}
use Rattle.block.specs.declared.Opened.{Opened}
use Rattle.block.specs.Opened.{opened_as}
use Rattle.strips.specs.Strips.{Strip, strip_of, strip_refusal}
use Rattle.strips.specs.declared.Drawn.{Drawn}
-- as bytes: eight for each number, two's complement, the high byte first
unfoldable pub use Rattle.rules.specs.Numbers.{unsigned}
pub use Rattle.rules.specs.Numbers.{signed_bytes}

-- of a refused call its number and zeros; and else what a strip says of all samples
abbrev pub refused_strip : ℕ → Drawn
refused_strip n = record { refusal = n; sum = pos 0; marks = 0; peak = 0 }

abbrev pub drawn_by : ℕ → Strip → Drawn
drawn_by zero t = record { refusal = 0; sum = t.sum; marks = t.marks; peak = t.peak }
drawn_by (suc n) t = refused_strip (suc n)

-- the strip of segment n of array a in w columns, with room for so many leasts and greatests
unfoldable pub drawn_as : List ℕ → ℕ → ℕ → ℕ → ℕ → ℕ → Drawn
drawn_as s a n w low high = drawn_by (strip_refusal s a n w low high) (strip_of (opened s) a n w)

-- a slice afterwards: written over from its start, and as it was where the call is refused
unfoldable pub leasts_left : List ℕ → ℕ → ℕ → ℕ → List ℤ → ℕ → List ℤ
leasts_left s a n w out high = unless_refused (strip_refusal s a n w (length out) high) (over out 0 (strip_of (opened s) a n w).leasts) out

unfoldable pub greatests_left : List ℕ → ℕ → ℕ → ℕ → ℕ → List ℤ → List ℤ
greatests_left s a n w low out = unless_refused (strip_refusal s a n w low (length out)) (over out 0 (strip_of (opened s) a n w).greatests) out

-- ---- what the helpers hand on

-- o is what opening the slice s answered, and the strip is not refused
pub record Drawable (s : List ℕ) (o : Opened) (a n w low high : ℕ) : Type 0 where
  pub opens : o ≡ opened_as s
  pub accepts : strip_refusal s a n w low high ≡ 0
