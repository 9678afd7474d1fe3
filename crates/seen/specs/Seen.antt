-- Which numbers were seen: a bit for each, in words of 64. Definitions only.
use Rattle.std.specs.Prelude.{ℕ, ◌/◌, ◌%◌, ◌^◌, List, get_or}

abbrev pub bit_of : ℕ → ℕ → ℕ
bit_of w b = w / 2 ^ b % 2

-- 1 where k was seen, and else 0
unfoldable pub seen_of : List ℕ → ℕ → ℕ
seen_of ws k = bit_of (get_or ws (k / 64) 0) (k % 64)
