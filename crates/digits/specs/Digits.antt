-- Numbers as text, and the decimal digits that stand first in a text. Definitions only.
use Rattle.std.specs.Prelude.{ℕ, zero, suc, ◌+◌, ◌-◌, ◌/◌, ◌<◌, cond, List, [], ◌∷◌, map, reverse, length, ltb}
use Rattle.rules.specs.Numbers.{low, digits}
use Rattle.rules.specs.Rules.{digit?}
use Rattle.digits.specs.declared.Run.{Run}

-- ---- numbers as text

-- the sign of a digit below 16: `0` to `9`, then `A` to `F`
abbrev pub sign : ℕ → ℕ
sign d = cond (ltb d 10) (48 + d) (55 + d)

-- the w lowest digits of n to the base b, the highest first
unfoldable pub spelled : ℕ → ℕ → ℕ → List ℕ
spelled b w n = map sign (reverse (digits b w n))

-- how many decimal digits n has: one below 10, and else one more than n / 10 has. The first number only bounds the steps
unfoldable pub places_by : ℕ → ℕ → ℕ
places_by zero n = 1
places_by (suc f) n = cond (ltb n 10) 1 (suc (places_by f (n / 10)))

unfoldable pub places : ℕ → ℕ
places n = places_by n n

-- the decimal digits of n, the highest first
abbrev pub digits_of : ℕ → List ℕ
digits_of n = reverse (digits 10 (places n) n)

-- n in decimal, and 64 bits as 16 hexadecimal digits
abbrev pub decimal : ℕ → List ℕ
decimal n = spelled 10 (places n) n

abbrev pub hex : ℕ → List ℕ
hex n = spelled 16 16 n

-- ---- digits in a text

-- the number that decimal digits are, the highest first; zeros before them change nothing
abbrev pub value_of : List ℕ → ℕ
value_of ds = low 10 (reverse ds)

-- no zero stands before them, but for the one digit of 0
abbrev pub Shortest : List ℕ → Type 0
Shortest [] = ⊥
Shortest (d ∷ []) = Unit {0}
Shortest (d ∷ e ∷ ds) = 0 < d

-- the decimal digits that stand first in a text
abbrev pub digits_at : List ℕ → List ℕ
digits_at [] = []
digits_at (b ∷ bs) = cond (digit? b) ((b - 48) ∷ digits_at bs) []

-- where they end, in a text that starts at `from`, and their number
abbrev pub run_of : ℕ → List ℕ → Run
run_of from t = record { end = from + length (digits_at t); value = value_of (digits_at t) }
