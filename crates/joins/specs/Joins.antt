-- What a join answers, and what its output holds afterwards. Definitions only.
use Rattle.std.specs.Prelude.{ℕ, zero, suc, List, length}
use Rattle.rules.specs.Numbers.{splice, unless_refused}
use Rattle.joining.specs.Join.{parts_in, joined_bytes, join_refusal}
use Rattle.joins.specs.declared.Joined.{Joined}

abbrev pub refused_as : ℕ → Joined
refused_as n = record { refusal = n; count = 0; length = 0 }

-- 0, n and the bytes written; or the number and zeros
abbrev pub answer : ℕ → ℕ → ℕ → Joined
answer zero count long = record { refusal = 0; count = count; length = long }
answer (suc n) count long = refused_as (suc n)

unfoldable pub joined_as : List ℕ → ℕ → Joined
joined_as s room = answer (join_refusal s room) (length (parts_in s)) (length (joined_bytes (parts_in s)))

-- the block at the output's start and behind it what was there; all as it was where the join is refused
unfoldable pub out_as : List ℕ → List ℕ → List ℕ
out_as s out = unless_refused (join_refusal s (length out)) (splice out 0 (joined_bytes (parts_in s))) out
