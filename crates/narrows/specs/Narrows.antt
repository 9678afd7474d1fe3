-- What a narrowing answers, and what its output holds afterwards. Definitions only.
use Rattle.std.specs.Prelude.{ℕ, zero, suc, List, length}
use Rattle.rules.specs.Numbers.{splice, unless_refused}
use Rattle.narrowing.specs.Narrow.{narrow_bytes, narrow_refusal}
use Rattle.narrows.specs.declared.Narrowed.{Narrowed}

abbrev pub refused_as : ℕ → Narrowed
refused_as n = record { refusal = n; length = 0 }

-- 0 and the bytes written; or the number and 0
abbrev pub answer : ℕ → ℕ → Narrowed
answer zero long = record { refusal = 0; length = long }
answer (suc n) long = refused_as (suc n)

unfoldable pub narrowed_as : List ℕ → ℕ → Narrowed
narrowed_as s room = answer (narrow_refusal s room) (length (narrow_bytes s))

-- the block at the output's start and behind it what was there; all as it was where the narrowing is refused
unfoldable pub out_as : List ℕ → List ℕ → List ℕ
out_as s out = unless_refused (narrow_refusal s (length out)) (splice out 0 (narrow_bytes s)) out
