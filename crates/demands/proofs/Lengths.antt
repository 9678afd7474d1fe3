-- A call that writes some bytes to one slice and their length to another, where it returned 0 (`own_none`, `wrote_by`).
use mathlib.Core.Path.{◌≡◌, refl, sym, ap, ◌∙◌}
use mathlib.Core.Bool.{cond}
use mathlib.Core.List.{List, [], ◌∷◌}
use Prim.Native.Nat.{ℕ, ◌^◌, ◌<◌}
use lib.Dec.{leb}
use lib.ListN.{length, take}
use Rattle.rules.specs.Numbers.{number, all_bytes, splice}
use Rattle.rules.proofs.Tests.{or_else_none}
use Rattle.tessarquin.specs.Calls.{or_room, left_by}
use Rattle.tessarquin.proofs.Writing.{front, last_read}

-- the length, as it stands in an answer
abbrev pub long_in : List ℕ → ℕ
long_in answer = number 0 (take 8 answer)

-- a call, lent out and answer, wrote the bytes t, and left their length in the answer
pub record Wrote (t out answer left second : List ℕ) : Type 0 where
  pub filled : left ≡ splice out 0 t
  pub told : second ≡ splice answer 0 (all_bytes 0 8 (length t ∷ []))
  pub long : long_in second ≡ length t
  pub block : take (long_in second) left ≡ t

-- no rule before the room of the answer was broken
pub own_none : (own : ℕ) (told answer : List ℕ) (m : ℕ) → m ≡ or_room own told (length answer) → m ≡ 0 → own ≡ 0
own_none own told answer m e z = (or_else_none own (cond (leb (length told) (length answer)) 0 13) (sym e ∙ z)).0

pub wrote_by : (own : ℕ) (t out answer : List ℕ) (m : ℕ) (left second : List ℕ) → let n = or_room own (all_bytes 0 8 (length t ∷ [])) (length answer) in
    m ≡ n → left ≡ left_by n t out → second ≡ left_by n (all_bytes 0 8 (length t ∷ [])) answer → m ≡ 0 → length t < 256 ^ 8 → Wrote t out answer left second
wrote_by own t out answer m left second e l r z fit =
    let bs : List ℕ = all_bytes 0 8 (length t ∷ []) in
    let k : or_room own bs (length answer) ≡ 0 = sym e ∙ z in
    let filled : left ≡ splice out 0 t = l ∙ ap (λ (n : ℕ). left_by n t out) k in
    let told : second ≡ splice answer 0 bs = r ∙ ap (λ (n : ℕ). left_by n bs answer) k in
    let long : long_in second ≡ length t = ap long_in told ∙ last_read [] (length t) 0 answer refl fit in
    record { filled = filled; told = told; long = long; block = (λ i. take (long i) (filled i)) ∙ front t out (length t) refl }
