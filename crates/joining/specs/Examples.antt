-- Joins of small parts, as one table: what the definitions work out, and what document 02 says.
use Rattle.std.specs.Prelude.{ℕ, Bool, true, ◌&&◌, take}
use mathlib.Core.List.{List, [], ◌∷◌, ◌++◌, map, flatten}
use Rattle.rules.specs.Rules.{same}
use Rattle.rules.specs.Cut.{cut_bytes}
use Rattle.rules.specs.Examples.{setup, sequence}
use Rattle.joining.specs.Join.{parts_in, joined_bytes, join_refusal}

-- the two segments of the sequence of five WORD points with its trigger entries, as our cut writes them in order o, thinned by sp
abbrev pub segment : ℕ → ℕ → ℕ → List ℕ
segment o sp n = cut_bytes o (setup sp 0 0 n) sequence

-- what a join of these parts answers with room for 500 bytes
abbrev pub answers : List (List ℕ) → ℕ
answers ps = join_refusal (flatten ps) 500

-- the bytes joined
abbrev pub bytes_of : List (List ℕ) → List ℕ
bytes_of ps = joined_bytes (parts_in (flatten ps))

unfoldable pub join_table : List (List ℕ × List ℕ)
join_table =
    let one = segment 0 1 1 in
    let two = segment 0 1 2 in
    -- the two in either order: the whole sequence
    (answers (one ∷ two ∷ []) ∷ answers (two ∷ one ∷ []) ∷ [], 0 ∷ 0 ∷ [])
    ∷ (bytes_of (two ∷ one ∷ []), segment 0 1 0)
    -- no part, the second alone, one twice, another byte order, another sparsing
    ∷ (map answers ([] ∷ (two ∷ []) ∷ (one ∷ one ∷ []) ∷ (one ∷ segment 1 1 2 ∷ []) ∷ (one ∷ segment 0 2 2 ∷ []) ∷ []), 16 ∷ 16 ∷ 16 ∷ 16 ∷ 16 ∷ [])
    -- one part alone is joined too, and a whole sequence is not a part
    ∷ (answers (one ∷ []) ∷ answers (sequence ∷ []) ∷ [], 0 ∷ 16 ∷ [])
    -- a header cut short, a payload cut short, a new line behind a part; and a bad part behind what would be 16
    ∷ (map answers ((one ∷ take 10 two ∷ []) ∷ (one ∷ take 376 two ∷ []) ∷ (one ∷ (10 ∷ []) ∷ two ∷ []) ∷ (one ∷ one ∷ take 12 two ∷ []) ∷ []), 1 ∷ 2 ∷ 1 ∷ 2 ∷ [])
    -- room for all the bytes, and for one less
    ∷ (join_refusal (two ++ one) 409 ∷ join_refusal (two ++ one) 408 ∷ [], 0 ∷ 13 ∷ [])
    ∷ []

abbrev pub agree : List (List ℕ × List ℕ) → Bool
agree [] = true
agree (r ∷ rs) = same r.0 r.1 && agree rs
