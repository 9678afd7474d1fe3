-- Worked strips, as one table: what the definitions work out, and what it has to be.
use Rattle.std.specs.Prelude.{ℕ, List, [], ◌∷◌, ◌++◌, map, ℤ, pos, length, get_or}
use Rattle.rules.specs.Rules.{opened}
use Rattle.rules.specs.Examples.{minus, sequence}
use Rattle.strips.specs.Strips.{Strip, strip, strip_of, halved, strip_refusal}
use Rattle.strips.specs.Answers.{unsigned}

-- a strip's numbers in one list
abbrev pub numbers_of : Strip → List ℤ
numbers_of s = s.leasts ++ s.greatests ++ (s.sum ∷ pos s.marks ∷ pos s.peak ∷ [])

-- of samples of so many bytes
abbrev pub strip_in : ℕ → List ℤ → ℕ → Strip
strip_in size xs w = strip size (λ k. get_or xs k (pos 0)) (length xs) w

unfoldable pub bytes_seven : List ℤ
bytes_seven = pos 3 ∷ minus 5 ∷ pos 7 ∷ pos 7 ∷ minus 128 ∷ pos 127 ∷ pos 0 ∷ []

unfoldable pub words_eight : List ℤ
words_eight = pos 100 ∷ minus 32768 ∷ pos 32767 ∷ pos 32767 ∷ pos 5 ∷ minus 1 ∷ pos 2 ∷ pos 8 ∷ []

unfoldable pub examples : List (List ℤ × List ℤ)
examples =
    -- seven points in three columns: 0 and 1, 2 and 3, 4 to 6
    (numbers_of (strip_in 1 bytes_seven 3), minus 5 ∷ pos 7 ∷ minus 128 ∷ pos 3 ∷ pos 7 ∷ pos 127 ∷ pos 11 ∷ pos 2 ∷ pos 5 ∷ [])
    -- as many columns as points
    ∷ (numbers_of (strip_in 1 bytes_seven 7), bytes_seven ++ bytes_seven ++ (pos 11 ∷ pos 2 ∷ pos 5 ∷ []))
    -- four columns, and those joined to two
    ∷ (numbers_of (strip_in 2 words_eight 4), minus 32768 ∷ pos 32767 ∷ minus 1 ∷ pos 2 ∷ pos 100 ∷ pos 32767 ∷ pos 5 ∷ pos 8 ∷ pos 32880 ∷ pos 3 ∷ pos 2 ∷ [])
    ∷ (numbers_of (halved (strip_in 2 words_eight 4)), minus 32768 ∷ minus 1 ∷ pos 32767 ∷ pos 8 ∷ pos 32880 ∷ pos 3 ∷ pos 2 ∷ [])
    -- 127 is at the rail of one byte, and not of two
    ∷ (numbers_of (strip_in 1 (pos 127 ∷ []) 1), pos 127 ∷ pos 127 ∷ pos 127 ∷ pos 1 ∷ pos 0 ∷ [])
    ∷ (numbers_of (strip_in 2 (pos 127 ∷ []) 1), pos 127 ∷ pos 127 ∷ pos 127 ∷ pos 0 ∷ pos 0 ∷ [])
    -- the second segment of document 01's example with g 2, M 5
    ∷ (numbers_of (strip_of (opened sequence) 1 2 2), pos 2828 ∷ pos 3856 ∷ pos 3342 ∷ pos 4884 ∷ pos 19280 ∷ pos 0 ∷ pos 4 ∷ [])
    -- and its refusals: array 2 is absent; no segment 3 or 0; no columns, or six; room too short for one or the other
    ∷ (
      map pos (strip_refusal sequence 1 2 2 2 2 ∷ strip_refusal sequence 2 1 1 9 9 ∷ strip_refusal sequence 1 3 1 9 9 ∷ strip_refusal sequence 1 0 1 9 9 ∷ []),
      pos 0 ∷ pos 9 ∷ pos 10 ∷ pos 10 ∷ [],
    )
    ∷ (
      map pos (strip_refusal sequence 1 1 0 9 9 ∷ strip_refusal sequence 1 1 6 9 9 ∷ strip_refusal sequence 1 2 3 3 2 ∷ strip_refusal sequence 1 2 3 2 3 ∷ []),
      pos 11 ∷ pos 11 ∷ pos 13 ∷ pos 13 ∷ [],
    )
    -- numbers of eight bytes that are read as signed
    ∷ (map pos (map (unsigned 8) (pos 0 ∷ pos 32767 ∷ minus 1 ∷ minus 32768 ∷ [])), pos 0 ∷ pos 32767 ∷ pos 0xffffffffffffffff ∷ pos 0xffffffffffff8000 ∷ [])
    ∷ []
