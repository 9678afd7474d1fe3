-- What is made on the way through a narrowing: the gain's pattern, the blocks written, in plain numbers. Definitions only.
use Rattle.std.specs.Prelude.{ℕ, zero, suc, ◌+◌, ◌-◌, ◌*◌, true, cond, List, [], ◌∷◌, ◌++◌, ltb}
use Rattle.rules.specs.Numbers.{bytes, splice}
use Rattle.rules.specs.Template.{template, laid, head_at}
use Rattle.rules.specs.Cut.{changed}
use Rattle.copies.specs.Copies.{part, items, header}
use Rattle.heads.specs.Heads.{longs}

-- ---- the gain: a pattern without its sign

-- doubled: a shift where the exponent's field is 0, else one more in that field
abbrev pub doubled : ℕ → ℕ
doubled p = cond (ltb p 8388608) (p * 2) (p + 8388608)

abbrev pub grown : ℕ → ℕ → ℕ
grown zero p = p
grown (suc k) p = doubled (grown k p)

-- ---- the blocks written

-- a BYTE block of `total` bytes from `start`
abbrev pub byte_block : List ℕ → ℕ → ℕ → List ℕ
byte_block s start total = header total ++ part s start total

-- a WORD block's descriptor with COMM_TYPE 0, these lengths and this gain
abbrev pub word_head : List ℕ → ℕ → ℕ → ℕ → ℕ → ℕ → List ℕ
word_head s start order one two gain = laid order template (changed ((32, 0) ∷ (60, one) ∷ (64, two) ∷ (156, gain) ∷ []) (head_at order start s))

-- the four fields stored behind a header, from the last to the first
abbrev pub fields_put : ℕ → ℕ → ℕ → ℕ → List ℕ → List ℕ
fields_put order one two gain l = splice (longs order 11 ((60, one) ∷ (64, two) ∷ (156, gain) ∷ []) l) 43 (bytes order 2 0)

-- a WORD block with `front` bytes before its arrays: of each sample the byte that the order has as the high one
abbrev pub word_block : List ℕ → ℕ → ℕ → ℕ → ℕ → ℕ → ℕ → List ℕ
word_block s start order front one two gain =
    header (front + one + two) ++ word_head s start order one two gain ++ part s (start + 346) (front - 346) ++ items true s (start + front + order) 2 1 (one + two)
