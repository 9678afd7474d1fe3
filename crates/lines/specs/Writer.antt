-- The writer of a setup line: the short word and all four pairs in the order SP, NP, FP, SN without leading zeros. Definitions only.
use Rattle.std.specs.Prelude.{◌≡◌, ℕ, List, [], ◌∷◌, map, length, leb}
use Rattle.rules.specs.Rules.{first}
use Rattle.rules.specs.Cut.{Setup}
use Rattle.digits.specs.Digits.{digits_of, Shortest}
use Rattle.lines.specs.Grammar.{Short, Key, SP, NP, FP, SN, Pair, Line, line_text}

abbrev pub pair : Key → ℕ → Pair
pair k n = record { key = k; digits = digits_of n }

unfoldable pub normal_line : Setup → Line
normal_line s = record { word = Short; pairs = pair SP s.sp ∷ pair NP s.np ∷ pair FP s.fp ∷ pair SN s.sn ∷ [] }

-- the line written; and 15 TEXT for a buffer of n bytes that is shorter
unfoldable pub setup_line : Setup → List ℕ
setup_line s = line_text (normal_line s)

unfoldable pub write_refusal : Setup → ℕ → ℕ
write_refusal s n = first ((15, leb (length (setup_line s)) n ∷ []) ∷ [])

-- ---- the normal form, apart from the writer: the short word, the four keys in their order, and no leading zero

abbrev pub Trim : List Pair → Type 0
Trim [] = Unit {0}
Trim (p ∷ ps) = Shortest p.digits × Trim ps

pub record Normal (l : Line) : Type 0 where
  pub word : l.word ≡ Short
  pub keys : map (λ (p : Pair). p.key) l.pairs ≡ SP ∷ NP ∷ FP ∷ SN ∷ []
  pub trim : Trim l.pairs
