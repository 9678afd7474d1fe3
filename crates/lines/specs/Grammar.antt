-- The lines that are setups, and their four numbers. A line is the text of a tree; nothing here says how one is read. Definitions only.
use Rattle.std.specs.Prelude.{◌≡◌, ℕ, ◌≤◌, cond, List, [], ◌∷◌, ◌++◌, map, length, eqb}
use Rattle.rules.specs.Numbers.{Below}
use Rattle.rules.specs.Cut.{Setup}
use Rattle.digits.specs.Digits.{sign, value_of}

-- ---- the words, the keys and their letters

-- `WFSU` or `WAVEFORM_SETUP`, capitals
pub data Word : Type 0 where
  Short : Word
  Long : Word

abbrev pub letters : Word → List ℕ
letters Short = 87 ∷ 70 ∷ 83 ∷ 85 ∷ []
letters Long = 87 ∷ 65 ∷ 86 ∷ 69 ∷ 70 ∷ 79 ∷ 82 ∷ 77 ∷ 95 ∷ 83 ∷ 69 ∷ 84 ∷ 85 ∷ 80 ∷ []

pub data Key : Type 0 where
  SP : Key
  NP : Key
  FP : Key
  SN : Key

abbrev pub name : Key → List ℕ
name SP = 83 ∷ 80 ∷ []
name NP = 78 ∷ 80 ∷ []
name FP = 70 ∷ 80 ∷ []
name SN = 83 ∷ 78 ∷ []

-- which key it is in the order SP, NP, FP, SN, from 0 on
abbrev pub nth : Key → ℕ
nth SP = 0
nth NP = 1
nth FP = 2
nth SN = 3

-- ---- the tree of a line

-- a key and the digits of its value
pub record Pair : Type 0 where
  pub key : Key
  pub digits : List ℕ

pub record Line : Type 0 where
  pub word : Word
  pub pairs : List Pair

-- one to ten decimal digits, up to 4,294,967,295; leading zeros are taken
pub record Value (ds : List ℕ) : Type 0 where
  pub decimal : Below 10 ds
  pub least : 1 ≤ length ds
  pub most : length ds ≤ 10
  pub fits : value_of ds ≤ 4294967295

-- no pair has this key
abbrev pub Absent : Key → List Pair → Type 0
Absent k [] = Unit {0}
Absent k (p ∷ ps) = (nth k ≡ nth p.key → ⊥) × Absent k ps

-- no pair stands twice; and every pair has a value
abbrev pub Once : List Pair → Type 0
Once [] = Unit {0}
Once (p ∷ ps) = Absent p.key ps × Once ps

abbrev pub Values : List Pair → Type 0
Values [] = Unit {0}
Values (p ∷ ps) = Value p.digits × Values ps

-- one to four pairs in any order
pub record Good (l : Line) : Type 0 where
  pub least : 1 ≤ length l.pairs
  pub most : length l.pairs ≤ 4
  pub once : Once l.pairs
  pub values : Values l.pairs

-- ---- its bytes: no blank but the one after the word, no line end

abbrev pub comma : ℕ
comma = 44

abbrev pub blank : ℕ
blank = 32

abbrev pub pair_text : Pair → List ℕ
pair_text p = name p.key ++ (comma ∷ map sign p.digits)

abbrev pub pairs_text : List Pair → List ℕ
pairs_text [] = []
pairs_text (p ∷ []) = pair_text p
pairs_text (p ∷ q ∷ ps) = pair_text p ++ (comma ∷ pairs_text (q ∷ ps))

unfoldable pub line_text : Line → List ℕ
line_text l = letters l.word ++ (blank ∷ pairs_text l.pairs)

-- ---- its numbers

-- the number of a key, and 0 for a pair that is missing
abbrev pub number_of : Key → List Pair → ℕ
number_of k [] = 0
number_of k (p ∷ ps) = cond (eqb (nth k) (nth p.key)) (value_of p.digits) (number_of k ps)

unfoldable pub numbers_of : List Pair → Setup
numbers_of ps = record { sp = number_of SP ps; np = number_of NP ps; fp = number_of FP ps; sn = number_of SN ps }

-- t is a setup line, with these four numbers
pub record Says (t : List ℕ) (s : Setup) : Type 0 where
  pub line : Line
  pub good : Good line
  pub text : line_text line ≡ t
  pub numbers : numbers_of line.pairs ≡ s
