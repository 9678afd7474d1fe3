-- The reader of a setup line: the word, then pair after pair, at most four. Definitions only.
use Rattle.std.specs.Prelude.{ℕ, zero, suc, ◌+◌, Bool, true, false, cond, not, ◌&&◌, ◌||◌, List, [], ◌∷◌, ◌++◌, length, get_or, take, drop, leb, eqb}
use Rattle.std.proofs.Math.Option.{Option, none, some}
use Rattle.rules.specs.Rules.{all, same}
use Rattle.rules.specs.Cut.{Setup}
use Rattle.digits.specs.Digits.{value_of, digits_at}
use Rattle.lines.specs.Grammar.{Word, Short, Long, letters, Key, SP, NP, FP, SN, name, nth, Pair, Line, comma, blank, numbers_of}

module _ {A : Type 0} where
  -- what was found, if a test holds
  abbrev pub given : Bool → Option A → Option A
  given b o = cond b o none

-- ---- a pair

-- the key that two letters are
unfoldable pub key_of : List ℕ → Option Key
key_of t = cond (same t (name SP)) (some SP) (cond (same t (name NP)) (some NP) (cond (same t (name FP)) (some FP) (given (same t (name SN)) (some SN))))

abbrev pub value? : List ℕ → Bool
value? ds = all (leb 1 (length ds) ∷ leb (length ds) 10 ∷ leb (value_of ds) 4294967295 ∷ [])

abbrev pub pair_by : Option Key → Bool → List ℕ → Option Pair
pair_by none c ds = none
pair_by (some k) c ds = given (c && value? ds) (some (record { key = k; digits = ds }))

-- the pair that stands first
unfoldable pub pair_at : List ℕ → Option Pair
pair_at t = pair_by (key_of (take 2 t)) (eqb (get_or t 2 0) comma) (digits_at (drop 3 t))

-- ---- the pairs

abbrev pub before : Pair → Option (List Pair) → Option (List Pair)
before p none = none
before p (some ps) = some (p ∷ ps)

-- behind a pair stands nothing, or a comma and more pairs
abbrev pub behind : (List ℕ → Option (List Pair)) → Pair → List ℕ → Option (List Pair)
behind more p [] = some (p ∷ [])
behind more p (b ∷ u) = given (eqb b comma) (before p (more u))

abbrev pub pairs_by : (List ℕ → Option (List Pair)) → List ℕ → Option Pair → Option (List Pair)
pairs_by more t none = none
pairs_by more t (some p) = behind more p (drop (3 + length p.digits) t)

-- one to n pairs, with nothing behind them
unfoldable pub pairs_at : ℕ → List ℕ → Option (List Pair)
pairs_at zero t = none
pairs_at (suc n) t = pairs_by (pairs_at n) t (pair_at t)

-- some pair has this key; and no pair stands twice
abbrev pub taken? : Key → List Pair → Bool
taken? k [] = false
taken? k (p ∷ ps) = eqb (nth k) (nth p.key) || taken? k ps

abbrev pub once? : List Pair → Bool
once? [] = true
once? (p ∷ ps) = not (taken? p.key ps) && once? ps

-- ---- the line

-- the word that stands first with its blank
unfoldable pub word_at : List ℕ → Option Word
word_at t = cond (same (take 5 t) (letters Short ++ (blank ∷ []))) (some Short) (given (same (take 15 t) (letters Long ++ (blank ∷ []))) (some Long))

abbrev pub line_by : Word → Option (List Pair) → Option Line
line_by w none = none
line_by w (some ps) = given (once? ps) (some (record { word = w; pairs = ps }))

abbrev pub rest_by : List ℕ → Option Word → Option Line
rest_by t none = none
rest_by t (some w) = line_by w (pairs_at 4 (drop (suc (length (letters w))) t))

unfoldable pub line_in : List ℕ → Option Line
line_in t = rest_by t (word_at t)

-- ---- what is read: the four numbers, or none

abbrev pub setup_by : Option Line → Option Setup
setup_by none = none
setup_by (some l) = some (numbers_of l.pairs)

unfoldable pub read_setup : List ℕ → Option Setup
read_setup t = setup_by (line_in t)

-- 15 TEXT
abbrev pub refusal_by : Option Setup → ℕ
refusal_by none = 15
refusal_by (some s) = 0

unfoldable pub read_refusal : List ℕ → ℕ
read_refusal t = refusal_by (read_setup t)

-- the numbers answered, zeros where the line is refused
abbrev pub or_zeros : Option Setup → Setup
or_zeros none = record { sp = 0; np = 0; fp = 0; sn = 0 }
or_zeros (some s) = s
