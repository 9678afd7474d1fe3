-- However many times it was thinned: cuts in a row, each of what the one before it wrote, and the single setup for them. Definitions only.
use Rattle.std.specs.Prelude.{ℕ, List, [], ◌∷◌, ◌++◌}
use Rattle.rules.specs.Wave.{points}
use Rattle.rules.specs.Rules.{opened}
use Rattle.rules.specs.Cut.{Setup, count, or_else, cut_bytes, cut_refusal, combined}

-- ---- the chain; from one cut up it is x ∷ xs

-- a cut that is asked for: its setup, its order, and how many bytes its output has
pub record Asking : Type 0 where
  pub setup : Setup
  pub order : ℕ
  pub room : ℕ

-- the block that a cut of s writes
abbrev pub block_by : List ℕ → Asking → List ℕ
block_by s x = cut_bytes x.order x.setup s

-- the final bytes
abbrev pub chain_bytes : List ℕ → List Asking → List ℕ
chain_bytes s [] = s
chain_bytes s (x ∷ xs) = chain_bytes (block_by s x) xs

-- the number of the first cut that is refused, and 0 where all are accepted
abbrev pub chain_refusal : List ℕ → List Asking → ℕ
chain_refusal s [] = 0
chain_refusal s (x ∷ xs) = or_else (cut_refusal x.order x.setup s x.room) (chain_refusal (block_by s x) xs)

-- the last of x ∷ xs
abbrev pub last_of : {A : Type 0} → A → List A → A
last_of x [] = x
last_of x (y ∷ ys) = last_of y ys

-- ---- its numbers and answers

-- a cut that was made: its setup, and the c that it answered
abbrev pub Made : Type 0
Made = Setup × ℕ

abbrev pub made : List ℕ → Asking → Made
made s x = (x.setup, count x.setup (points (opened s).head))

abbrev pub all_made : List ℕ → List Asking → List Made
all_made s [] = []
all_made s (x ∷ xs) = made s x ∷ all_made (block_by s x) xs

-- ---- the single setup, from these alone

-- one cut and then another, as one that answers what the second answered
abbrev pub as_one : Made → Made → Made
as_one a b = (combined a.0 b.0 b.1, b.1)

-- a cut, and then others one after another
abbrev pub in_turn : Made → List Made → Made
in_turn a [] = a
in_turn a (b ∷ bs) = in_turn (as_one a b) bs

-- what leaves out nothing, before the first cut
abbrev pub uncut : Made
uncut = (record { sp = 0; np = 0; fp = 0; sn = 0 }, 0)

abbrev pub single_setup : List Made → Setup
single_setup ms = (in_turn uncut ms).0

-- ---- the same, grouped in any way

pub data Group : Type 0 where
  alone : Made → Group
  both : Group → Group → Group

-- the cuts of a group in their order
abbrev pub cuts_in : Group → List Made
cuts_in (alone a) = a ∷ []
cuts_in (both g h) = cuts_in g ++ cuts_in h

-- each of two groups worked out by itself, and then the two as one
abbrev pub grouped : Group → Made
grouped (alone a) = a
grouped (both g h) = as_one (grouped g) (grouped h)
