-- What the calls on setup lines answer and leave, and what is found on the way. Definitions only.
use Rattle.std.specs.Prelude.{ℕ, zero, suc, ◌+◌, cond, List, length, get_or, Option, Some, None, unwrap_or}
use Rattle.std.proofs.Math.Option.{Option as Maybe, none, some}
use Rattle.rules.specs.Numbers.{splice, unless_refused}
use Rattle.rules.specs.Cut as rules
use Rattle.digits.specs.Digits.{places, value_of}
use Rattle.cuts.specs.declared.Setup.{Setup}
use Rattle.cuts.specs.Cuts.{setup_as, setup_of}
use Rattle.lines.specs.Grammar.{Word, letters, Key, nth, Pair, numbers_of}
use Rattle.lines.specs.Reader.{once?, read_setup, or_zeros}
use Rattle.lines.specs.Writer.{setup_line, write_refusal}
use Rattle.setups.specs.declared.Printed.{Printed}
use Rattle.setups.specs.declared.reads.Found.{Found}
use Rattle.setups.specs.declared.writes.Widths.{Widths}

-- ---- a line read

-- its number, and its setup: zeros where the line is refused
abbrev pub number_of : Option Setup → ℕ
number_of (Some c) = 0
number_of None = 15

abbrev pub setup_in : Option Setup → rules.Setup
setup_in (Some c) = setup_as c
setup_in None = or_zeros none

-- the answer by what was read
abbrev pub reading_of : Maybe rules.Setup → Option Setup
reading_of none = None
reading_of (some c) = Some (setup_of c)

unfoldable pub reading_as : List ℕ → Option Setup
reading_as t = reading_of (read_setup t)

-- ---- on the way

-- where the pairs start: behind the word and its blank
abbrev pub word_as : Maybe Word → Option ℕ
word_as none = None
word_as (some w) = Some (suc (length (letters w)))

-- which key it is
abbrev pub key_as : Maybe Key → Option ℕ
key_as none = None
key_as (some k) = Some (nth k)

-- a pair that starts at `at`: its key, its value and where it ends
abbrev pub found_as : ℕ → Maybe Pair → Option Found
found_as at none = None
found_as at (some p) = Some (record { key = nth p.key; value = value_of p.digits; next = at + 3 + length p.digits })

-- the setup of four values, a missing one as 0
abbrev pub numbers_in : List (Option ℕ) → rules.Setup
numbers_in vs =
    record { sp = unwrap_or (get_or vs 0 None) 0; np = unwrap_or (get_or vs 1 None) 0; fp = unwrap_or (get_or vs 2 None) 0; sn = unwrap_or (get_or vs 3 None) 0 }

-- some pairs, of which none stands twice
abbrev pub pairs_as : Maybe (List Pair) → Option Setup
pairs_as none = None
pairs_as (some ps) = cond (once? ps) (Some (setup_of (numbers_of ps))) None

-- ---- a line written

-- how many digits the four numbers have, and how many bytes their line has by these
abbrev pub widths_of : rules.Setup → Widths
widths_of c = record { sp = places c.sp; np = places c.np; fp = places c.fp; sn = places c.sn }

abbrev pub line_length : Widths → ℕ
line_length w = 20 + (w.sp + w.np + w.fp + w.sn)

-- 0 and the line's length; or 15 and 0
abbrev pub printed : ℕ → ℕ → Printed
printed zero long = record { refusal = 0; length = long }
printed (suc n) long = record { refusal = suc n; length = 0 }

unfoldable pub printed_as : rules.Setup → ℕ → Printed
printed_as c room = printed (write_refusal c room) (length (setup_line c))

-- the line at the output's start and behind it what was there; all as it was where the call is refused
unfoldable pub out_as : rules.Setup → List ℕ → List ℕ
out_as c out = unless_refused (write_refusal c (length out)) (splice out 0 (setup_line c)) out
