-- The examples hold, all by one computation.
use lib.Dec.{T}
use Rattle.rules.specs.Numbers.{low, digits}
use Rattle.rules.specs.Examples.{right}
use Rattle.digits.specs.Digits.{places_by, places}
use Rattle.lines.specs.Grammar.{line_text, numbers_of}
use Rattle.lines.specs.Reader.{key_of, pair_at, pairs_at, word_at, line_in, read_setup, read_refusal}
use Rattle.lines.specs.Writer.{normal_line, setup_line, write_refusal}
use Rattle.lines.specs.Examples.{line_table}

pub lines-right : T (right line_table)
unfolding line_table low digits places_by places line_text numbers_of key_of pair_at pairs_at word_at line_in read_setup read_refusal normal_line setup_line write_refusal
lines-right = tt
