-- The table of small chains holds, by one computation.
use mathlib.Core.List.{flatten}
use lib.Dec.{T}
use lib.Ieee.{of_bits, to_bits, of_fields, odd, units, round, size, span, climb, neg, sum, add, sub, mul, of_int, lt}
use Rattle.rules.specs.Numbers.{low, digits, number, bytes, signed, pieces, up_from}
use Rattle.rules.specs.Template.{template, width_at, fields, laid}
use Rattle.rules.specs.Wave.{parts, table, wave_of, head_of, decode, written, encode, framed}
use Rattle.rules.specs.Rules.{stated, payload, frame, sized, named, formed, tiled, counted, placed, finite32, finite64, measured, timed, inner, rules, refusal, opened}
use Rattle.rules.specs.Cut.{thinned, kept, count, cut, cut_bytes, cut_rules, cut_refusal, combined_refusal}
use Rattle.rules.specs.Examples.{sequence, ten, right}
use Rattle.chains.specs.Examples.{chain_table}

pub chains_right : T (right chain_table)
unfolding chain_table sequence ten low digits number bytes signed pieces up_from template width_at fields laid parts table wave_of head_of decode written encode framed stated payload frame sized named formed tiled counted placed finite32 finite64 measured timed inner rules refusal opened thinned kept count cut cut_bytes cut_rules cut_refusal combined_refusal flatten of_bits to_bits of_fields odd units round size span climb neg sum add sub mul of_int lt
chains_right = tt
