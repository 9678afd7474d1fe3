-- The table of small joins holds, by one computation.
use mathlib.Core.List.{flatten}
use lib.Dec.{T}
use lib.Ieee.{of_bits, to_bits, of_fields, odd, units, round, size, span, climb, neg, sum, add, sub, mul, of_int, lt}
use Rattle.rules.specs.Numbers.{low, digits, number, bytes, signed, pieces, up_from}
use Rattle.rules.specs.Template.{template, width_at, fields, laid}
use Rattle.rules.specs.Wave.{parts, table, wave_of, head_of, decode, written, encode, framed}
use Rattle.rules.specs.Rules.{stated, payload, frame, sized, named, formed, tiled, counted, placed, finite32, finite64, measured, timed, inner, rules, refusal, opened}
use Rattle.rules.specs.Cut.{thinned, kept, count, cut, cut_bytes}
use Rattle.rules.specs.Examples.{sequence}
use Rattle.joining.specs.Join.{parts_up_to, parts_in, indexed, part_at, by_index, joined, joined_bytes, joining, join_refusal}
use Rattle.joining.specs.Examples.{join_table, agree}

pub table_agrees : T (agree join_table)
unfolding join_table sequence low digits number bytes signed pieces up_from template width_at fields laid parts table wave_of head_of decode written encode framed stated payload frame sized named formed tiled counted placed finite32 finite64 measured timed inner rules refusal opened thinned kept count cut cut_bytes flatten of_bits to_bits of_fields odd units round size span climb neg sum add sub mul of_int lt parts_up_to parts_in indexed part_at by_index joined joined_bytes joining join_refusal
table_agrees = tt
