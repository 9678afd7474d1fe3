-- The worked examples hold, all by one computation.
use mathlib.Core.List.{flatten}
use lib.Dec.{T}
use lib.Ieee.{of_bits, to_bits, of_fields, odd, units, round, size, span, climb, lt, mul, of_int}
use Rattle.rules.specs.Numbers.{low, digits, number, bytes, signed, pieces, up_from}
use Rattle.rules.specs.Template.{template, width_at, fields, laid}
use Rattle.rules.specs.Wave.{parts, table, wave_of, head_of, decode, written, encode, framed}
use Rattle.rules.specs.Rules.{stated, payload, frame, sized, named, formed, tiled, counted, placed, finite32, finite64, measured, timed, inner, rules, opened}
use Rattle.rules.specs.Cut.{thinned, kept, cut, cut_bytes}
use Rattle.rules.specs.Examples.{sequence, right}
use Rattle.narrowing.specs.Narrow.{widened, times256, narrowed, narrow, narrow_bytes, gained, narrow_refusal}
use Rattle.narrowing.specs.Examples.{examples}

pub examples-right : T (right examples)
unfolding examples sequence widened times256 narrowed narrow narrow_bytes gained narrow_refusal low digits number bytes signed pieces up_from template width_at fields laid parts table wave_of head_of decode written encode framed stated payload frame sized named formed tiled counted placed finite32 finite64 measured timed inner rules opened thinned kept cut cut_bytes flatten of_bits to_bits of_fields odd units round size span climb lt mul of_int
examples-right = tt
