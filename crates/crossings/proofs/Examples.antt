-- The worked crossings come out, all by one computation.
use mathlib.Core.List.{flatten}
use lib.Dec.{T}
use lib.Ieee.{of_bits, to_bits, of_fields, odd, units, round, size, span, climb, neg, sum, add, sub, mul, of_int, lt, eq, le}
use Rattle.rules.specs.Numbers.{low, number, signed, pieces, up_from}
use Rattle.rules.specs.Template.{template, width_at, fields}
use Rattle.rules.specs.Wave.{parts, table, wave_of, head_of, decode}
use Rattle.rules.specs.Rules.{stated, payload, frame, sized, named, formed, tiled, counted, placed, finite32, finite64, measured, timed, inner, rules, opened}
use Rattle.rules.specs.Points.{sample, value_of, value, chosen, inside}
use Rattle.rules.specs.Examples.{sequence, right}
use Rattle.crossings.specs.Crossings.{reaches, first_from, crossing, crossing_rules, crossing_refusal}
use Rattle.crossings.specs.Examples.{examples}

pub examples-right : T (right examples)
unfolding examples reaches first_from crossing crossing_rules crossing_refusal sample value_of value chosen inside sequence low number signed pieces up_from template width_at fields parts table wave_of head_of decode stated payload frame sized named formed tiled counted placed finite32 finite64 measured timed inner rules opened flatten of_bits to_bits of_fields odd units round size span climb neg sum add sub mul of_int lt eq le
examples-right = tt
