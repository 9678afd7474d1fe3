-- The worked strips come out, all by one computation.
use mathlib.Core.List.{flatten}
use lib.Dec.{T}
use lib.Ieee.{of_bits, of_fields, odd, lt, eq, le}
use Rattle.rules.specs.Numbers.{low, number, signed, pieces, up_from}
use Rattle.rules.specs.Template.{template, width_at, fields}
use Rattle.rules.specs.Wave.{parts, table, wave_of, head_of, decode}
use Rattle.rules.specs.Rules.{stated, payload, frame, sized, named, formed, tiled, counted, placed, finite32, finite64, measured, timed, inner, rules, opened}
use Rattle.rules.specs.Points.{sample, at_rail, mark_count_of, chosen, inside, segment_rules}
use Rattle.rules.specs.Examples.{sequence, right}
use Rattle.crossings.specs.Crossings.{first_from}
use Rattle.columns.specs.Columns.{lesser, greater, joined, sum_of, pairs, start}
use Rattle.strips.specs.Strips.{peak_of, strip, strip_of, halved, strip_rules, strip_refusal}
use Rattle.strips.specs.Answers.{unsigned}
use Rattle.strips.specs.Examples.{bytes_seven, words_eight, examples}

pub examples-right : T (right examples)
unfolding examples bytes_seven words_eight peak_of strip strip_of halved strip_rules strip_refusal unsigned first_from lesser greater joined sum_of pairs start sample at_rail mark_count_of chosen inside segment_rules sequence low number signed pieces up_from template width_at fields parts table wave_of head_of decode stated payload frame sized named formed tiled counted placed finite32 finite64 measured timed inner rules opened flatten of_bits of_fields odd lt eq le
examples-right = tt
