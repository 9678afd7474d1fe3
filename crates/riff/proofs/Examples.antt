-- The files of the table, and the refusals, come out, all by one computation.
use mathlib.Core.List.{flatten}
use lib.Dec.{T}
use lib.Ieee.{of_bits, of_fields, odd, lt, eq, le}
use Rattle.rules.specs.Numbers.{low, digits, number, bytes, signed, unsigned, pieces, up_from}
use Rattle.rules.specs.Template.{template, width_at, fields}
use Rattle.rules.specs.Wave.{parts, table, wave_of, head_of, decode}
use Rattle.rules.specs.Rules.{stated, payload, frame, sized, named, formed, tiled, counted, placed, finite32, finite64, measured, timed, inner, rules, opened}
use Rattle.rules.specs.Points.{sample, chosen, inside, segment_rules}
use Rattle.rules.specs.Examples.{sequence, right}
use Rattle.riff.specs.Files.{coded, heard, sound_head, sound_data, sound_file, rate_in, width_in, count_in, samples_in, sound_form, sound_read_refusal}
use Rattle.riff.specs.Segments.{samples, sound_of, sound_rules, sound_write_refusal}
use Rattle.riff.specs.Examples.{words, bytes_padded, files}

pub files-right : T (right files)
unfolding files words bytes_padded sequence low digits number bytes signed unsigned pieces up_from template width_at fields parts table wave_of head_of decode stated payload frame sized named formed tiled counted placed finite32 finite64 measured timed inner rules opened sample chosen inside segment_rules coded heard sound_head sound_data sound_file rate_in width_in count_in samples_in sound_form sound_read_refusal samples sound_of sound_rules sound_write_refusal flatten of_bits of_fields odd lt eq le
files-right = tt
