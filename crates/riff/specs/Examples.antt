-- Sound files written and read, as one table: what the definitions work out, and what request [14] says.
use Rattle.std.specs.Prelude.{ℕ, zero, suc, List, [], ◌∷◌, ◌++◌, map, take, ℤ, pos}
use Rattle.rules.specs.Examples.{minus, poked, sequence, right}
use Rattle.riff.specs.Files.{sound_file, rate_in, width_in, samples_in, sound_read_refusal}
use Rattle.riff.specs.Segments.{sound_of, sound_write_refusal}

-- 16-bit samples −3, 32,767 and −32,768 at 48,000 hertz
unfoldable pub words : List ℕ
words =
    0x52 ∷ 0x49 ∷ 0x46 ∷ 0x46 ∷ 42 ∷ 0 ∷ 0 ∷ 0 ∷ 0x57 ∷ 0x41 ∷ 0x56 ∷ 0x45 ∷ 0x66 ∷ 0x6d ∷ 0x74 ∷ 0x20 ∷ 16 ∷ 0 ∷ 0 ∷ 0 ∷ 1 ∷ 0 ∷ 1 ∷ 0
    ∷ 0x80 ∷ 0xbb ∷ 0 ∷ 0 ∷ 0x00 ∷ 0x77 ∷ 1 ∷ 0 ∷ 2 ∷ 0 ∷ 16 ∷ 0 ∷ 0x64 ∷ 0x61 ∷ 0x74 ∷ 0x61 ∷ 6 ∷ 0 ∷ 0 ∷ 0 ∷ 0xfd ∷ 0xff ∷ 0xff ∷ 0x7f ∷ 0x00 ∷ 0x80 ∷ []

-- 8-bit samples −128, 0 and 127 at 8,000 hertz: three bytes of data, and so a pad
unfoldable pub bytes_padded : List ℕ
bytes_padded =
    0x52 ∷ 0x49 ∷ 0x46 ∷ 0x46 ∷ 40 ∷ 0 ∷ 0 ∷ 0 ∷ 0x57 ∷ 0x41 ∷ 0x56 ∷ 0x45 ∷ 0x66 ∷ 0x6d ∷ 0x74 ∷ 0x20 ∷ 16 ∷ 0 ∷ 0 ∷ 0 ∷ 1 ∷ 0 ∷ 1 ∷ 0
    ∷ 0x40 ∷ 0x1f ∷ 0 ∷ 0 ∷ 0x40 ∷ 0x1f ∷ 0 ∷ 0 ∷ 1 ∷ 0 ∷ 8 ∷ 0 ∷ 0x64 ∷ 0x61 ∷ 0x74 ∷ 0x61 ∷ 3 ∷ 0 ∷ 0 ∷ 0 ∷ 0 ∷ 128 ∷ 255 ∷ 0 ∷ []

-- what a read answers: 0, the rate, the width and the samples; or the number alone
abbrev pub answer : ℕ → List ℤ → List ℤ
answer zero found = pos 0 ∷ found
answer (suc n) found = pos (suc n) ∷ []

abbrev pub read : List ℕ → ℕ → List ℤ
read f room = answer (sound_read_refusal f room) (pos (rate_in f) ∷ pos (width_in f) ∷ samples_in f)

-- whatever room there is, this file is not of the form
abbrev pub not_read : List ℕ → List ℤ × List ℤ
not_read f = (read f 9, pos 21 ∷ [])

unfoldable pub files : List (List ℤ × List ℤ)
files =
    -- written
    (map pos (sound_file 48000 2 (minus 3 ∷ pos 32767 ∷ minus 32768 ∷ [])), map pos words)
    ∷ (map pos (sound_file 8000 1 (minus 128 ∷ pos 0 ∷ pos 127 ∷ [])), map pos bytes_padded)
    -- read back; room for two of three
    ∷ (read words 9, pos 0 ∷ pos 48000 ∷ pos 2 ∷ minus 3 ∷ pos 32767 ∷ minus 32768 ∷ [])
    ∷ (read bytes_padded 3, pos 0 ∷ pos 8000 ∷ pos 1 ∷ minus 128 ∷ pos 0 ∷ pos 127 ∷ [])
    ∷ (read bytes_padded 2, pos 13 ∷ [])
    -- a pad of one, no pad, a byte more
    ∷ not_read (poked ((47, 1 ∷ []) ∷ []) bytes_padded)
    ∷ not_read (take 47 bytes_padded)
    ∷ not_read (words ++ (0 ∷ []))
    -- the RIFF count without the pad; the pad counted as data is the file of four samples
    ∷ not_read (poked ((4, 39 ∷ []) ∷ []) bytes_padded)
    ∷ (read (poked ((40, 4 ∷ []) ∷ []) bytes_padded) 9, pos 0 ∷ pos 8000 ∷ pos 1 ∷ minus 128 ∷ pos 0 ∷ pos 127 ∷ minus 128 ∷ [])
    -- the byte rate without the width, another format, two channels, a width that is not that of the bits
    ∷ not_read (poked ((28, 0x80 ∷ 0xbb ∷ 0 ∷ []) ∷ []) words)
    ∷ not_read (poked ((20, 3 ∷ []) ∷ []) words)
    ∷ not_read (poked ((22, 2 ∷ []) ∷ []) words)
    ∷ not_read (poked ((34, 8 ∷ []) ∷ []) words)
    -- rate 0, and 2,147,483,648 with the byte rate that it has in four bytes
    ∷ not_read (poked ((24, 0 ∷ 0 ∷ []) ∷ (28, 0 ∷ 0 ∷ 0 ∷ []) ∷ []) words)
    ∷ not_read (poked ((24, 0 ∷ 0 ∷ 0 ∷ 128 ∷ 0 ∷ 0 ∷ 0 ∷ 128 ∷ []) ∷ []) bytes_padded)
    -- no samples, half a sample, no file
    ∷ not_read (poked ((4, 36 ∷ []) ∷ (40, 0 ∷ []) ∷ []) (take 44 words))
    ∷ not_read (poked ((40, 5 ∷ []) ∷ (49, 0 ∷ []) ∷ []) words)
    ∷ not_read []
    -- segment 2 of 01's example of two segments of five words; and its refusals in their order
    ∷ (
      map pos (sound_of sequence 1 2 48000),
      map pos (poked ((4, 46 ∷ []) ∷ (40, 10 ∷ []) ∷ []) (take 44 words) ++ (12 ∷ 11 ∷ 14 ∷ 13 ∷ 16 ∷ 15 ∷ 18 ∷ 17 ∷ 20 ∷ 19 ∷ [])),
    )
    ∷ (
      map pos
          (sound_write_refusal sequence 1 2 48000 54
          ∷ sound_write_refusal sequence 1 2 48000 53
          ∷ sound_write_refusal sequence 1 2 0 0
          ∷ sound_write_refusal sequence 1 2 2147483648 0
          ∷ sound_write_refusal sequence 1 3 0 0
          ∷ sound_write_refusal sequence 2 3 0 0
          ∷ sound_write_refusal [] 2 3 0 0
          ∷ []),
      pos 0 ∷ pos 13 ∷ pos 21 ∷ pos 21 ∷ pos 10 ∷ pos 9 ∷ pos 1 ∷ [],
    )
    ∷ []
