-- Sound files: RIFF WAVE PCM of one channel. The file of a rate, a width and samples, and the same form read back. Definitions only.
use Rattle.std.specs.Prelude.{◌≡◌, ◌⊎◌, ℕ, ◌+◌, ◌-◌, ◌*◌, ◌/◌, ◌%◌, ◌≤◌, Bool, cond, length, take, drop, replicate, leb, ltb, eqb, ℤ, pos, negsuc}
use mathlib.Core.List.{List, [], ◌∷◌, ◌++◌, map, flatten}
use Rattle.rules.specs.Numbers.{number, bytes, signed, unsigned, numbers, all_bytes, EachFits}
use Rattle.rules.specs.Rules.{first, same, either}

-- ---- a sample of w bytes, 1 or 2, as the file has it

-- 8-bit ones unsigned with 128 added
abbrev pub raised : ℤ → ℕ
raised (pos n) = 128 + n
raised (negsuc n) = 127 - n

abbrev pub lowered : ℕ → ℤ
lowered c = cond (ltb c 128) (negsuc (127 - c)) (pos (c - 128))

-- 16-bit ones as they are
unfoldable pub coded : ℕ → ℤ → ℕ
coded w x = cond (eqb w 1) (raised x) (unsigned w x)

unfoldable pub heard : ℕ → ℕ → ℤ
heard w c = cond (eqb w 1) (lowered c) (signed w c)

-- ---- the file

-- numbers of four and of two bytes, low byte first
abbrev pub long : ℕ → List ℕ
long n = bytes 1 4 n

abbrev pub word : ℕ → List ℕ
word n = bytes 1 2 n

-- the zero byte behind an odd data length
abbrev pub pad : ℕ → List ℕ
pad n = replicate (n % 2) 0

-- the RIFF count of n bytes of data: all that stands behind it, the pad too
abbrev pub riff_count : ℕ → ℕ
riff_count n = 36 + n + n % 2

-- the 44 bytes before n bytes of data, of samples of w bytes at a rate
unfoldable pub sound_head : ℕ → ℕ → ℕ → List ℕ
sound_head rate w n =
    flatten
    (
    (82 ∷ 73 ∷ 70 ∷ 70 ∷ [])  -- 0: `RIFF`
    ∷ long (riff_count n)  -- 4
    ∷ (87 ∷ 65 ∷ 86 ∷ 69 ∷ [])  -- 8: `WAVE`
    ∷ (102 ∷ 109 ∷ 116 ∷ 32 ∷ [])  -- 12: `fmt `
    ∷ long 16  -- 16: the bytes of this chunk
    ∷ word 1  -- 20: format 1, PCM
    ∷ word 1  -- 22: one channel
    ∷ long rate  -- 24: in hertz
    ∷ long (rate * w)  -- 28: bytes a second
    ∷ word w  -- 32: bytes a sample
    ∷ word (8 * w)  -- 34: bits a sample
    ∷ (100 ∷ 97 ∷ 116 ∷ 97 ∷ [])  -- 36: `data`
    ∷ long n  -- 40
    ∷ []
    )

-- 44: the samples, low byte first
unfoldable pub sound_data : ℕ → List ℤ → List ℕ
sound_data w xs = all_bytes 1 w (map (coded w) xs)

unfoldable pub sound_file : ℕ → ℕ → List ℤ → List ℕ
sound_file rate w xs = let d = sound_data w xs in sound_head rate w (length d) ++ (d ++ pad (length d))

-- ---- reading: the rate, the bytes of a sample, the data count and the samples

unfoldable pub rate_in : List ℕ → ℕ
rate_in f = number 1 (take 4 (drop 24 f))

unfoldable pub width_in : List ℕ → ℕ
width_in f = number 1 (take 2 (drop 32 f))

unfoldable pub count_in : List ℕ → ℕ
count_in f = number 1 (take 4 (drop 40 f))

unfoldable pub samples_in : List ℕ → List ℤ
samples_in f = map (heard (width_in f)) (numbers 1 (width_in f) (count_in f / width_in f) (drop 44 f))

-- ---- refusals

-- 21 RIFF: a rate
abbrev pub rated : ℕ → List Bool
rated rate = leb 1 rate ∷ leb rate 2147483647 ∷ []

-- 21 RIFF: a file of this exact form; a RIFF count that four bytes do not hold is not of it
unfoldable pub sound_form : List ℕ → List Bool
sound_form f =
    eqb (length f) (44 + count_in f + count_in f % 2)
    ∷ same (take 44 f) (sound_head (rate_in f) (width_in f) (count_in f))
    ∷ leb (riff_count (count_in f)) 4294967295
    ∷ same (drop (44 + count_in f) f) (pad (count_in f))
    ∷ either (width_in f) 1 2
    ∷ eqb (count_in f % width_in f) 0
    ∷ leb 1 (count_in f)
    ∷ rated (rate_in f)

-- of reading a file, with room for so many samples
unfoldable pub sound_read_refusal : List ℕ → ℕ → ℕ
sound_read_refusal f room = first ((21, sound_form f) ∷ (13, leb (count_in f / width_in f) room ∷ []) ∷ [])

-- ---- what a file can hold

-- a rate, a width and samples of that width
pub record Sound (rate w : ℕ) (xs : List ℤ) : Type 0 where
  pub least : 1 ≤ rate
  pub most : rate ≤ 2147483647
  pub width : (w ≡ 1) ⊎ (w ≡ 2)
  pub fit : EachFits w xs
  pub some : 1 ≤ length xs
  pub small : riff_count (length xs * w) ≤ 4294967295
