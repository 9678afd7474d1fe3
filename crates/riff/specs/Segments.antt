-- One segment's array as a sound file, and the refusals of writing it. Definitions only.
use Rattle.std.specs.Prelude.{ℕ, Bool, List, [], ◌∷◌, ◌++◌, map, length, leb, ℤ}
use Rattle.rules.specs.Numbers.{up_from}
use Rattle.rules.specs.Wave.{Wave, size_of, points}
use Rattle.rules.specs.Rules.{first, rules, opened}
use Rattle.rules.specs.Points.{sample, segment_rules}
use Rattle.riff.specs.Files.{sound_file, rated}

-- the samples of segment n of array a, in the order of its points
unfoldable pub samples : Wave → ℕ → ℕ → List ℤ
samples v a n = map (sample v a n) (up_from 0 (points v.head))

-- their file, in the width of the block's samples
unfoldable pub sound_of : List ℕ → ℕ → ℕ → ℕ → List ℕ
sound_of s a n rate = sound_file rate (size_of (opened s).head) (samples (opened s) a n)

-- refusals as for a fill, with 21 for the rate; 13 for an output of fewer bytes than the file
unfoldable pub sound_rules : ℕ → List ℕ → ℕ → List (ℕ × List Bool)
sound_rules rate file room = (21, rated rate) ∷ (13, leb (length file) room ∷ []) ∷ []

unfoldable pub sound_write_refusal : List ℕ → ℕ → ℕ → ℕ → ℕ → ℕ
sound_write_refusal s a n rate room = first (rules s ++ (segment_rules a n (opened s).head ++ sound_rules rate (sound_of s a n rate) room))
