-- What is known of some samples, and of all before a point: what the helpers of a strip hand on. Definitions only.
use Rattle.std.specs.Prelude.{◌≡◌, ℕ, ◌+◌, ◌-◌, ◌≤◌, ◌<◌, false, cond, List, ◌∷◌, map, leb, ℤ, pos, negsuc}
use Rattle.std.specs.Int.Signed.{lt_z, le_z}
use Rattle.rules.specs.Numbers.{total}
use Rattle.rules.specs.Points.{mark_count_of}
use Rattle.columns.specs.Columns.{lesser, greater, least, greatest, run}
use Rattle.tallies.specs.declared.Tally.{Tally}
use Rattle.tallies.specs.declared.extents.Extent.{Extent}

-- how far a sample is above −32,768; and some samples together
unfoldable pub height : ℤ → ℕ
height (pos n) = n + 32768
height (negsuc n) = 32767 - n

unfoldable pub heights : List ℤ → ℕ
heights xs = total (map height xs)

abbrev pub extent_of : List ℤ → Extent
extent_of xs = record { least = least xs; greatest = greatest xs; heights = heights xs }

-- a tally of no samples; and one with a column of none
abbrev pub nothing : Tally
nothing = record { least = pos 32767; greatest = negsuc 32767; heights = 0; marks = 0; top = negsuc 32767; near = 0 }

abbrev pub fresh : Tally → Tally
fresh t = record { least = pos 32767; greatest = negsuc 32767; heights = t.heights; marks = t.marks; top = t.top; near = t.near }

-- one with some samples more, so many of them at the rail, which start with the one numbered `at`
abbrev pub together : Tally → Extent → ℕ → ℕ → Tally
together t e marks at = record {
  least = lesser t.least e.least;
  greatest = greater t.greatest e.greatest;
  heights = t.heights + e.heights;
  marks = t.marks + marks;
  top = greater t.top e.greatest;
  near = cond (lt_z t.top e.greatest) at t.near;
}

-- 256 points from a on, or those up to b
abbrev pub end : ℕ → ℕ → ℕ
end a b = cond (leb (b - a) 256) b (a + 256)

-- what a tally says of the samples f before point b: none before `near` is the greatest of them
pub record Seen (size : ℕ) (f : ℕ → ℤ) (b : ℕ) (t : Tally) : Type 0 where
  pub heights_are : t.heights ≡ heights (run f 0 b)
  pub marks_are : t.marks ≡ mark_count_of size (run f 0 b)
  pub top_is : t.top ≡ greatest (negsuc 32767 ∷ run f 0 b)
  pub below : (j : ℕ) → j < t.near → le_z t.top (f j) ≡ false
  pub within : t.near ≤ b

-- and of those from a up to b
pub record Spanned (f : ℕ → ℤ) (a b : ℕ) (t : Tally) : Type 0 where
  pub least_is : t.least ≡ least (pos 32767 ∷ run f a b)
  pub greatest_is : t.greatest ≡ greatest (negsuc 32767 ∷ run f a b)
