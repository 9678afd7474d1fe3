-- A listing written piece by piece: what a call writes over a buffer, where a listing stands, and what is left of it there. Definitions only.
use Rattle.std.specs.Prelude.{◌≡◌, cond, ℕ, zero, suc, ◌-◌, ◌≤◌, ◌<◌, length, take, ltb}
use mathlib.Core.List.{List, [], ◌++◌, map, flatten}
use Rattle.rules.specs.Numbers.{up_from}
use Rattle.rules.specs.Wave.{Wave, segments}
use Rattle.rules.specs.Rules.{refusal, opened}
use Rattle.points.specs.Walks.{place_of, moved_to}
use Rattle.listing.specs.Listing.{first_line, refused_line, too_long, segment_lines}
use Rattle.listing.specs.declared.pages.Spot.{Spot}
use Rattle.listing.specs.declared.pages.Page.{Page}

-- room for the longest line, a point's: segment and k of up to ten digits, value and time bits of 16, the mark, and a byte behind each
abbrev pub line_room : ℕ
line_room = 58

-- the first line of what is printed of an input
abbrev pub front_by : ℕ → (ℕ → ℕ) → List ℕ
front_by zero h = first_line h
front_by (suc r) h = refused_line (suc r)

unfoldable pub front : List ℕ → List ℕ
front s = cond (ltb 65536 (length s)) too_long (front_by (refusal s) (opened s).head)

-- before the first point of segment n, or at the end where there is no such segment
abbrev pub spot_at : List ℕ → ℕ → Spot
spot_at s n = record { segment = n; place = place_of s 1 n }

-- a spot is before a point of the block s, or at the end: there its place is refused
pub record Stands (s : List ℕ) (spot : Spot) : Type 0 where
  pub placed : spot.place ≡ moved_to spot.place.k (place_of s 1 spot.segment)
  pub before : spot.place.refusal ≡ 0 → spot.place.k < spot.place.points

-- all lines from point k of segment n on
abbrev pub lines_from : Wave → ℕ → ℕ → List ℕ
lines_from w n k = segment_lines w n k ++ flatten (map (λ m. segment_lines w m 0) (up_from (suc n) (segments w.head - n)))

abbrev pub rest_by : ℕ → List ℕ → List ℕ
rest_by zero ls = ls
rest_by (suc r) ls = []

-- what is left of the listing at a spot
unfoldable pub rest : List ℕ → Spot → List ℕ
rest s spot = rest_by spot.place.refusal (lines_from (opened s) spot.segment spot.place.k)

-- a page: so many bytes at the start of out, which are what is left at one spot up to the other; some, where something is left
pub record Paged (s : List ℕ) (from : Spot) (out : List ℕ) (r : Page) : Type 0 where
  pub stands : Stands s r.spot
  pub within : r.count ≤ length out
  pub lines : rest s from ≡ take r.count out ++ rest s r.spot
  pub some : from.place.refusal ≡ 0 → 0 < r.count
