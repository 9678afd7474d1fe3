-- The strip of a segment in W columns, the columns joined in neighbouring pairs, and the refusals of that call. Definitions only.
use Rattle.std.specs.Prelude.{ℕ, Bool, List, [], ◌∷◌, ◌++◌, leb, ℤ}
use Rattle.std.proofs.Math.Option.{Option, none, some}
use Rattle.rules.specs.Numbers.{equal}
use Rattle.rules.specs.Wave.{Wave, size_of, points}
use Rattle.rules.specs.Rules.{first, rules, opened}
use Rattle.rules.specs.Points.{sample, mark_count_of, segment_rules}
use Rattle.crossings.specs.Crossings.{first_from}
use Rattle.columns.specs.Columns.{lesser, greater, greatest, sum_of, pairs, run, columns}

-- the least and the greatest sample of each column; and of all samples the sum, how many stand at the rail, and the first point that holds the greatest
pub record Strip : Type 0 where
  pub leasts : List ℤ
  pub greatests : List ℤ
  pub sum : ℤ
  pub marks : ℕ
  pub peak : ℕ

-- a number, or 0 for none
abbrev pub or_zero : Option ℕ → ℕ
or_zero none = 0
or_zero (some k) = k

-- the first of m points that holds the greatest of their samples f
unfoldable pub peak_of : (ℕ → ℤ) → ℕ → ℕ
peak_of f m = or_zero (first_from (λ k. equal (f k) (greatest (run f 0 m))) 0 m)

-- of the samples f, of so many bytes each, of m points in w columns
unfoldable pub strip : ℕ → (ℕ → ℤ) → ℕ → ℕ → Strip
strip size f m w = record {
  leasts = columns lesser f m w;
  greatests = columns greater f m w;
  sum = sum_of (run f 0 m);
  marks = mark_count_of size (run f 0 m);
  peak = peak_of f m;
}

-- of segment n of array a
unfoldable pub strip_of : Wave → ℕ → ℕ → ℕ → Strip
strip_of v a n w = strip (size_of v.head) (sample v a n) (points v.head) w

-- with its columns joined in neighbouring pairs
unfoldable pub halved : Strip → Strip
halved t = record { leasts = pairs lesser t.leasts; greatests = pairs greater t.greatests; sum = t.sum; marks = t.marks; peak = t.peak }

-- refusals as for a fill: 9 and 10, then 11 for no columns or more than points, and 13 for leasts or greatests with less room than columns
unfoldable pub strip_rules : ℕ → ℕ → ℕ → (ℕ → ℕ) → List (ℕ × List Bool)
strip_rules w low high h = (11, leb 1 w ∷ leb w (points h) ∷ []) ∷ (13, leb w low ∷ leb w high ∷ []) ∷ []

unfoldable pub strip_refusal : List ℕ → ℕ → ℕ → ℕ → ℕ → ℕ → ℕ
strip_refusal s a n w low high = first (rules s ++ (segment_rules a n (opened s).head ++ strip_rules w low high (opened s).head))
