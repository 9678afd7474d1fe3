-- The front of a joined block: the fields that follow from the number of parts, and when it can be written. Definitions only.
use Rattle.std.specs.Prelude.{◌≡◌, List, ℕ, ◌*◌, ◌≤◌}
use Rattle.rules.specs.Wave.{order_of, points, segments, lengths_of}
use Rattle.rules.specs.Rules.{payload_start, refusal, opened}
use Rattle.heads.specs.declared.Changes.{Changes}
use Rattle.joining.proofs.Breaks.{joined_length}
use Rattle.fronts.specs.declared.Lead.{Lead}

-- what the code holds of a good part
abbrev pub lead_of : List ℕ → Lead
lead_of p = record { start = payload_start p; order = order_of (opened p).head; lengths = lengths_of (opened p).head }

-- of n parts with the descriptor h
abbrev pub changes_for : ℕ → (ℕ → ℕ) → Changes
changes_for n h = record { trig = n * h 48; one = n * h 60; two = n * h 64; count = n * points h; first = h 132; sparsing = h 136; index = 0; subarrays = n }

-- p is a good part of one segment, and n such parts are no longer than a block can be
pub record Fronting (p : List ℕ) (lead : Lead) (n : ℕ) : Type 0 where
  pub leads : lead ≡ lead_of p
  pub good : refusal p ≡ 0
  pub alone : segments (opened p).head ≡ 1
  pub small : joined_length n (opened p).head ≤ 16777216
