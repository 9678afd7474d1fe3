-- Each turn takes in the next sample; its height by its two bytes.
use mathlib.Core.Path.{◌≡◌}
use mathlib.Core.List.{◌∷◌}
use Prim.Native.Nat.{◌+◌, ◌-◌, ◌*◌, ◌≤◌}
use lib.IntN.{pos, negsuc}
use Rattle.fills.specs.Fills.{sample_at}
use Rattle.columns.specs.Columns.{least, greatest, run}
use Rattle.tallies.specs.Tallies.{heights}
use Rattle.tallies.proofs.extents.measure.Given as goal

abbrev pub invariant-loop-k : goal.invariant-loop-k
invariant-loop-k l =
    let xs = run (sample_at l.order l.size l.block l.from) l.a l.k in
    (l.a ≤ l.k) × (l.k ≤ l.b) × (l.least ≡ least (pos 32767 ∷ xs)) × (l.greatest ≡ greatest (negsuc 32767 ∷ xs)) × (l.high * 256 + l.low ≡ heights xs) × (l.low ≤ (l.k - l.a) * 255) × (l.high ≤ (l.k - l.a) * 255)
