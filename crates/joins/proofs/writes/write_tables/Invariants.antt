-- Each table stands behind the one before.
use mathlib.Core.Path.{◌≡◌}
use Prim.Native.Nat.{◌+◌}
use lib.ListN.{length, get_or}
use Rattle.rules.specs.Numbers.{splice, starts_from}
use Rattle.joins.specs.Steps.{tables_to}
use Rattle.joins.proofs.writes.write_tables.Given as goal

abbrev pub invariant-loop-length : goal.invariant-loop-length
invariant-loop-length l =
    (l.from ≡ get_or (starts_from 0 l.fn.lead.lengths) (3 + l.length-index) 0) × (l.to ≡ l.at + length (tables_to l.length-index l.parts)) × (l.out ≡ splice l.initial.out l.at (tables_to l.length-index l.parts))
