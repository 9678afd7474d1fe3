-- Each turn draws the next column.
use mathlib.Core.Path.{◌≡◌}
use mathlib.Core.List.{List, map, flatten}
use Prim.Native.Nat.{ℕ}
use lib.IntN.{ℤ}
use Rattle.rules.specs.Numbers.{up_from}
use Rattle.columns.specs.Columns.{lesser, greater, joined, start, column}
use Rattle.fills.specs.Fills.{sample_at, over}
use Rattle.tallies.specs.Tallies.{Seen}
use Rattle.strips.proofs.drawing.draw_each.Given as goal

-- what column j is written as, and the first q columns
module _ {A : Type 0} (written : ℤ → List A) (op : ℤ → ℤ → ℤ) (f : ℕ → ℤ) (m w : ℕ) where
  abbrev pub one : ℕ → List A
  one j = written (joined op (column f m w j))

  abbrev pub first : ℕ → List A
  first q = flatten (map one (up_from 0 q))

abbrev pub invariant-loop-q : goal.invariant-loop-q
invariant-loop-q g l =
    let f = sample_at l.order l.size l.block l.from in
    let written = g.T.Element.written in
    (l.a ≡ start l.count l.columns l.q) × Seen l.size f l.a l.t
    × (l.lows ≡ over l.initial.lows 0 (first written lesser f l.count l.columns l.q)) × (l.highs ≡ over l.initial.highs 0 (first written greater f l.count l.columns l.q))
