-- Each turn stores the next number, which is the same in 32 bits.
use mathlib.Core.Path.{◌≡◌}
use mathlib.Core.List.{map}
use Prim.Native.Nat.{ℕ, ◌^◌, ◌≤◌, ◌<◌}
use lib.IntN.{pos, nat_abs}
use lib.ListN.{get_or}
use Rattle.rules.specs.Numbers.{up_from}
use Rattle.fills.specs.Fills.{over}
use Rattle.fills.proofs.samples.widen.Given as goal

abbrev pub invariant-loop-k : goal.invariant-loop-k
invariant-loop-k l =
    (l.k ≤ 64) × (l.wide ≡ over l.initial.wide 0 (map (λ j. get_or l.samples j (pos 0)) (up_from 0 l.k))) × ((j : ℕ) → j < l.k → nat_abs (get_or l.samples j (pos 0)) ≤ 2 ^ 28)
