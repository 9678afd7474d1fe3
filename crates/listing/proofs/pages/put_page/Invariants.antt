-- Line after line; what is written and what is left are always what was left at first.
use mathlib.Core.Path.{◌≡◌}
use mathlib.Core.List.{◌++◌}
use Prim.Native.Nat.{◌+◌, ◌-◌, ◌≤◌}
use lib.ListN.{length, take}
use Rattle.listing.specs.Pages.{line_room, Stands, rest}
use Rattle.listing.proofs.pages.put_page.Given as goal

abbrev pub invariant-loop-here : goal.invariant-loop-here
invariant-loop-here l =
    (length l.out ≡ length l.initial.out)
    × (l.last + line_room ≡ length l.initial.out)
    × (l.at ≤ length l.out)
    × Stands l.block l.here
    × (rest l.block l.initial.here ≡ take l.at l.out ++ rest l.block l.here)
    × (l.at ≡ 0 → l.here ≡ l.initial.here)

abbrev pub decreases-loop-here : goal.decreases-loop-here
decreases-loop-here l = length l.initial.out - l.at
