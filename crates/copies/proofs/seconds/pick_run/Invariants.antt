-- The loop gathers one second byte more at each turn.
use mathlib.Core.Path.{◌≡◌}
use mathlib.Core.List.{[], ◌∷◌}
use Prim.Native.Nat.{◌+◌, ◌*◌}
use lib.ListN.{get_or}
use Rattle.rules.specs.Numbers.{splice}
use Rattle.copies.specs.Copies.{gather}
use Rattle.copies.proofs.seconds.pick_run.Given as goal

abbrev pub invariant-loop-i : goal.invariant-loop-i
invariant-loop-i l =
    l.out ≡ splice l.initial.out l.at (gather (λ k. get_or l.src (l.from + 1 + k * 2) 0 ∷ []) l.i)
