-- What a write leaves: nothing written is nothing changed.
use mathlib.Core.Path.{◌≡◌}
use mathlib.Core.List.{List, [], append-nil}
use Prim.Native.Nat.{ℕ}
use native.Mathlib.Nat.{add-zero}
use lib.ListN.{take-append-drop}
use Rattle.rules.specs.Numbers.{splice}

pub splice_none : (l : List ℕ) (at : ℕ) → l ≡ splice l at []
splice_none l at = rw (add-zero, append-nil, take-append-drop)
