-- What is left of the header, written over the start, is the whole header there.
use mathlib.Core.Path.{◌≡◌}
use Prim.Native.Nat.{◌-◌}
use Rattle.rules.specs.Numbers.{splice}
use Rattle.copies.proofs.Head.{digits_left}
use Rattle.copies.proofs.put_header.Given as goal

abbrev pub invariant-loop-k : goal.invariant-loop-k
invariant-loop-k l = splice l.out 0 (digits_left (9 - l.k) l.rest) ≡ splice l.initial.out 0 (digits_left 9 l.n)
