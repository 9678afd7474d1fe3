-- Each turn writes one number more.
use mathlib.Core.Path.{◌≡◌}
use lib.ListN.{length, take}
use Rattle.rules.specs.Numbers.{all_bytes, splice}
use Rattle.tessarquin.proofs.portions.put_ten.Given as goal

abbrev pub invariant-loop-i : goal.invariant-loop-i
invariant-loop-i l = record { long : length l.out ≡ length l.initial.out; wrote : l.out ≡ splice l.initial.out l.at (all_bytes 0 8 (take l.i l.ten)) }
