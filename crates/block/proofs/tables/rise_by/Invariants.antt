-- Entry by entry: the others have only to rise from here.
use mathlib.Core.Path.{◌≡◌}
use Prim.Native.Nat.{◌-◌}
use Rattle.rules.specs.Rules.{first}
use Rattle.block.specs.Opened.{entry_rules}
use Rattle.block.proofs.Times.{Rising}
use Rattle.block.proofs.tables.rise_by.Given as goal

abbrev pub invariant-loop-j : goal.invariant-loop-j
invariant-loop-j l = Rising l.order l.from l.block (l.count - l.j) l.j l.last → first (entry_rules l.order l.from l.count l.block) ≡ 0
