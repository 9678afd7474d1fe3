-- The three tests of rule 4.
use Rattle.numbers.proofs.Bools.{and_assoc, and_end}
use Rattle.rules.specs.Rules.{formed}
use lib.Seq.{get_or-drop}
use Rattle.descriptor.proofs.judged.is_formed.Goals as goal

pub returns : goal.returns
unfolding formed
returns c = let a = c.args in simp (and_assoc, and_end, get_or-drop a.start a.block.now 34 0, get_or-drop a.start a.block.now 35 0)
