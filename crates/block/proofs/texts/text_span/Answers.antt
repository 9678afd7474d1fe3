-- The text is part 1 of the layout.
use native.Mathlib.Omega.{arith}
use Prim.Native.Nat.{◌+◌, ◌≤◌}
use lib.ListN.{length, get_or}
use Rattle.block.proofs.Parts.{no_text, text-fits, text_at}
use Rattle.block.proofs.texts.text_span.Goals as goal
use Rattle.block.proofs.texts.text_span.Goals.{Else-o-ne0}

room : (c : Else-o-ne0) → let o = c.args.o in o.start + get_or o.layout.starts 1 0 + get_or o.layout.lengths 1 0 ≤ length c.args.block.now
room c = text-fits c.args.block.now c.requires.bytes c.args.o c.requires.o_value c.if-o-ne0.false

pub returns-then-o-ne0 : goal.returns-then-o-ne0
returns-then-o-ne0 c = no_text c.args.block.now c.args.o c.requires.o_value c.if-o-ne0.true

pub overflow_add-from : goal.overflow_add-from
overflow_add-from c = omega (arith, room (goal.at.overflow_add-from c).Else-o-ne0)

pub overflow_cast-to : goal.overflow_cast-to
overflow_cast-to c = omega (arith, room (goal.at.overflow_cast-to c).Else-o-ne0)

pub overflow_add-to : goal.overflow_add-to
overflow_add-to c = omega (arith, room (goal.at.overflow_add-to c).Else-o-ne0)

pub returns : goal.returns
returns c =
    text_at c.args.block.now c.requires.bytes c.args.o c.requires.o_value c.if-o-ne0.false
