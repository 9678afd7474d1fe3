-- By what the comparison says.
use mathlib.Core.Path.{sym, ap}
use mathlib.Core.Bool.{Bool, cond}
use Prim.Native.Nat.{◌/◌}
use borrow.Author.Tests.{lt-ltb, le-ltb}
use Rattle.tessarquin.proofs.drawn.room_for.Goals as goal

pub returns-then-answer-lt24 : goal.returns-then-answer-lt24
returns-then-answer-lt24 c = let a = c.args in sym (ap (λ (t : Bool). cond t 0 (a.slice / 8)) (lt-ltb a.answer 24 c.if-answer-lt24.true))

pub returns-else-answer-lt24 : goal.returns-else-answer-lt24
returns-else-answer-lt24 c = let a = c.args in sym (ap (λ (t : Bool). cond t 0 (a.slice / 8)) (le-ltb a.answer 24 c.if-answer-lt24.false))
