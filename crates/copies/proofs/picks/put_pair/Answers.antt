-- Two stores are one write (`sets-eq`).
use mathlib.Core.List.{[], ◌∷◌}
use native.Mathlib.Numerals.{add-one}
use native.Mathlib.Omega.{arith}
use lib.Seq.{sets-eq}
use Rattle.copies.proofs.picks.put_pair.Goals as goal

pub returns-then-same : goal.returns-then-same
returns-then-same c =
    let a = c.args in
    rw (c.if-same.true, add-one) (sets-eq (a.a ∷ a.b ∷ []) a.out.now a.at (omega arith))

pub returns : goal.returns
returns c =
    let a = c.args in
    rw (c.if-same.false, add-one) (sets-eq (a.b ∷ a.a ∷ []) a.out.now a.at (omega arith))
