-- The loop compares one byte more at each turn.
use Prim.Native.Nat.{◌-◌}
use native.Mathlib.Omega.{arith}
use Rattle.rules.specs.Rules.{same}
use Rattle.copies.specs.Copies.{part}
use Rattle.parts.proofs.Comparing.{compared_first, compared_step, compared_last}
use Rattle.parts.proofs.same_bytes.Goals as goal

pub loop-i-init : goal.loop-i-init
loop-i-init c = (omega arith, compared_first c.args.parts.now c.args.a c.args.b c.args.count)

pub loop-i-preserved : goal.loop-i-preserved
loop-i-preserved c =
    let a = c.args in
    let l = c.loop-i in
    (omega arith, compared_step a.parts.now a.a a.b a.count l.i 0 (omega arith) c.requires.0 c.requires.1 (same (part a.parts.now a.a a.count) (part a.parts.now a.b a.count)) l.ok l.invariant.1)

pub returns : goal.returns
returns c =
    let a = c.args in
    let l = c.loop-i in
    compared_last a.parts.now a.a a.b a.count l.i (same (part a.parts.now a.a a.count) (part a.parts.now a.b a.count)) l.ok (omega arith) l.invariant.1
