-- By the two letters: one of the four keys, or none.
use mathlib.Core.Path.{refl, ◌∙◌}
use mathlib.Core.Bool.{true, false}
use Prim.Native.Nat.{◌+◌}
use lib.ListN.{get_or}
use lib.Dec.{eqb}
use borrow.Author.Tests.{ne_eqb}
use Rattle.lines.specs.Reader.{key_of}
use Rattle.setups.proofs.Steps.{key_is, key_by}
use Rattle.setups.proofs.reads.key_at.Goals as goal

pub returns-in-83-eq80 : goal.returns-in-83-eq80
unfolding key_of
returns-in-83-eq80 c = key_is c.args.line.now c.args.at c.requires 83 80 c.in-83-eq80.is-0 c.in-83-eq80.is-1

pub returns-in-83-eq78 : goal.returns-in-83-eq78
unfolding key_of
returns-in-83-eq78 c = key_is c.args.line.now c.args.at c.requires 83 78 c.in-83-eq78.is-0 c.in-83-eq78.is-1

pub returns-in-78-eq80 : goal.returns-in-78-eq80
unfolding key_of
returns-in-78-eq80 c = key_is c.args.line.now c.args.at c.requires 78 80 c.in-78-eq80.is-0 c.in-78-eq80.is-1

pub returns-in-70-eq80 : goal.returns-in-70-eq80
unfolding key_of
returns-in-70-eq80 c = key_is c.args.line.now c.args.at c.requires 70 80 c.in-70-eq80.is-0 c.in-70-eq80.is-1

pub returns-in_default : goal.returns-in_default
returns-in_default c =
    let y = get_or c.args.line.now (c.args.at + 1) 0 in
    let n = c.in_default.is-1 in
    key_by 83 y true false false false false refl refl refl (ne_eqb y 80 n.0.1) (ne_eqb y 78 n.1) ∙ key_is c.args.line.now c.args.at c.requires 83 y c.in_default.is-0 refl

pub returns-in_default-2 : goal.returns-in_default-2
returns-in_default-2 c =
    let y = get_or c.args.line.now (c.args.at + 1) 0 in
    key_by 78 y false true false false (eqb y 78) refl refl refl (ne_eqb y 80 c.in_default.is-1.1) refl ∙ key_is c.args.line.now c.args.at c.requires 78 y c.in_default.is-0 refl

pub returns-in_default-3 : goal.returns-in_default-3
returns-in_default-3 c =
    let y = get_or c.args.line.now (c.args.at + 1) 0 in
    key_by 70 y false false true false (eqb y 78) refl refl refl (ne_eqb y 80 c.in_default.is-1.1) refl ∙ key_is c.args.line.now c.args.at c.requires 70 y c.in_default.is-0 refl

pub returns-in_default-4 : goal.returns-in_default-4
returns-in_default-4 c =
    let x = get_or c.args.line.now c.args.at 0 in
    let y = get_or c.args.line.now (c.args.at + 1) 0 in
    let n = c.in_default.is-0 in
    key_by x y false false false (eqb y 80) (eqb y 78) (ne_eqb x 83 n.0.0.1) (ne_eqb x 78 n.0.1) (ne_eqb x 70 n.1) refl refl ∙ key_is c.args.line.now c.args.at c.requires x y refl refl
