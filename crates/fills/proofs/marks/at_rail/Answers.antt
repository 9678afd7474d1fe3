-- The two numbers of a byte, or of a word.
use mathlib.Core.Path.{◌≡◌, sym, ap}
use native.Mathlib.Omega.{arith}
use lib.Dec.{lit<}
use lib.IntN.{pos, negsuc}
use mir.Syntax.{w16}
use Rattle.rules.specs.Numbers.{lowest, highest}
use Rattle.fills.proofs.Marking.{rail_bits}
use Rattle.fills.proofs.marks.at_rail.Goals as goal

pub returns-then-size-eq1 : goal.returns-then-size-eq1
returns-then-size-eq1 c =
    let e : c.args.size ≡ 1 = omega (arith, c.if-size-eq1.true) in
    rail_bits w16 c.args.size c.args.sample (negsuc 127) (pos 127) c.ranges.sample (record { sfits = lit< tt }) (record { sfits = lit< tt }) (sym (ap lowest e)) (sym (ap highest e))

pub returns : goal.returns
returns c =
    let e : c.args.size ≡ 2 = omega (arith, c.if-size-eq1.false, c.requires) in
    rail_bits w16 c.args.size c.args.sample (negsuc 32767) (pos 32767) c.ranges.sample (record { sfits = lit< tt }) (record { sfits = lit< tt }) (sym (ap lowest e)) (sym (ap highest e))
