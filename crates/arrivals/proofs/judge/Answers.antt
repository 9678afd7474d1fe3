-- No part, a bad first one, or those behind it.
use Prim.Native.Nat.{◌<◌}
use native.Mathlib.Omega.{arith}
use Rattle.std.proofs.lemmas.Bool.Decides.{nat_tests}
use mathlib.Core.Bool.{true}
use lib.ListN.{length, replicate}
use Rattle.rules.specs.Numbers.{Bytes}
use Rattle.rules.proofs.Numbers.{below-index}
use Rattle.parts.proofs.Standing.{part-number}
use Rattle.arrivals.proofs.Meeting.{met_none, met_bad}
use Rattle.arrivals.proofs.Turns.{refused_judges, none-refused}
use Rattle.arrivals.proofs.judge.Goals as goal
use Rattle.arrivals.proofs.judge.Goals.{After-shared_slice_known-1}

bytes : (c : After-shared_slice_known-1) → Bytes c.args.parts.now
bytes c = below-index 256 c.args.parts.now (λ i h. (c.type_inv.parts i).fits)

pub returns-then-is_empty : goal.returns-then-is_empty
returns-then-is_empty c =
    let a = c.args in
    let none : length c.args.parts.now < 1 = grind (arith, nat_tests) in
    refused_judges a.parts.now c.refused.result 16 c.refused.ensures (omega arith) (none-refused a.parts.now (bytes (goal.at.returns-then-is_empty c).After-shared_slice_known-1) none)

pub returns-then-first-ne0 : goal.returns-then-first-ne0
returns-then-first-ne0 c =
    let a = c.args in
    let n = c.part_at-first.result.refusal in
    let some : 0 < length c.args.parts.now = grind (arith, nat_tests) in
    refused_judges a.parts.now c.refused-then-first-ne0.result n c.refused-then-first-ne0.ensures (omega (arith, c.if-first-ne0.true))
    (met_bad a.parts.now (replicate 16 0) true 0 0 (met_none a.parts.now) some n (part-number a.parts.now 0 c.part_at-first.result c.part_at-first.ensures) (omega (arith, c.if-first-ne0.true)))

pub meet-requires : goal.meet-requires
meet-requires c = let some : 0 < length c.args.parts.now = grind (arith, nat_tests) in (some, c.part_at-first.ensures, c.if-first-ne0.false)

pub returns : goal.returns
returns c = c.meet.ensures
