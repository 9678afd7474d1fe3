-- Each turn keeps the half in which the rank is.
use mathlib.Core.Path.{◌≡◌, sym, ap, ◌∙◌}
use mathlib.Core.Bool.{Bool}
use Prim.Native.Nat.{ℕ, ◌+◌, ◌/◌}
use native.Mathlib.Omega.{arith}
use lib.Ieee.{le}
use mir.Syntax.{w16}
use mir.ValLaws.{to_z-of_z}
use Rattle.rules.specs.Points.{value_of}
use Rattle.levels.specs.Levels.{ranked}
use Rattle.levels.proofs.Halves.{from_there, up_to_there, edge_met}
use Rattle.levels.proofs.edge.Goals as goal
use Rattle.levels.proofs.edge.Goals.{After-value}

pub loop-low-init : goal.loop-low-init
loop-low-init c = (omega arith, omega arith, (λ j h. absurd (omega arith)), (λ j h l. absurd (omega arith)))

-- what the comparison says of the rank in the middle
tried : (c : After-value)
    → (let a = c.args in
    let l = c.loop-low in le a.level (value_of a.c.gain a.c.offset (ranked a.falling ((l.low + l.high) / 2))) ≡ le a.level c.value.result)
tried c =
    let a = c.args in
    let r = c.ranked in
    sym (ap (le a.level) (c.value.ensures.value ∙ ap (value_of a.c.gain a.c.offset) (to_z-of_z w16 r.result (record { sfits = r.type_inv }) ∙ c.ranked.ensures)))

pub loop-low-preserved-then-level-value : goal.loop-low-preserved-then-level-value
loop-low-preserved-then-level-value c =
    let l = c.loop-low in
    let p : ℕ → Bool = λ j. le c.args.level (value_of c.args.c.gain c.args.c.offset (ranked c.args.falling j)) in
    (omega (arith, l.invariant.0), omega (arith, l.invariant.1), l.invariant.2, λ j h m. from_there p 65536 c.requires.rises _ j (tried (goal.at.loop-low-preserved-then-level-value c).After-value ∙ c.if-level-value.true) h m)

pub loop-low-preserved : goal.loop-low-preserved
loop-low-preserved c =
    let l = c.loop-low in
    let p : ℕ → Bool = λ j. le c.args.level (value_of c.args.c.gain c.args.c.offset (ranked c.args.falling j)) in
    (omega (arith, l.invariant.0), l.invariant.1, (λ j h. up_to_there p 65536 c.requires.rises _ j (tried (goal.at.loop-low-preserved c).After-value ∙ c.if-level-value.false) (omega arith) (omega (arith, l.invariant.1))), l.invariant.3)

pub returns : goal.returns
returns c =
    let a = c.args in
    let l = c.loop-low in
    edge_met (λ (j : ℕ). le a.level (value_of a.c.gain a.c.offset (ranked a.falling j))) 65536 l.low l.high l.invariant.0 (omega arith) l.invariant.1 l.invariant.2 l.invariant.3
