-- The two highest bytes, first or last.
use mathlib.Core.Path.{ap, ◌∙◌}
use Prim.Native.Nat.{ℕ, ◌%◌}
use lib.Dec.{ltb}
use Rattle.rules.specs.Numbers.{Bytes}
use Rattle.rules.specs.Rules.{finite64}
use Rattle.rules.proofs.Numbers.{below-index}
use Rattle.numbers.proofs.Patterns.{finite-first, finite_last}
use Rattle.numbers.proofs.floats.finite_double_at.Goals as goal
use Rattle.numbers.proofs.floats.finite_double_at.Goals.{After-shared_slice_known-1}

bytes : (c : After-shared_slice_known-1) → Bytes c.args.s.now
bytes c = below-index 256 c.args.s.now (λ i h. (c.type_inv.s i).fits)

pub returns-then-order-eq0 : goal.returns-then-order-eq0
unfolding finite64
returns-then-order-eq0 c =
    let a = c.args in
    ap (λ (n : ℕ). ltb (n % 32768) 32752) c.u16_at.ensures ∙ finite-first a.s.now a.at a.order (bytes (goal.at.returns-then-order-eq0 c).After-shared_slice_known-1) c.requires c.if-order-eq0.true

pub returns : goal.returns
unfolding finite64
returns c =
    let a = c.args in
    ap (λ (n : ℕ). ltb (n % 32768) 32752) c.u16_at-2.ensures ∙ finite_last a.s.now a.at a.order (bytes (goal.at.returns c).After-shared_slice_known-1) c.requires c.if-order-eq0.false
