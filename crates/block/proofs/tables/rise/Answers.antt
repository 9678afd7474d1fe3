-- Either order, by the same loop.
use mathlib.Core.Path.{ap, ◌∙◌}
use Prim.Native.Nat.{ℕ}
use Rattle.rules.specs.Rules.{first}
use Rattle.block.specs.Opened.{entry_rules}
use Rattle.block.proofs.tables.rise.Goals as goal

pub returns-then-order-eq0 : goal.returns-then-order-eq0
returns-then-order-eq0 c e =
    let a = c.args in
    ap (λ (o : ℕ). first (entry_rules o a.from a.count a.block.now)) c.if-order-eq0.true ∙ c.rise_by.ensures e
