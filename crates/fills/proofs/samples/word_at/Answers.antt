-- The low byte first, turned, is the high byte first; and every other order is the low byte first.
use mathlib.Core.Path.{sym, ◌∙◌}
use Prim.Native.Nat.{◌+◌}
use native.Mathlib.Omega.{arith}
use lib.ListN.{take, drop}
use Rattle.rules.specs.Numbers.{low}
use Rattle.numbers.proofs.Reading.{number-low, read-high, read_low}
use Rattle.fills.proofs.samples.word_at.Goals as goal

pub returns-then-order-eq0 : goal.returns-then-order-eq0
unfolding low
returns-then-order-eq0 c =
    let a = c.args in
    let byte = c.type_inv.block in
    let l = a.block.now in
    omega (
      arith,
      c.swap_bytes.ensures,
      c.u16_at-n.ensures,
      byte a.at,
      byte (a.at + 1),
      read_low l a.at 2 1 (omega arith) (λ e. omega arith),
      read-high l a.at 2 a.order (omega arith) c.if-order-eq0.true,
    )

pub returns : goal.returns
returns c =
    let a = c.args in
    let bs = take 2 (drop a.at a.block.now) in
    c.u16_at-n.ensures ∙ number-low 1 bs (λ e. omega arith) ∙ sym (number-low a.order bs c.if-order-eq0.false)
