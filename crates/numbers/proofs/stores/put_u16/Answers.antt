-- The 2 bytes that the library makes of v, in either order.
use mir.Syntax.{w16}
use Rattle.numbers.proofs.Storing.{high-first, low-first}
use Rattle.numbers.proofs.stores.put_u16.Goals as goal

pub returns-then-order-eq0 : goal.returns-then-order-eq0
returns-then-order-eq0 c =
    let a = c.args in
    high-first w16 a.out.now c.put_bytes.new.out a.at a.order a.v c.to_be_bytes.result c.put_bytes.ensures c.if-order-eq0.true c.to_be_bytes.ensures

pub returns-else-order-eq0 : goal.returns-else-order-eq0
returns-else-order-eq0 c =
    let a = c.args in
    low-first w16 a.out.now c.put_bytes-else-order-eq0.new.out a.at a.order a.v c.to_le_bytes.result c.put_bytes-else-order-eq0.ensures c.if-order-eq0.false c.to_le_bytes.ensures
