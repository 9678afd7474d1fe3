-- The library's reading of the 4 bytes, in either order.
use mir.Syntax.{w32}
use Rattle.numbers.proofs.Reading.{high-first, low-first}
use Rattle.numbers.proofs.reads.u32_at.Goals as goal

pub returns-then-order-eq0 : goal.returns-then-order-eq0
returns-then-order-eq0 c = high-first w32 c.args.s.now c.args.at c.args.order c.from_be_bytes.result c.bytes_at-b.result c.requires c.bytes_at-b.ensures c.if-order-eq0.true c.from_be_bytes.ensures

pub returns-else-order-eq0 : goal.returns-else-order-eq0
returns-else-order-eq0 c = low-first w32 c.args.s.now c.args.at c.args.order c.from_le_bytes.result c.bytes_at-b.result c.requires c.bytes_at-b.ensures c.if-order-eq0.false c.from_le_bytes.ensures
