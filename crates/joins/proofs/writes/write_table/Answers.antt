-- Nothing where there is no table, and else its rows.
use Rattle.joins.proofs.Tabled.{rows_none}
use Rattle.joins.proofs.writes.write_table.Goals as goal

pub returns-then-size-lt1 : goal.returns-then-size-lt1
returns-then-size-lt1 c = let a = c.args in rows_none a.parts.now a.out.now a.from a.size a.count a.at c.if-size-lt1.true
