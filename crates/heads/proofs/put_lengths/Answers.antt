-- Four stores, from the last field to the first.
use Rattle.heads.proofs.Heads.{stored_four}
use Rattle.heads.proofs.put_lengths.Goals as goal

pub returns : goal.returns
returns c =
    let a = c.args in
    stored_four a.order a.at (48, a.changes.trig) (60, a.changes.one) (64, a.changes.two) (116, a.changes.count) _ _ _ _ _ c.put_u32.ensures c.put_u32-2.ensures c.put_u32-3.ensures c.put_u32-4.ensures
