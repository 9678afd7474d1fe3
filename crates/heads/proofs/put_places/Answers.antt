-- Four stores, from the last field to the first.
use Rattle.heads.proofs.Heads.{stored_four}
use Rattle.heads.proofs.put_places.Goals as goal

pub returns : goal.returns
returns c =
    let a = c.args in
    stored_four a.order a.at (132, a.changes.first) (136, a.changes.sparsing) (140, a.changes.index) (144, a.changes.subarrays) _ _ _ _ _ c.put_u32.ensures c.put_u32-2.ensures c.put_u32-3.ensures c.put_u32-4.ensures
