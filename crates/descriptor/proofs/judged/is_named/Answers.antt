-- Two numbers a name.
use Rattle.rules.proofs.Numbers.{below-index}
use Rattle.descriptor.proofs.Names.{names_tests}
use Rattle.descriptor.proofs.judged.is_named.Goals as goal

pub returns : goal.returns
returns c o =
    let a = c.args in
    names_tests a.block.now (below-index 256 a.block.now (λ i h. (c.type_inv.block i).fits)) a.start c.requires o _ _ _ _
    c.u64_at-a.ensures (c.u8_at-b.ensures 0) c.u64_at-c.ensures c.u64_at-d.ensures
