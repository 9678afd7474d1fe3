-- The 4 bytes at an offset of the template are that field.
use mathlib.Core.Path.{◌∙◌}
use Rattle.rules.proofs.Slices.{field_is}
use Rattle.descriptor.proofs.fields.long.Goals as goal

pub returns : goal.returns
returns c = let a = c.args in c.u32_at.ensures ∙ field_is a.order 4 a.start a.block.now a.at c.requires.at_value
