-- Each field has its width at its offset of the template.
use borrow.Author.Rules.{rules}
use Rattle.rules.specs.Template.{template, width_at}
use Rattle.descriptor.proofs.fields.patterns_of.Goals as goal

pub long-requires : goal.long-requires
unfolding width_at template
long-requires c = search rules

pub long-requires-2 : goal.long-requires-2
unfolding width_at template
long-requires-2 c = search rules

pub long-requires-3 : goal.long-requires-3
unfolding width_at template
long-requires-3 c = search rules

pub quad-requires : goal.quad-requires
unfolding width_at template
quad-requires c = search rules

pub returns : goal.returns
returns c = cc
