-- Ten longs, each at its offset of the template.
use borrow.Author.Rules.{rules}
use Rattle.rules.specs.Template.{template, width_at}
use Rattle.descriptor.proofs.fields.lengths_of.Goals as goal

pub long-requires : goal.long-requires
unfolding width_at template
long-requires c = search rules

pub long-requires-2 : goal.long-requires-2
unfolding width_at template
long-requires-2 c = search rules

pub long-requires-3 : goal.long-requires-3
unfolding width_at template
long-requires-3 c = search rules

pub long-requires-4 : goal.long-requires-4
unfolding width_at template
long-requires-4 c = search rules

pub long-requires-5 : goal.long-requires-5
unfolding width_at template
long-requires-5 c = search rules

pub long-requires-6 : goal.long-requires-6
unfolding width_at template
long-requires-6 c = search rules

pub long-requires-7 : goal.long-requires-7
unfolding width_at template
long-requires-7 c = search rules

pub long-requires-8 : goal.long-requires-8
unfolding width_at template
long-requires-8 c = search rules

pub long-requires-9 : goal.long-requires-9
unfolding width_at template
long-requires-9 c = search rules

pub long-requires-10 : goal.long-requires-10
unfolding width_at template
long-requires-10 c = search rules

pub returns : goal.returns
returns c = cc
