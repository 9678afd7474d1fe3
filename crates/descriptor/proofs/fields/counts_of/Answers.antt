-- Each field has its width at its offset of the template.
use borrow.Author.Rules.{rules}
use Rattle.rules.specs.Template.{template, width_at}
use Rattle.descriptor.proofs.fields.counts_of.Goals as goal

pub word-requires : goal.word-requires
unfolding width_at template
word-requires c = search rules

pub long-requires : goal.long-requires
unfolding width_at template
long-requires c = search rules

pub long-requires-2 : goal.long-requires-2
unfolding width_at template
long-requires-2 c = search rules

pub long-requires-3 : goal.long-requires-3
unfolding width_at template
long-requires-3 c = search rules

pub long-requires-4 : goal.long-requires-4
unfolding width_at template
long-requires-4 c = search rules

pub long-requires-5 : goal.long-requires-5
unfolding width_at template
long-requires-5 c = search rules

pub word-requires-2 : goal.word-requires-2
unfolding width_at template
word-requires-2 c = search rules

pub returns : goal.returns
returns c = cc
