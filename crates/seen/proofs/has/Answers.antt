use borrow.Author.Rules.{rules}
use Rattle.seen.specs.Seen.{seen_of}
use Rattle.seen.proofs.has.Goals as goal

pub returns : goal.returns
unfolding seen_of
returns c = search rules
