-- The nine bytes are the line.
use Rattle.listing.specs.Listing.{too_long}
use borrow.Author.Rules.{rules}
use Rattle.listing.proofs.lines.put_too_long.Goals as goal

pub returns : goal.returns
unfolding too_long
returns c = search rules
