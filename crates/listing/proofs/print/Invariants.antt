-- What is left at the spot is what was not handed on; each page leaves less.
use Rattle.std.proofs.Common.{length, take}
use Rattle.std.specs.Io.KnownBytes.{Appends}
use Rattle.listing.specs.Listing.{listing}
use Rattle.listing.specs.Pages.{rest}
use Rattle.listing.proofs.Printed.{Before}
use Rattle.listing.proofs.print.Given as goal

abbrev pub invariant-loop-spot : goal.invariant-loop-spot
invariant-loop-spot g l = record {
  before : Before l.block l.spot l.sent;
  taken : Appends (g.W.Write.contents l.fn.writer) (g.W.Write.contents l.writer) (take l.sent (listing l.block));
}

abbrev pub decreases-loop-spot : goal.decreases-loop-spot
decreases-loop-spot g l = length (rest l.block l.spot)
