-- The count grows until a call moves nothing or fails, or the buffer is full; what is there was taken from the reader.
use Rattle.std.proofs.Common.{◌≡◌, ◌+◌, ◌-◌, ◌≤◌, ◌<◌, length, take}
use Rattle.std.specs.Prelude.{Some}
use Rattle.std.specs.Io.KnownBytes.{Consumes, IsAtEnd}
use Rattle.listing.proofs.Inputs.{some}
use Rattle.listing.proofs.read_input.Given as goal

abbrev pub invariant-loop-at : goal.invariant-loop-at
invariant-loop-at g l = record {
  within : l.input.count ≤ length l.buffer;
  same : length l.buffer ≡ length l.initial.buffer;
  taken : Consumes (g.R.Read.remaining l.initial.reader) (g.R.Read.remaining l.reader) (take l.input.count l.buffer);
  ended : l.input.last ≡ Some 0 → l.input.count < length l.buffer → IsAtEnd (g.R.Read.remaining l.reader);
}

abbrev pub decreases-loop-at : goal.decreases-loop-at
decreases-loop-at g l = length l.buffer - l.input.count + some l.input.last
