-- The part from `at` on becomes what the call left there.
use Rattle.std.proofs.Common.{length, ◌-◌, sym, subst, arith}
use Rattle.std.specs.Io.KnownBytes.{Consumes}
use Rattle.listing.proofs.Inputs.{behind-read}
use Rattle.listing.proofs.read_behind.Goals as goal

pub returns-in-Ok-clause-bytes : goal.returns-in-Ok-clause-bytes
returns-in-Ok-clause-bytes g c =
    let l = c.args.buffer.now in
    let at = c.args.at in
    let read = c.in-Ok.ensures.bytes in
    let bound = c.in-Ok.ensures.bound in
    let e = behind-read at (length l - at) l c.read.new.buf c.in-Ok.more c.requires bound.0 in
    record {
      taken = subst (Consumes (g.R.Read.remaining c.args.reader.now) (g.R.Read.remaining c.read.new.self)) (sym e) read.0;
      ended = λ e h. read.1 (grind arith) (omega (arith, c.read.auto.buf));
    }
