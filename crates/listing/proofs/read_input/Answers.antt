-- Each call reads behind what is there.
use Rattle.std.proofs.Common.{arith}
use Rattle.listing.proofs.Inputs.{taken_more}
use Rattle.listing.proofs.read_input.Goals as goal

pub loop-at-preserved : goal.loop-at-preserved
loop-at-preserved g c =
    let l = c.loop-at in
    let r = c.read_behind-input in
    let made = r.ensures.behind in
    record {
      within = made.within;
      same = omega (arith, r.auto.buffer, l.invariant.same);
      taken = taken_more (g.R.Read.remaining c.args.reader.now) (g.R.Read.remaining l.reader) (g.R.Read.remaining r.new.reader) l.input.count r.result.count l.buffer r.new.buffer (omega (arith, made.counts)) made.within made.keeps l.invariant.taken r.ensures.bytes.taken;
      ended = λ e h. r.ensures.bytes.ended e (omega (arith, made.counts));
    }
