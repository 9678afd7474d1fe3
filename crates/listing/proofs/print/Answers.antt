-- The first line comes first, and a page comes next; at the end nothing is left.
use Rattle.std.proofs.Common.{sym, subst}
use Rattle.rules.proofs.Numbers.{below-index}
use Rattle.listing.proofs.Printed.{Before, first_next, page_next, all-sent, stopped, first_taken, more_taken, all-taken}
use Rattle.listing.proofs.print.Goals as goal

pub write_next-requires-clause-next : goal.write_next-requires-clause-next
write_next-requires-clause-next g c = (first_next c.args.block.now (below-index 256 c.args.block.now (λ i h. (c.type_inv.block i).fits)) c.args.sent.now c.begin-spot.result c.requires c.put_front-first.ensures.wrote c.put_front-first.ensures.upper_bound c.begin-spot.ensures.stands c.begin-spot.ensures.block_value).0

pub returns-in_err-write_next-clause-printed : goal.returns-in_err-write_next-clause-printed
returns-in_err-write_next-clause-printed g c =
    let s = c.args.block.now in
    let w = c.write_next in
    stopped s c.begin-spot.result w.new.sent c.from_residual.result (subst (Before s c.begin-spot.result) (sym w.ensures.sent) (first_next c.args.block.now (below-index 256 c.args.block.now (λ i h. (c.type_inv.block i).fits)) c.args.sent.now c.begin-spot.result c.requires c.put_front-first.ensures.wrote c.put_front-first.ensures.upper_bound c.begin-spot.ensures.stands c.begin-spot.ensures.block_value).1) c.from_residual.ensures.0

pub loop-spot-init : goal.loop-spot-init
loop-spot-init g c =
    let s = c.args.block.now in
    let w = c.write_next in
    let f = first_next c.args.block.now (below-index 256 c.args.block.now (λ i h. (c.type_inv.block i).fits)) c.args.sent.now c.begin-spot.result c.requires c.put_front-first.ensures.wrote c.put_front-first.ensures.upper_bound c.begin-spot.ensures.stands c.begin-spot.ensures.block_value in
    record {
      before = subst (Before s c.begin-spot.result) (sym w.ensures.sent) f.1;
      taken = first_taken s _ c.args.sent.now w.new.sent _ _ c.requires f.0 w.ensures.sent c.in_ok-write_next.ensures.taken;
    }

pub returns-in_err-write_next-2-clause-printed : goal.returns-in_err-write_next-2-clause-printed
returns-in_err-write_next-2-clause-printed g c =
    let s = c.args.block.now in
    let l = c.loop-spot in
    let r = c.put_page-written in
    let w = c.write_next-in-loop-spot in
    let p = page_next s l.spot l.sent r.new.out r.result l.invariant.before r.ensures in
    stopped s r.result.spot w.new.sent c.from_residual-in_err-write_next-2.result (subst (Before s r.result.spot) (sym w.ensures.sent) p.1) c.from_residual-in_err-write_next-2.ensures.0

pub loop-spot-preserved : goal.loop-spot-preserved
loop-spot-preserved g c =
    let s = c.args.block.now in
    let l = c.loop-spot in
    let r = c.put_page-written in
    let w = c.write_next-in-loop-spot in
    let p = page_next s l.spot l.sent r.new.out r.result l.invariant.before r.ensures in
    record {
      before = subst (Before s r.result.spot) (sym w.ensures.sent) p.1;
      taken = more_taken s _ l.sent w.new.sent _ _ _ p.0 w.ensures.sent l.invariant.taken c.in_ok-write_next-2.ensures.taken;
    }

pub returns-clause-printed : goal.returns-clause-printed
returns-clause-printed g c =
    let l = c.loop-spot in
    let b = l.invariant.before in
    record { some = b.some; within = b.within; all = λ _. all-sent c.args.block.now l.spot l.sent b c.loop-spot-test.false }

pub returns-clause-bytes : goal.returns-clause-bytes
returns-clause-bytes g c =
    let l = c.loop-spot in
    all-taken c.args.block.now l.sent _ _ (all-sent c.args.block.now l.spot l.sent l.invariant.before c.loop-spot-test.false) l.invariant.taken
