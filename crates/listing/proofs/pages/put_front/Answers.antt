-- By the length, then by the block's number.
use Rattle.listing.proofs.Texts.{worded}
use Rattle.listing.proofs.Rests.{front_long, front-refused, front-first}
use Rattle.listing.proofs.pages.put_front.Goals as goal

pub returns-then-block-gt-MOST : goal.returns-then-block-gt-MOST
returns-then-block-gt-MOST c =
    let s = c.args.block.now in
    record {
      wrote = worded (front_long s c.if-block-gt-MOST.true) c.put_too_long.ensures.wrote;
      upper_bound = c.put_too_long.ensures.upper_bound;
    }

pub returns-then-o-ne0 : goal.returns-then-o-ne0
returns-then-o-ne0 c =
    let s = c.args.block.now in
    let o = c.open-o in
    record {
      wrote = worded (front-refused s c.if-block-gt-MOST.false o.result o.ensures c.if-o-ne0.true) c.put_refused.ensures.wrote;
      upper_bound = c.put_refused.ensures.upper_bound;
    }

pub returns : goal.returns
returns c =
    let s = c.args.block.now in
    let o = c.open-o in
    record {
      wrote = worded (front-first s c.if-block-gt-MOST.false o.result o.ensures c.if-o-ne0.false) c.put_first.ensures.wrote;
      upper_bound = c.put_first.ensures.upper_bound;
    }
