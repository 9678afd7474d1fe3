-- By the length.
use Rattle.rules.specs.Numbers.{Bytes}
use Rattle.rules.proofs.Numbers.{below-index}
use Rattle.listing.proofs.Rests.{whole_long, whole_short, behind-first}
use Rattle.listing.proofs.pages.begin.Goals as goal
use Rattle.listing.proofs.pages.begin.Goals.{After-shared_slice_known-1}

bytes : (c : After-shared_slice_known-1) → Bytes c.args.block.now
bytes c = below-index 256 c.args.block.now (λ i h. (c.type_inv.block i).fits)

pub returns-then-block-gt-MOST : goal.returns-then-block-gt-MOST
returns-then-block-gt-MOST c =
    let s = c.args.block.now in
    let told = behind-first s (bytes (goal.at.returns-then-block-gt-MOST c).After-shared_slice_known-1) 0 c.spot_at.result c.spot_at.ensures (whole_long s (bytes (goal.at.returns-then-block-gt-MOST c).After-shared_slice_known-1) c.if-block-gt-MOST.true) in record {
      stands = told.0;
      block_value = told.1;
    }

pub returns : goal.returns
returns c =
    let s = c.args.block.now in
    let told = behind-first s (bytes (goal.at.returns c).After-shared_slice_known-1) 1 c.spot_at-2.result c.spot_at-2.ensures (whole_short s (bytes (goal.at.returns c).After-shared_slice_known-1) c.if-block-gt-MOST.false) in record {
      stands = told.0;
      block_value = told.1;
    }
