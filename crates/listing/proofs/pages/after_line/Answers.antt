-- The segment's next point, or the next segment.
use mathlib.Core.Path.{◌≡◌, sym, subst}
use mathlib.Core.List.{List, ◌++◌}
use Prim.Native.Nat.{ℕ}
use native.Mathlib.Omega.{arith}
use Rattle.rules.specs.Numbers.{Bytes}
use Rattle.rules.specs.Rules.{opened}
use Rattle.rules.proofs.Numbers.{below-index}
use Rattle.listing.specs.declared.pages.Spot.{Spot}
use Rattle.listing.specs.Listing.{point_line}
use Rattle.listing.specs.Pages.{Stands, rest}
use Rattle.listing.proofs.Rests.{stands_at, segment-small, goes_on, goes_over}
use Rattle.listing.proofs.pages.after_line.Goals as goal
use Rattle.listing.proofs.pages.after_line.Goals.{After-shared_slice_known-1}

bytes : (c : After-shared_slice_known-1) → Bytes c.args.block.now
bytes c = below-index 256 c.args.block.now (λ i h. (c.type_inv.block i).fits)

pub returns-then-place : goal.returns-then-place
returns-then-place c =
    let told = goes_on c.args.block.now (bytes (goal.at.returns-then-place c).After-shared_slice_known-1) c.args.spot c.requires.stands c.requires.refusal_value c.after-place.result c.after-place.ensures c.if-place.true in record {
      stands_2 = told.0;
      spot_value = told.1;
    }

pub overflow_add-spot : goal.overflow_add-spot
overflow_add-spot c = omega (arith, segment-small c.args.block.now (bytes (goal.at.overflow_add-spot c).After-shared_slice_known-1) c.args.spot c.requires.stands c.requires.refusal_value)

pub returns : goal.returns
returns c =
    let s = c.args.block.now in
    let b = bytes (goal.at.returns c).After-shared_slice_known-1 in
    let spot = c.args.spot in
    let line : List ℕ = point_line (opened s) spot.segment spot.place.k in
    let told = subst (λ (r : Spot). Stands s r × (rest s spot ≡ line ++ rest s r)) (sym c.spot_at.ensures)
    (stands_at s b _, goes_over s b spot c.requires.stands c.requires.refusal_value c.after-place.result c.after-place.ensures c.if-place.false) in record {
      stands_2 = told.0;
      spot_value = told.1;
    }
