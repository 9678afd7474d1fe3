-- The segment and its place.
use mathlib.Core.Path.{ap}
use Rattle.points.specs.declared.walk.Place.{Place}
use Rattle.listing.proofs.pages.spot_at.Goals as goal

pub returns : goal.returns
returns c = ap (λ (p : Place). record { segment = c.args.segment; place = p }) c.place_of.ensures
