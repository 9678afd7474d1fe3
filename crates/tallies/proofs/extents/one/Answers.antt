-- One sample is the least and the greatest of itself.
use mathlib.Core.Path.{sym, ◌∙◌}
use native.Mathlib.Nat.{add-zero}
use mir.Syntax.{w16}
use mir.ValLaws.{to_z-of_z}
use Rattle.columns.specs.Columns.{joined}
use Rattle.tallies.specs.Tallies.{height, heights}
use Rattle.tallies.proofs.Heights.{height_apart}
use Rattle.tallies.proofs.extents.one.Goals as goal

pub returns : goal.returns
unfolding joined heights
returns c =
    let z = c.args.z in
    let is = to_z-of_z w16 z c.ranges.z in
    λ i. record { least = is i; greatest = is i; heights = (c.from.ensures ∙ c.abs_diff.ensures ∙ height_apart z c.ranges.z ∙ sym (add-zero (height z))) i }
