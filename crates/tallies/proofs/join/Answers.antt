-- Field by field; what is read from a struct fits its type.
use mathlib.Core.Path.{◌≡◌, sym, ap₂, ◌∙◌}
use mathlib.Core.Bool.{Bool, true, false, cond}
use Prim.Native.Nat.{ℕ, ◌+◌}
use lib.IntN.{ℤ}
use lib.Signed.{lt_z}
use mir.Syntax.{w16}
use mir.Val.{SFits}
use mir.ValLaws.{to_z-of_z}
use Rattle.std.proofs.Common.{rules}
use Rattle.std.specs.Int.{int_min, int_max}
use Rattle.tallies.specs.declared.Tally.{Tally}
use Rattle.tallies.specs.declared.extents.Extent.{Extent}
use Rattle.tallies.specs.Tallies.{together}
use Rattle.tallies.proofs.Picking.{greater_turned, read, lesser_read, greater_read}
use Rattle.tallies.proofs.join.Goals as goal

-- each of these numbers is one of 16 bits
record Fitting (t : Tally) (e : Extent) (low high top : ℤ) : Type 0 where
  leasts : SFits w16 t.least × SFits w16 e.least × SFits w16 low
  greatests : SFits w16 t.greatest × SFits w16 e.greatest × SFits w16 high
  tops : SFits w16 t.top × SFits w16 top

-- the tally whose top was found to be below the greatest, or not
module _ (t : Tally) (e : Extent) (marks at : ℕ) (low high top : ℤ) (f : Fitting t e low high top) where
  joined : low ≡ int_min (read t.least) (read e.least) → high ≡ int_max (read t.greatest) (read e.greatest) → top ≡ int_max (read e.greatest) (read t.top) → (b : Bool) → lt_z (read t.top) (read e.greatest) ≡ b
      → ◌≡◌ {A = Tally} (record { least = read low; greatest = read high; heights = t.heights + e.heights; marks = t.marks + marks; top = read top; near = cond b at t.near }) (together t e marks at)
  joined el eh et b q =
      let near = sym q ∙ ap₂ lt_z (to_z-of_z w16 t.top f.tops.0) (to_z-of_z w16 e.greatest f.greatests.1) in
      λ i. record {
        least = lesser_read t.least e.least low f.leasts.0 f.leasts.1 f.leasts.2 el i;
        greatest = greater_read t.greatest e.greatest high f.greatests.0 f.greatests.1 f.greatests.2 eh i;
        heights = t.heights + e.heights;
        marks = t.marks + marks;
        top = (greater_read e.greatest t.top top f.greatests.1 f.tops.0 f.tops.1 et ∙ greater_turned e.greatest t.top) i;
        near = cond (near i) at t.near;
      }

pub returns-then-t-e : goal.returns-then-t-e
returns-then-t-e c =
    let a = c.args in
    joined a.t a.e a.marks a.at c.min.result c.max.result c.max-2.result (search rules) c.min.ensures.value c.max.ensures.value c.max-2.ensures.value true c.if-t-e.true

pub returns-else-t-e : goal.returns-else-t-e
returns-else-t-e c =
    let a = c.args in
    joined a.t a.e a.marks a.at c.min.result c.max.result c.max-2.result (search rules) c.min.ensures.value c.max.ensures.value c.max-2.ensures.value false c.if-t-e.false
