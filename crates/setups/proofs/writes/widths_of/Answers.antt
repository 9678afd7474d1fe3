-- No number of 32 bits has more than ten digits.
use Prim.Native.Nat.{◌≤◌}
use native.Mathlib.Omega.{arith}
use Rattle.digits.specs.Digits.{places}
use Rattle.digits.proofs.Spelled.{places_few}
use Rattle.setups.proofs.writes.widths_of.Goals as goal

pub returns : goal.returns
returns c =
    let a = c.args.setup in
    let p = c.places.ensures in
    let q = c.places-2.ensures in
    let r = c.places-3.ensures in
    let few : (places a.sp ≤ 10) × (places a.np ≤ 10) × (places a.fp ≤ 10) × (places a.sn ≤ 10) =
    (places_few a.sp (omega arith), places_few a.np (omega arith), places_few a.fp (omega arith), places_few a.sn (omega arith)) in
    record {
      value = (λ i. record { sp = p i; np = q i; fp = r i; sn = c.places-4.ensures i });
      result_bound = omega (arith, few, p, q, r, c.places-4.ensures);
    }
