-- `scale::after` meets its contract.
use mathlib.Core.Path.{sym, ap, subst}
use Prim.Native.Nat.{ℕ}
use native.Mathlib.Omega.{arith}
use lib.IntN.{pos}
use lib.Ieee.{Float, binary64, add, mul, of_int}
use denote.Floats.{passes}
use borrow.Author.Rules.{rules}
use Rattle.rules.specs.Points.{Ris, time_by, exact_time, Near}
use Rattle.rules.proofs.Near.{time_near}
use Rattle.scale.proofs.Finite.{no_nan}
use Rattle.scale.proofs.after.Goals as goal

pub float_to_float-result : goal.float_to_float-result
float_to_float-result c = search (rules, no_nan)

pub returns : goal.returns
unfolding time_by
returns c =
    let a = c.args in
    let rule = Ris a.interval a.offset a.phase in
    let e = ap (λ (n : ℕ). add binary64 a.offset (mul binary64 a.interval (of_int binary64 (pos n)))) c.saturating_sub.ensures in record {
      value = e;
      near = subst (λ (r : Float). Near 1074 (exact_time rule a.i) r) (sym e)
          (time_near rule a.i (passes _ c.well_formed.1.0.1, c.requires.finite_pair.0, passes _ c.well_formed.0.1, c.requires.finite_pair.1) (omega arith));
    }
