-- `scale::value_at` meets its contract.
use mathlib.Core.Path.{◌≡◌, sym, ap, subst}
use lib.IntN.{ℤ}
use lib.Ieee.{Float, binary64, sub, mul, of_int}
use mir.Syntax.{w32}
use mir.Val.{to_z, of_z}
use mir.ValLaws.{to_z-of_z}
use borrow.Author.Rules.{rules}
use Rattle.rules.specs.Points.{Near, exact_value, value_of}
use Rattle.rules.proofs.Near.{value_near}
use Rattle.scale.proofs.Finite.{no_nan}
use Rattle.scale.proofs.value_at.Goals as goal

pub float_to_float-result : goal.float_to_float-result
float_to_float-result c = search (rules, no_nan)

pub float_to_float-result-2 : goal.float_to_float-result-2
float_to_float-result-2 c = search (rules, no_nan)

pub returns : goal.returns
unfolding value_of
returns c =
    let a = c.args in
    let g = a.c.gain in
    let o = a.c.offset in
    let e : sub binary64 (mul binary64 g (of_int binary64 (to_z w32 (of_z w32 a.sample)))) o ≡ value_of g o a.sample =
    ap (λ (z : ℤ). value_of g o z) (to_z-of_z w32 a.sample c.ranges.sample) in record {
      value = e;
      near = subst (λ (r : Float). Near 149 (exact_value g o a.sample) r) (sym e)
          (value_near g o a.sample c.struct_known-2-1.given.0 c.struct_known-2-1.given.1.0 c.requires.finite_value.0 c.requires.finite_value.1 c.requires.sample_bound);
    }
