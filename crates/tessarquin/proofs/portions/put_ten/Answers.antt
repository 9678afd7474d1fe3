-- Each turn writes one number more (`number_next`).
use mathlib.Core.Path.{refl, ap, ◌∙◌}
use mathlib.Core.List.{List, flatten}
use Prim.Native.Nat.{ℕ, ◌+◌, ◌*◌}
use native.Mathlib.Omega.{arith}
use lib.ListN.{get_or}
use lib.Seq.{take_all}
use Rattle.rules.specs.Numbers.{bytes, all_bytes, splice}
use Rattle.rules.proofs.Splices.{splice_none}
use Rattle.tessarquin.proofs.Writing.{number_next}
use Rattle.tessarquin.proofs.portions.put_ten.Goals as goal

pub loop-i-init : goal.loop-i-init
unfolding flatten
loop-i-init c = record { long = refl; wrote = splice_none c.args.out.now c.args.at }

pub loop-i-preserved : goal.loop-i-preserved
loop-i-preserved c =
    let a = c.args in
    let i = c.loop-i.i in record {
      long = c.put_u64.auto.out ∙ c.loop-i.invariant.long;
      wrote = c.put_u64.ensures ∙ ap {B = List ℕ} (λ u. splice u (a.at + i * 8) (bytes 0 8 (get_or a.ten i 0))) c.loop-i.invariant.wrote ∙ number_next a.out.now a.at a.ten i (omega arith) (omega (arith, c.requires));
    }

pub returns : goal.returns
returns c =
    c.loop-i.invariant.wrote ∙ ap {B = List ℕ} (λ l. splice c.args.out.now c.args.at (all_bytes 0 8 l)) (take_all c.loop-i.i c.args.ten (omega arith))
