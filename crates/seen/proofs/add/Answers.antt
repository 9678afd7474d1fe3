use mathlib.Core.Path.{ap, ◌∙◌}
use Prim.Native.Nat.{ℕ, ◌/◌, ◌<◌}
use native.Mathlib.Omega.{arith}
use lib.ListN.{length, set}
use Rattle.seen.specs.Seen.{seen_of}
use Rattle.seen.proofs.Bits.{seen_set}
use Rattle.seen.proofs.add.Goals as goal

pub with_bit-requires : goal.with_bit-requires
unfolding seen_of
with_bit-requires c = record {
  b_bound = omega arith;
  b_value = c.requires.k_value;
}

pub returns : goal.returns
returns c =
    let a = c.args in
    let l : a.k / 64 < length a.seen.now = omega (arith, c.requires.seen_len.0, c.requires.seen_len.1) in
    λ j. ap (λ (w : ℕ). seen_of (set a.seen.now (a.k / 64) w) j) c.with_bit.ensures ∙ seen_set a.seen.now a.k l c.requires.k_value j
