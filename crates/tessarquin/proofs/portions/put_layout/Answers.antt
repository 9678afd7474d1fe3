-- The five numbers, and right behind them the lengths and the starts.
use mathlib.Core.Path.{refl, ap, ◌∙◌}
use mathlib.Core.List.{List, [], ◌∷◌, ◌++◌}
use Prim.Native.Nat.{ℕ}
use native.Mathlib.Omega.{arith}
use Rattle.rules.specs.Numbers.{all_bytes, splice}
use Rattle.tessarquin.proofs.Writing.{numbers_then}
use Rattle.tessarquin.proofs.portions.put_layout.Goals as goal

pub returns : goal.returns
returns c =
    let o = c.args.o in
    let out = c.args.out.now in
    let five : List ℕ = o.start ∷ o.first ∷ o.sparsing ∷ o.index ∷ o.subarrays ∷ [] in
    let lengths : List ℕ = o.layout.lengths in
    let starts : List ℕ = o.layout.starts in
    c.put_ten-2.ensures
    ∙ ap {B = List ℕ} (λ u. splice u 120 (all_bytes 0 8 starts))
    (c.put_ten.ensures
    ∙ ap {B = List ℕ} (λ u. splice u 40 (all_bytes 0 8 lengths)) c.put_numbers.ensures
    ∙ numbers_then out 0 5 five lengths refl (omega (arith, c.requires.in_bounds)))
    ∙ numbers_then out 0 15 (five ++ lengths) starts (omega (arith, c.requires.lengths_len)) (omega (arith, c.requires.in_bounds))
