-- Each turn stores the next number, which is the same in 32 bits.
use mathlib.Core.Path.{◌≡◌, sym, subst, ◌∙◌}
use mathlib.Core.List.{List, map, map-id}
use Prim.Native.Nat.{ℕ, ◌^◌, ◌≤◌}
use native.Mathlib.Nat.{le_trans}
use native.Mathlib.Omega.{arith}
use lib.Dec.{lit≤}
use lib.IntN.{ℤ, pos, nat_abs}
use lib.ListN.{length, get_or}
use lib.Signed.{nat_abs-le}
use mir.Syntax.{w16, w32}
use mir.Val.{SFits}
use mir.ValLaws.{to_z-of_z}
use borrow.Author.Rules.{rules}
use Rattle.rules.specs.Numbers.{up_from}
use Rattle.fills.proofs.Writes.{over_none, over-whole, length_map_up, all_next, map-one, map-get_or}
use Rattle.fills.proofs.samples.widen.Goals as goal

pub loop-k-init : goal.loop-k-init
unfolding up_from
loop-k-init c = (search rules, over_none c.args.wide.now 0, λ j h. absurd (omega arith))

pub loop-k-preserved : goal.loop-k-preserved
loop-k-preserved c =
    let a = c.args in
    let l = c.loop-k in
    let r = c.from in
    let f : ℕ → ℤ = λ j. get_or a.samples.now j (pos 0) in
    let h : SFits w16 (f l.k) = record { sfits = c.from-arg-1.given } in (
      omega arith,
      map-one f a.wide.now l.wide 0 0 l.k l.k l.k _ (to_z-of_z w32 r.result (record { sfits = r.type_inv }) ∙ c.from.ensures ∙ to_z-of_z w16 (f l.k) h) (omega arith) (omega arith) (omega arith) l.invariant.1,
      all_next (λ j. nat_abs (f j) ≤ 2 ^ 28) l.k l.invariant.2 (le_trans (nat_abs-le (f l.k) h.sfits) (lit≤ tt)),
    )

pub returns : goal.returns
returns c =
    let a = c.args in
    let l = c.loop-k in
    let f : ℕ → ℤ = λ j. get_or a.samples.now j (pos 0) in
    let e : l.k ≡ length a.samples.now = omega arith in
    let all : l.wide ≡ a.samples.now =
    rw e at l.invariant.1
    ∙ over-whole a.wide.now (map f (up_from 0 (length a.samples.now))) (omega (arith, length_map_up f 0 (length a.samples.now)))
    ∙ map-get_or (λ (z : ℤ). z) (pos 0) a.samples.now
    ∙ map-id a.samples.now in
    record {
      wide_after = all;
      by_index = λ k h. subst (λ (xs : List ℤ). nat_abs (get_or xs k (pos 0)) ≤ 2 ^ 28) (sym all) (l.invariant.2 k (omega arith));
    }
