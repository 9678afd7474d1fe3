-- Bytes are the same in every order, and samples that are no bytes are words.
use mathlib.Core.Path.{◌≡◌, refl, sym, ap, ◌∙◌, subst}
use mathlib.Core.List.{List, map, flatten}
use Prim.Native.Nat.{ℕ}
use lib.IntN.{ℤ}
use Rattle.columns.specs.Columns.{lesser, greater, columns}
use Rattle.fills.specs.Fills.{Holds, sample_at, over}
use Rattle.fills.proofs.Sampling.{words, any_order}
use Rattle.tallies.specs.declared.Tally.{Tally}
use Rattle.tallies.specs.Tallies.{Seen}
use Rattle.strips.proofs.drawing.draw.Given.{Over}
use Rattle.strips.proofs.drawing.draw.Goals as goal
use Rattle.strips.proofs.drawing.draw.Goals.{Start}

-- samples of so many bytes
abbrev samples : (g : Over) → Start g → ℕ → ℕ → ℤ
samples g c size = let a = c.args in sample_at a.order size a.block.now a.from

-- what is left of the leasts or of the greatests, and what is known of all, where f are these samples
module _ (g : Over) (s : Start g) (k : ℕ) (e : s.args.size ≡ k) (f : ℕ → ℤ) (p : f ≡ samples g s k) where
  left : {A : Type 0} (written : ℤ → List A) (op : ℤ → ℤ → ℤ) (out : List A)
      → over out 0 (flatten (map written (columns op f s.args.count s.args.columns))) ≡ over out 0 (flatten (map written (columns op (samples g s s.args.size) s.args.count s.args.columns)))
  left written op out = ap (λ (h : ℕ → ℤ). over out 0 (flatten (map written (columns op h s.args.count s.args.columns)))) (p ∙ ap (samples g s) (sym e))

  seen : (t : Tally) → Seen k f s.args.count t → Seen s.args.size (samples g s s.args.size) s.args.count t
  seen t h = subst (λ (j : ℕ). Seen j (samples g s j) s.args.count t) (sym e) (subst (λ (h : ℕ → ℤ). Seen k h s.args.count t) p h)

pub draw_each-requires : goal.draw_each-requires
draw_each-requires g c =
    record {
      holds = subst (λ (k : ℕ). Holds c.args.block.now c.args.from c.args.count k) c.if-size-eq1.true c.requires.holds;
      le_columns = c.requires.le_columns;
      columns_in_bounds = c.requires.columns_in_bounds;
    }

pub returns-then-size-eq1 : goal.returns-then-size-eq1
returns-then-size-eq1 g c =
    let a = c.args in
    let e = c.if-size-eq1.true in
    let f : ℕ → ℤ = sample_at 0 1 a.block.now a.from in
    let q = any_order 0 a.order a.block.now a.from in
    record {
      seen = seen g (goal.at.returns-then-size-eq1 g c).Start 1 e f q c.draw_each.result c.draw_each.ensures.seen;
      lows_after = c.draw_each.ensures.lows_after ∙ left g (goal.at.returns-then-size-eq1 g c).Start 1 e f q g.T.Element.written lesser a.lows.now;
      highs_after = c.draw_each.ensures.highs_after ∙ left g (goal.at.returns-then-size-eq1 g c).Start 1 e f q g.T.Element.written greater a.highs.now;
    }

pub draw_each-requires-2 : goal.draw_each-requires-2
draw_each-requires-2 g c =
    record {
      holds = subst (λ (k : ℕ). Holds c.args.block.now c.args.from c.args.count k) (words c.requires.holds c.if-size-eq1.false).0 c.requires.holds;
      le_columns = c.requires.le_columns;
      columns_in_bounds = c.requires.columns_in_bounds;
    }

pub returns : goal.returns
returns g c =
    let a = c.args in
    let e = (words c.requires.holds c.if-size-eq1.false).0 in
    let f = samples g (goal.at.returns g c).Start 2 in
    record {
      seen = seen g (goal.at.returns g c).Start 2 e f refl c.draw_each-2.result c.draw_each-2.ensures.seen;
      lows_after = c.draw_each-2.ensures.lows_after ∙ left g (goal.at.returns g c).Start 2 e f refl g.T.Element.written lesser a.lows.now;
      highs_after = c.draw_each-2.ensures.highs_after ∙ left g (goal.at.returns g c).Start 2 e f refl g.T.Element.written greater a.highs.now;
    }
