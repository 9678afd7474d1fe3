-- Each turn draws the next column.
use mathlib.Core.Path.{◌≡◌, sym, ap, ap₂, ◌∙◌, subst}
use mathlib.Core.List.{List, map, flatten, map-map}
use Prim.Native.Nat.{ℕ, suc, ◌+◌, ◌*◌, ◌≤◌, ◌<◌}
use native.Mathlib.Nat.{suc-mul, mul-le-mul_right}
use native.Mathlib.Omega.{arith}
use lib.IntN.{ℤ}
use lib.ListN.{length}
use mir.Syntax.{w16}
use mir.Val.{SFits, to_z, of_z}
use mir.ValLaws.{to_z-of_z}
use Rattle.std.proofs.Common.{rules}
use Rattle.rules.specs.Numbers.{up_from}
use Rattle.columns.specs.Columns.{lesser, greater, joined, start, column, columns, run}
use Rattle.columns.proofs.Columns.{start_zero, start-end}
use Rattle.fills.specs.Fills.{sample_at, over}
use Rattle.fills.proofs.Sampling.{fewer}
use Rattle.fills.proofs.Writes.{over_none, run-one}
use Rattle.tallies.specs.Tallies.{Seen}
use Rattle.tallies.proofs.Tallying.{seen_none}
use Rattle.strips.proofs.Telling.{ends}
use Rattle.strips.proofs.drawing.draw_each.Invariants.{one, first}
use Rattle.strips.proofs.drawing.draw_each.Goals as goal
use Rattle.strips.proofs.drawing.draw_each.Given.{Over}
use Rattle.strips.proofs.drawing.draw_each.Goals.{After-boundary-b}

module _ {A : Type 0} (written : ℤ → List A) (op : ℤ → ℤ → ℤ) (f : ℕ → ℤ) (m w : ℕ) where
  -- all columns
  all : (q : ℕ) (l out : List A) → q ≡ w → out ≡ over l 0 (first written op f m w q) → out ≡ over l 0 (flatten (map written (columns op f m w)))
  all q l out e eo =
      eo ∙ ap (λ (k : ℕ). over l 0 (first written op f m w k)) e ∙ ap (λ (xs : List (List A)). over l 0 (flatten xs)) (sym (map-map written (λ k. joined op (column f m w k)) (up_from 0 w)))

  -- one column more
  more : (width : ℕ) → ((z : ℤ) → length (written z) ≡ width) → (q x y : ℕ) (z : ℤ) (l out new : List A) → SFits w16 z → z ≡ joined op (run f x y) → x ≡ start m w q → y ≡ start m w (suc q) → w * width ≤ length l → q < w
      → out ≡ over l 0 (first written op f m w q) → new ≡ over out (q * width) (written (to_z w16 (of_z w16 z))) → new ≡ over l 0 (first written op f m w (q + 1))
  more width each q x y z l out new fits e ex ey room h eo en =
      en ∙ run-one (one written op f m w) width (λ k. each (joined op (column f m w k))) l out 0 0 q q (q * width) _ (ap written (to_z-of_z w16 z fits ∙ e ∙ ap₂ (λ (u v : ℕ). joined op (run f u v)) ex ey)) (omega arith) (omega arith)
      (omega (arith, room, mul-le-mul_right {m = q} {n = w} width (omega arith))) eo

pub loop-q-init : goal.loop-q-init
unfolding up_from flatten
loop-q-init g c =
    let a = c.args in
    let f : ℕ → ℤ = sample_at a.order a.size a.block.now a.from in
    (sym (start_zero a.count a.columns), subst (Seen a.size f 0) (sym c.none-t.ensures) (seen_none a.size f), over_none a.lows.now 0, over_none a.highs.now 0)

pub boundary-b-requires : goal.boundary-b-requires
boundary-b-requires g c = let p = c.requires.le_columns in (p.0, p.1, p.2, omega arith)

-- where the column ends
ended : (g : Over) (c : After-boundary-b g) → (let a = c.args in
    let l = c.loop-q in
    let b = c.boundary-b.result in (l.a < b) × (b ≤ a.count) × (b ≡ start a.count a.columns (suc l.q)))
ended g c =
    let l = c.loop-q in
    let p = c.requires.le_columns in
    ends c.args.count c.args.columns l.q l.a c.boundary-b.result p.0 p.1 c.loop-q-test.true l.invariant.0 c.boundary-b.ensures

pub column-t-requires : goal.column-t-requires
column-t-requires g c =
    let e = ended g (goal.at.column-t-requires g c).After-boundary-b in
    record {
      holds = fewer c.requires.holds _ e.1;
      a_lt_b = (e.0, omega (arith, e.1, c.requires.le_columns.2));
      seen = c.loop-q.invariant.1;
    }

-- there is room for the column
roomy : (w q n width : ℕ) → q < w → w * width ≤ n → q * width + width ≤ n
roomy w q n width h l = omega (arith, l, suc-mul q width, mul-le-mul_right {m = suc q} {n = w} width h)

pub put-requires : goal.put-requires
put-requires g c =
    let h = c.requires.columns_in_bounds.0 in
    roomy c.args.columns c.loop-q.q (length c.loop-q.lows) g.T.Element.width c.loop-q-test.true (omega (arith, h, c.loop-q.auto.lows))

pub put-requires-in-loop-q : goal.put-requires-in-loop-q
put-requires-in-loop-q g c =
    let h = c.requires.columns_in_bounds.1 in
    roomy c.args.columns c.loop-q.q (length c.loop-q.highs) g.T.Element.width c.loop-q-test.true (omega (arith, h, c.loop-q.auto.highs))

pub loop-q-preserved : goal.loop-q-preserved
loop-q-preserved g c =
    let a = c.args in
    let l = c.loop-q in
    let t = g.T.Element in
    let e = ended g (goal.at.loop-q-preserved g c).After-boundary-b in
    let f : ℕ → ℤ = sample_at a.order a.size a.block.now a.from in
    let h : l.q < a.columns = c.loop-q-test.true in
    let each = g.met.T.Element.written_width in
    let room = c.requires.columns_in_bounds in (
      c.boundary-b.ensures,
      c.column-t.ensures.seen_2,
      more t.written lesser f a.count a.columns t.width each l.q l.a c.boundary-b.result c.column-t.result.least a.lows.now l.lows _ (search rules) c.column-t.ensures.least_value l.invariant.0 e.2 room.0 h l.invariant.2 c.put.ensures,
      more t.written greater f a.count a.columns t.width each l.q l.a c.boundary-b.result c.column-t.result.greatest a.highs.now l.highs _ (search rules) c.column-t.ensures.greatest_value l.invariant.0 e.2 room.1 h l.invariant.3 c.put-in-loop-q.ensures,
    )

pub returns : goal.returns
returns g c =
    let a = c.args in
    let l = c.loop-q in
    let written = g.T.Element.written in
    let f : ℕ → ℤ = sample_at a.order a.size a.block.now a.from in
    let e : l.q ≡ a.columns = omega (arith, c.loop-q-test.false) in
    let end : l.a ≡ a.count = l.invariant.0 ∙ ap (start a.count a.columns) e ∙ start-end a.count a.columns c.requires.le_columns.0 in record {
      seen = subst (λ (b : ℕ). Seen a.size f b l.t) end l.invariant.1;
      lows_after = all written lesser f a.count a.columns l.q a.lows.now l.lows e l.invariant.2;
      highs_after = all written greater f a.count a.columns l.q a.highs.now l.highs e l.invariant.3;
    }
