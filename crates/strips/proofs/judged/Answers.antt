-- 1 to 8 and 20 by the opening, 9 and 10 by what is chosen, 11 and 13 by the numbers compared.
use mathlib.Core.Path.{◌≡◌, sym, ap, ap₂, ◌∙◌}
use mathlib.Core.Bool.{Bool, not, ◌&&◌}
use Prim.Native.Nat.{ℕ, min}
use native.Mathlib.Omega.{arith}
use borrow.Author.Tests.{le-leb, lt-leb}
use lib.Dec.{leb}
use Rattle.std.specs.Ordering.{is_le, nat_cmp}
use Rattle.std.proofs.lemmas.Bool.Decides.{nat_tests}
use Rattle.strips.proofs.Refusals.{strip-block, strip-segment, strip_eleven, strip_thirteen, strip_none}
use Rattle.strips.proofs.judged.Goals as goal
use Rattle.strips.proofs.judged.Goals.{After-contains}

pub returns-then-o-ne0 : goal.returns-then-o-ne0
returns-then-o-ne0 c s e = let a = c.args in strip-block s a.o e a.array a.segment a.columns a.low a.high c.if-o-ne0.true

pub returns-then-number-ne0 : goal.returns-then-number-ne0
returns-then-number-ne0 c s e =
    let a = c.args in
    let h = c.chosen-number in
    strip-segment s a.o e a.array a.segment a.columns a.low a.high c.if-o-ne0.false h.result c.chosen-number.ensures c.if-number-ne0.true

-- the order of the library's comparison
at_most : (a b : ℕ) → is_le (nat_cmp a b) ≡ leb a b
at_most a b = grind (arith, nat_tests)

-- the number of columns is from 1 up to that of points
within : (c : After-contains) → (let a = c.args in c.contains.result ≡ (leb 1 a.columns && leb a.columns a.o.points))
within c = let n = c.new.ensures in c.contains.ensures.value ∙ rw (n.start, n.end, n.exhausted) (ap₂ {C = Bool} (λ x y. x && y) (at_most 1 c.args.columns) (at_most c.args.columns c.args.o.points))

-- there is room for w columns twice where there is in the lesser room
twice : (w low high : ℕ) → (leb w low && leb w high) ≡ leb w (min low high)
twice w low high = grind (arith, nat_tests)

pub returns-then-not-contains : goal.returns-then-not-contains
returns-then-not-contains c s e =
    let h = c.chosen-number in
    let a = c.args in
    strip_eleven s a.o e a.array a.segment a.columns a.low a.high c.if-o-ne0.false h.result h.ensures c.if-number-ne0.false
    (ap not (sym (within (goal.at.returns-then-not-contains c).After-contains) ∙ c.if-not-contains.true))

pub returns-then-min-columns : goal.returns-then-min-columns
returns-then-min-columns c s e =
    let h = c.chosen-number in
    let a = c.args in
    strip_thirteen s a.o e a.array a.segment a.columns a.low a.high c.if-o-ne0.false h.result h.ensures c.if-number-ne0.false
    (ap not (sym (within (goal.at.returns-then-min-columns c).After-contains) ∙ c.if-not-contains.false))
    (ap not (twice a.columns a.low a.high ∙ lt-leb a.columns (min a.low a.high) (omega (arith, c.min.ensures, c.if-min-columns.true))))

pub returns : goal.returns
returns c s e =
    let h = c.chosen-number in
    let a = c.args in
    strip_none s a.o e a.array a.segment a.columns a.low a.high c.if-o-ne0.false h.result h.ensures c.if-number-ne0.false
    (ap not (sym (within (goal.at.returns c).After-contains) ∙ c.if-not-contains.false))
    (ap not (twice a.columns a.low a.high ∙ le-leb a.columns (min a.low a.high) (omega (arith, c.min.ensures, c.if-min-columns.false))))
