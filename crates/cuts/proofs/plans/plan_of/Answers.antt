-- Each number is what its function gives, and the sum stays small.
use mathlib.Core.Path.{◌≡◌, ap, ◌∙◌}
use Prim.Native.Nat.{ℕ, ◌+◌, ◌*◌, ◌≤◌}
use native.Mathlib.Nat.{mul-le-mul}
use native.Mathlib.Omega.{arith}
use lib.ListN.{get_or}
use Rattle.cuts.specs.Cuts.{setup_as}
use Rattle.cuts.specs.Plans.{only_if, one_in}
use Rattle.cuts.proofs.Asking.{only_le}
use Rattle.cuts.proofs.plans.plan_of.Goals as goal
use Rattle.cuts.proofs.plans.plan_of.Goals.{After-only_if-trig, After-only_if-two}

-- the bytes kept of a segment, and of all segments
array_small : (n kind : ℕ) → n ≤ 16777216 → kind ≤ 1 → n * (kind + 1) ≤ 33554432
array_small n kind k h = let w : kind + 1 ≤ 2 = omega arith in omega (arith, mul-le-mul k w)

all_small : (rows n kind : ℕ) → rows ≤ 4294967295 → n ≤ 16777216 → kind ≤ 1 → rows * (n * (kind + 1)) ≤ 144115188042301440
all_small rows n kind r k h = omega (arith, mul-le-mul r (array_small n kind k h))

trig-small : (c : After-only_if-trig) → c.only_if-trig.result ≤ 68719476720
trig-small c = omega (arith, c.only_if-trig.ensures, only_le (get_or c.args.o.layout.lengths 3 0) (c.one_if-rows.result * 16), c.one_if-rows.ensures)

two-small : (c : After-only_if-two) → c.only_if-two.result ≤ 144115188042301440
two-small c = omega (arith, c.only_if-two.ensures, only_le (get_or c.args.o.layout.lengths 7 0) (c.one_if-rows.result * (c.kept_count-count.result * (c.args.o.kind + 1))), all_small c.one_if-rows.result c.kept_count-count.result c.args.o.kind (omega arith) (omega (arith, c.kept_count-count.ensures.1, c.requires.fp_lt_points.1)) (omega (arith, c.requires.fp_lt_points.2)))

pub overflow_add-result-3 : goal.overflow_add-result-3
overflow_add-result-3 c = omega (arith, c.requires.lengths_bound, trig-small (goal.at.overflow_add-result-3 c).After-only_if-trig, all_small c.one_if-rows.result c.kept_count-count.result c.args.o.kind (omega arith) (omega (arith, c.kept_count-count.ensures.1, c.requires.fp_lt_points.1)) (omega (arith, c.requires.fp_lt_points.2)))

pub overflow_add-result-4 : goal.overflow_add-result-4
overflow_add-result-4 c = omega (arith, c.requires.lengths_bound, trig-small (goal.at.overflow_add-result-4 c).After-only_if-trig, all_small c.one_if-rows.result c.kept_count-count.result c.args.o.kind (omega arith) (omega (arith, c.kept_count-count.ensures.1, c.requires.fp_lt_points.1)) (omega (arith, c.requires.fp_lt_points.2)), two-small (goal.at.overflow_add-result-4 c).After-only_if-two)

pub returns : goal.returns
returns c =
    let a = c.args in
    let rows = c.one_if-rows.ensures in
    let kept = c.kept_count-count.ensures.0 in
    let trig = c.only_if-trig.ensures ∙ ap (λ (x : ℕ). only_if (get_or a.o.layout.lengths 3 0) (x * 16)) rows in
    let one : c.one_if-rows.result * (c.kept_count-count.result * (a.o.kind + 1)) ≡ one_in a.o (setup_as a.setup) = λ i. rows i * (kept i * (a.o.kind + 1)) in
    let two = c.only_if-two.ensures ∙ ap (only_if (get_or a.o.layout.lengths 7 0)) one in
    λ i. record {
      rows = rows i;
      skip = c.saturating_sub.ensures i;
      step = c.step.ensures i;
      from = a.setup.fp;
      count = kept i;
      trig = trig i;
      one = one i;
      two = two i;
      total = 346 + (get_or a.o.layout.lengths 1 0 + get_or a.o.layout.lengths 4 0) + trig i + one i + two i;
    }
