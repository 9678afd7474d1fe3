-- Pair after pair: what comes of those that are left, with the values of those before them, is what all the pairs say.
use mathlib.Core.Path.{◌≡◌, refl, sym, ap, ◌∙◌}
use Prim.Native.Nat.{ℕ, ◌+◌, ◌-◌, ◌≤◌, ◌<◌}
use native.Mathlib.Omega.{arith}
use lib.Arith.{lt_of_le-ne}
use lib.ListN.{length, drop, set, length-set}
use Rattle.std.specs.Prelude.{Some}
use Rattle.rules.specs.Cut.{Setup}
use Rattle.cuts.specs.Cuts.{setup_of}
use Rattle.lines.specs.Reader.{pairs_at}
use Rattle.setups.proofs.Folds.{going_on, from_start, found_within, step_none, step_twice, step_end, step_stop, step_more}
use Rattle.setups.proofs.reads.read_pairs.Goals as goal
use Rattle.setups.proofs.reads.read_pairs.Goals.{In_ok-key, Else-next-line}

pub loop-init : goal.loop-init
loop-init c = record { four = refl; within = c.requires; same = from_start 4 (drop c.args.start c.args.line.now) }

pub returns-in_err-key : goal.returns-in_err-key
returns-in_err-key c =
    let l = c.loop in
    c.from_residual.ensures ∙ step_none c.args.line.now l.at (4 - l.counter) l.values c.pair_at.result c.pair_at.ensures (omega (arith, c.loop-test.true)) c.in_err-key.was ∙ l.invariant.same

-- the pair that was found: its key is below 4, and it ends within the line
within : (c : In_ok-key) → let f = c.in_ok-key.field-0 in (f.key < 4) × (f.next ≤ length c.args.line.now)
within c =
    let l = c.loop in
    found_within c.args.line.now l.at (4 - l.counter) l.values c.pair_at.result c.pair_at.ensures (omega (arith, c.loop-test.true)) c.in_ok-key.field-0 c.in_ok-key.was l.invariant.within

pub returns-then-is_some : goal.returns-then-is_some
returns-then-is_some c =
    let l = c.loop in
    step_twice c.args.line.now l.at (4 - l.counter) l.values c.pair_at.result c.pair_at.ensures (omega (arith, c.loop-test.true)) c.in_ok-key.field-0 c.in_ok-key.was (sym c.is_some.ensures ∙ c.if-is_some.true) ∙ l.invariant.same

pub returns-then-next-line : goal.returns-then-next-line
returns-then-next-line c =
    let l = c.loop in
    ap (λ (s : Setup). Some (setup_of s)) c.setup_of.ensures
    ∙ step_end c.args.line.now l.at (4 - l.counter) l.values c.pair_at.result c.pair_at.ensures (omega (arith, c.loop-test.true)) c.in_ok-key.field-0 c.in_ok-key.was (sym c.is_some.ensures ∙ c.if-is_some.false) c.if-next-line.true ∙ l.invariant.same

-- something stands behind it
more : (c : Else-next-line) → c.in_ok-key.field-0.next < length c.args.line.now
more c = lt_of_le-ne (within (goal.at.Else-next-line c).In_ok-key).1 c.if-next-line.false

pub bounds-line-next : goal.bounds-line-next
bounds-line-next c = more (goal.at.bounds-line-next c).Else-next-line

pub returns-then-line-next-ne44 : goal.returns-then-line-next-ne44
returns-then-line-next-ne44 c =
    let l = c.loop in
    step_stop c.args.line.now l.at (4 - l.counter) l.values c.pair_at.result c.pair_at.ensures (omega (arith, c.loop-test.true)) c.in_ok-key.field-0 c.in_ok-key.was (more (goal.at.returns-then-line-next-ne44 c).Else-next-line) c.if-line-next-ne44.true ∙ l.invariant.same

pub overflow_add-at : goal.overflow_add-at
overflow_add-at c = omega (arith, more (goal.at.overflow_add-at c).Else-next-line)

pub loop-preserved : goal.loop-preserved
loop-preserved c =
    let l = c.loop in
    let f = c.in_ok-key.field-0 in
    let n : 4 - (l.counter + 1) ≡ 4 - l.counter - 1 = omega arith in record {
      four = length-set l.values f.key (Some f.value) ∙ l.invariant.four;
      within = omega (arith, more (goal.at.loop-preserved c).Else-next-line);
      same = ap (λ (k : ℕ). going_on (set l.values f.key (Some f.value)) (pairs_at k (drop (f.next + 1) c.args.line.now))) n ∙ step_more c.args.line.now l.at (4 - l.counter) l.values c.pair_at.result c.pair_at.ensures (omega (arith, c.loop-test.true)) f c.in_ok-key.was (more (goal.at.loop-preserved c).Else-next-line) (sym c.is_some.ensures ∙ c.if-is_some.false) c.if-line-next-ne44.false ∙ l.invariant.same;
    }

pub returns : goal.returns
unfolding pairs_at
returns c =
    let l = c.loop in
    let z : 4 - l.counter ≡ 0 = omega (arith, c.loop-test.false) in
    ap (λ (n : ℕ). going_on l.values (pairs_at n (drop l.at c.args.line.now))) (sym z) ∙ l.invariant.same
