-- Entry by entry: what is tested so far, the time before, and what is left.
use native.Mathlib.Omega.{arith}
use mathlib.Core.Path.{◌≡◌, sym, ap, ◌∙◌}
use mathlib.Core.Bool.{not, ◌&&◌}
use mathlib.Core.List.{map}
use Prim.Native.Nat.{ℕ, ◌+◌, ◌-◌}
use lib.Ieee.{Float, binary64, of_bits, nan_bits, lt}
use Rattle.rules.specs.Numbers.{up_from}
use Rattle.block.specs.Opened.{time_by, times_by}
use Rattle.block.proofs.Times.{after, after_none, time_more, time-end}
use Rattle.block.proofs.tables.ascend.Goals as goal

pub float_from_bits-last : goal.float_from_bits-last
unfolding nan_bits
float_from_bits-last c = tt

pub loop-j-init : goal.loop-j-init
loop-j-init c =
    let a = c.args in
    let all : a.count ≡ a.count - 0 = omega arith in
    after_none (times_by a.order a.from a.step a.count a.s.now)
    ∙ ap (λ (n : ℕ). after (of_bits binary64 18442240474082181120) (map (time_by a.order a.from a.step a.s.now) (up_from 0 n))) all

pub overflow_mul-j : goal.overflow_mul-j
overflow_mul-j c = omega (arith, (c.requires c.loop-j.j c.loop-j-test.true).0)

pub overflow_add-from : goal.overflow_add-from
overflow_add-from c = omega (arith, (c.requires c.loop-j.j c.loop-j-test.true).0)

pub double_at-time-requires : goal.double_at-time-requires
double_at-time-requires c =
    let f = c.requires c.loop-j.j c.loop-j-test.true in record {
      at_in_bounds = f.0;
      s_value = f.1;
    }

pub loop-j-preserved : goal.loop-j-preserved
loop-j-preserved c =
    let a = c.args in
    let l = c.loop-j in
    let t = c.double_at-time.ensures in
    time_more (time_by a.order a.from a.step a.s.now) a.count _ l.ok _ l.last l.j c.loop-j-test.true (ap (λ (x : Float). not (lt x l.last)) t) l.invariant
    ∙ ap (λ (x : Float). (l.ok && not (lt c.double_at-time.result l.last)) && after x (map (time_by a.order a.from a.step a.s.now) (up_from (l.j + 1) (a.count - (l.j + 1))))) (sym t)

pub returns : goal.returns
returns c =
    let a = c.args in
    let l = c.loop-j in
    time-end (time_by a.order a.from a.step a.s.now) a.count _ l.ok l.last l.j c.loop-j-test.false l.invariant
