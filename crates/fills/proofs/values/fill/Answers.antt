-- The blocks and the rest behind them are all the values, and have all the marks.
use mathlib.Core.Path.{◌≡◌, refl, ap, ◌∙◌}
use mathlib.Core.List.{List, map, flatten}
use Prim.Native.Nat.{ℕ, ◌+◌, ◌*◌, ◌-◌, ◌/◌}
use native.Mathlib.Omega.{arith}
use borrow.Author.Rules.{rules}
use Rattle.rules.specs.Numbers.{up_from}
use Rattle.fills.specs.Fills.{sample_at, value_at, mark_count_at, mark_count_from}
use Rattle.rules.proofs.Marks.{marks_few}
use Rattle.fills.proofs.Marking.{marks_more}
use Rattle.fills.proofs.Sampling.{fewer, counted}
use Rattle.fills.proofs.Writes.{length_run, over-start, run_more, within}
use Rattle.fills.proofs.values.fill.Goals as goal
use Rattle.fills.proofs.values.fill.Goals.{After-fill_rest-rest}

pub fill_blocks-marks-requires : goal.fill_blocks-marks-requires
fill_blocks-marks-requires g c =
    let a = c.args in
    record {
      finite_value = search rules;
      holds = fewer c.requires.holds _ (omega arith);
      blocks_in_bounds = omega (arith, within g.S.Slot.WIDTH (a.count / 64 * 64) a.count (omega arith));
    }

pub fill_rest-rest-requires : goal.fill_rest-rest-requires
fill_rest-rest-requires g c = record {
  finite_value = search rules;
  holds = search rules;
  done_le_count = omega arith;
  count_in_bounds = omega (arith, c.fill_blocks-marks.auto.out);
}

-- the marks of the blocks and of the rest
marked : (g : _) (c : After-fill_rest-rest g) → (let a = c.args in c.fill_blocks-marks.result + c.fill_rest-rest.result ≡ mark_count_from a.order a.size a.block.now a.from 0 a.count)
marked g c =
    let a = c.args in
    let n : ℕ = a.count / 64 * 64 in
    let e : n + (a.count - n) ≡ a.count = omega arith in
    marks_more a.size (sample_at a.order a.size a.block.now a.from) 0 n (a.count - n) n c.fill_blocks-marks.result c.fill_rest-rest.result _ (omega arith) c.fill_blocks-marks.ensures.value refl c.fill_rest-rest.ensures.value
    ∙ ap (mark_count_from a.order a.size a.block.now a.from 0) e

pub overflow_add-result : goal.overflow_add-result
overflow_add-result g c =
    let a = c.args in
    omega (arith, marked g (goal.at.overflow_add-result g c).After-fill_rest-rest, marks_few a.size (sample_at a.order a.size a.block.now a.from) 0 a.count, counted c.requires.holds, c.well_formed)

pub returns : goal.returns
unfolding mark_count_at
returns g c =
    let s = g.S.Slot in
    let a = c.args in
    let n : ℕ = a.count / 64 * 64 in
    let f : ℕ → List _ = λ k. s.items (value_at a.c.gain a.c.offset a.order a.size a.block.now a.from k) in
    let e : n + (a.count - n) ≡ a.count = omega arith in
    record {
      out_after = c.fill_rest-rest.ensures.out_after
          ∙ rw e at (run_more f s.WIDTH (λ k. g.met.S.Slot.each _) a.out.now _ 0 0 n (a.count - n) n (n * s.WIDTH) (omega arith) (omega arith) (omega (arith, within s.WIDTH n a.count (omega arith))) c.fill_blocks-marks.ensures.out_after)
          ∙ over-start a.out.now (flatten (map f (up_from 0 a.count))) (a.count * s.WIDTH) (length_run f s.WIDTH (λ k. g.met.S.Slot.each _) 0 a.count);
      value = marked g (goal.at.returns g c).After-fill_rest-rest;
    }
