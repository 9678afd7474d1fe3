-- Each turn writes sixty-four values more, and counts the marks of their samples.
use mathlib.Core.Path.{◌≡◌, refl, ap, ◌∙◌}
use mathlib.Core.List.{List, map, flatten, map-map}
use Prim.Native.Nat.{ℕ, ◌+◌, ◌*◌}
use native.Mathlib.Omega.{arith}
use lib.IntN.{ℤ}
use lib.ListN.{length}
use borrow.Author.Rules.{rules}
use Rattle.rules.specs.Numbers.{up_from}
use Rattle.rules.specs.Points.{value_of, mark_count_of}
use Rattle.fills.specs.Fills.{sample_at, value_at, mark_count_from, over}
use Rattle.rules.proofs.Marks.{marks_few}
use Rattle.fills.proofs.Marking.{marks_more}
use Rattle.fills.proofs.Sampling.{fewer, counted}
use Rattle.fills.proofs.Writes.{over_none, length_map_up, run_more, within, behind}
use Rattle.fills.proofs.values.fill_blocks.Goals as goal
use Rattle.fills.proofs.values.fill_blocks.Goals.{After-count_marks-marks}

pub loop-b-init : goal.loop-b-init
unfolding up_from flatten mark_count_of
loop-b-init g c = record { samples_len = refl; written = over_none c.args.out.now 0; marked = refl }

-- the block of samples that a turn reads
pub read_samples-requires : goal.read_samples-requires
read_samples-requires g c = record {
  holds = fewer c.requires.holds _ (omega arith);
  samples_len = c.loop-b.invariant.samples_len;
}

pub fill_samples-requires : goal.fill_samples-requires
fill_samples-requires g c =
    let a = c.args in
    let w = g.S.Slot.WIDTH in
    let n : ℕ = c.loop-b.b * 64 in
    let r = c.read_samples in
    record {
      finite_value = search rules;
      samples_len = ap length r.ensures ∙ length_map_up (sample_at a.order a.size a.block.now a.from) _ 64;
      at_in_bounds = omega (arith, ap (λ (x : ℕ). n * x) c.WIDTH.ensures, behind w n 64 (n + 64) refl, within w (n + 64) (a.blocks * 64) (omega arith), c.loop-b.auto.out);
    }

pub count_marks-marks-requires : goal.count_marks-marks-requires
count_marks-marks-requires g c =
    let a = c.args in
    record {
      le_size = c.requires.holds.narrow;
      samples_len = ap length c.read_samples.ensures ∙ length_map_up (sample_at a.order a.size a.block.now a.from) _ 64;
    }

-- the marks of sixty-four samples more
sixty_four : (g : _) (c : After-count_marks-marks g)
    → (let a = c.args in
    let l = c.loop-b in
    l.marks + c.count_marks-marks.result ≡ mark_count_from a.order a.size a.block.now a.from 0 (l.b * 64 + 64))
sixty_four g c =
    let a = c.args in
    let l = c.loop-b in
    marks_more a.size (sample_at a.order a.size a.block.now a.from) 0 (l.b * 64) 64 (l.b * 64) l.marks c.count_marks-marks.result _ (omega arith) l.invariant.marked c.read_samples.ensures c.count_marks-marks.ensures

pub overflow_add-marks : goal.overflow_add-marks
overflow_add-marks g c =
    let a = c.args in
    omega (arith, sixty_four g (goal.at.overflow_add-marks g c).After-count_marks-marks, marks_few a.size (sample_at a.order a.size a.block.now a.from) 0 (c.loop-b.b * 64 + 64), counted c.requires.holds, c.well_formed)

pub loop-b-preserved : goal.loop-b-preserved
unfolding value_at
loop-b-preserved g c =
    let s = g.S.Slot in
    let a = c.args in
    let l = c.loop-b in
    let r = c.read_samples in
    let n : ℕ = l.b * 64 in
    let f : ℕ → ℤ = sample_at a.order a.size a.block.now a.from in
    let v : ℤ → List _ = λ z. s.items (value_of a.c.gain a.c.offset z) in
    let e : n + 64 ≡ (l.b + 1) * 64 = omega arith in
    record {
      samples_len = ap length r.ensures ∙ length_map_up f _ 64;
      written = c.fill_samples.ensures
          ∙ ap (λ (t : List (List _)). over l.out (n * c.WIDTH.result) (flatten t)) (ap (map v) r.ensures ∙ map-map v f (up_from n 64))
          ∙ rw e at (run_more (λ k. v (f k)) s.WIDTH (λ k. g.met.S.Slot.each _) a.out.now l.out 0 0 n 64 n (n * c.WIDTH.result) (omega arith) (ap (λ (x : ℕ). n * x) c.WIDTH.ensures ∙ omega arith) (omega (arith, within s.WIDTH n (a.blocks * 64) (omega arith))) l.invariant.written);
      marked = rw e at (sixty_four g (goal.at.loop-b-preserved g c).After-count_marks-marks);
    }
