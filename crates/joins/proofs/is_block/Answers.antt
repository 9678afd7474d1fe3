-- Its length, one part alone, RISTIME, no times, and times.
use mathlib.Core.Path.{◌≡◌, sym, ap, ◌∙◌, subst}
use Prim.Native.Nat.{ℕ, ◌+◌, ◌-◌}
use native.Mathlib.Omega.{arith}
use lib.ListN.{get_or}
use Rattle.rules.specs.Numbers.{Bytes}
use Rattle.rules.specs.Rules.{refusal, ascending}
use Rattle.rules.proofs.Numbers.{below-index}
use Rattle.parts.proofs.Tables.{first_good}
use Rattle.arrivals.specs.Arrivals.{Timed, times_at}
use Rattle.joins.specs.Steps.{Gathered, start_by}
use Rattle.joins.proofs.Tabled.{first_part_lem, gathered_by, start-within, first-within, first-start}
use Rattle.joins.proofs.Rising.{timed, trig-wide, too_long, one-part, many_ris, no_times, by_times}
use Rattle.joins.proofs.is_block.Goals as goal
use Rattle.joins.proofs.is_block.Goals.{After-lead_of-lead, After-shared_slice_known-1}

bytes : (c : After-shared_slice_known-1) → Bytes c.args.parts.now
bytes c = below-index 256 c.args.parts.now (λ i h. (c.type_inv.parts i).fits)

-- the first's lead was read
gathered : (c : After-lead_of-lead) → let a = c.args in Gathered a.parts.now c.lead_of-lead.result a.count a.end
gathered c = let a = c.args in gathered_by a.parts.now c.lead_of-lead.result a.count a.end c.requires c.lead_of-lead.ensures

-- where its trigger times start
starts : (c : After-lead_of-lead) → let l = c.lead_of-lead.result.lengths in get_or l 0 0 + get_or l 1 0 + get_or l 2 0 ≡ start_by c.lead_of-lead.result 3
starts c = let a = c.args in first-start a.parts.now (bytes (goal.at.After-lead_of-lead c).After-shared_slice_known-1) c.lead_of-lead.result a.count a.end (gathered c)

pub slice_bounds-lead_of-end : goal.slice_bounds-lead_of-end
slice_bounds-lead_of-end c = omega (arith, c.requires.ends, first-within c.args.parts.now)

pub lead_of-lead-requires : goal.lead_of-lead-requires
lead_of-lead-requires c =
    ap refusal (first_part_lem c.args.parts.now c.args.end c.requires.together.some c.requires.ends) ∙ first_good c.args.parts.now (bytes (goal.at.lead_of-lead-requires c).After-shared_slice_known-1) c.requires.together

pub returns-then-total_of-gt16777216 : goal.returns-then-total_of-gt16777216
returns-then-total_of-gt16777216 c =
    let a = c.args in
    too_long a.parts.now (bytes (goal.at.returns-then-total_of-gt16777216 c).After-shared_slice_known-1) c.lead_of-lead.result a.count a.end (gathered (goal.at.returns-then-total_of-gt16777216 c).After-lead_of-lead) c.total_of.result c.total_of.ensures c.if-total_of-gt16777216.true

pub returns-then-count-lt2 : goal.returns-then-count-lt2
returns-then-count-lt2 c =
    let a = c.args in
    one-part a.parts.now (bytes (goal.at.returns-then-count-lt2 c).After-shared_slice_known-1) c.lead_of-lead.result a.count a.end (gathered (goal.at.returns-then-count-lt2 c).After-lead_of-lead) c.total_of.result c.total_of.ensures (omega (arith, c.if-total_of-gt16777216.false)) c.if-count-lt2.true

pub returns-then-lengths-gt0 : goal.returns-then-lengths-gt0
returns-then-lengths-gt0 c =
    let a = c.args in
    many_ris a.parts.now (bytes (goal.at.returns-then-lengths-gt0 c).After-shared_slice_known-1) c.lead_of-lead.result a.count a.end (gathered (goal.at.returns-then-lengths-gt0 c).After-lead_of-lead) c.total_of.result c.total_of.ensures (omega (arith, c.if-count-lt2.false)) (omega (arith, c.if-lengths-gt0.true))

pub returns-then-lengths-lt1 : goal.returns-then-lengths-lt1
returns-then-lengths-lt1 c =
    let a = c.args in
    no_times a.parts.now (bytes (goal.at.returns-then-lengths-lt1 c).After-shared_slice_known-1) c.lead_of-lead.result a.count a.end (gathered (goal.at.returns-then-lengths-lt1 c).After-lead_of-lead) c.total_of.result c.total_of.ensures (omega (arith, c.if-total_of-gt16777216.false)) (omega (arith, c.if-lengths-gt0.false)) c.if-lengths-lt1.true

pub overflow_sub-end : goal.overflow_sub-end
overflow_sub-end c =
    let a = c.args in
    start-within a.parts.now (bytes (goal.at.overflow_sub-end c).After-shared_slice_known-1) c.lead_of-lead.result a.count a.end (gathered (goal.at.overflow_sub-end c).After-lead_of-lead)

pub rise-requires : goal.rise-requires
rise-requires c =
    let a = c.args in
    let there = c.if-lengths-lt1.false in
    let at = timed a.parts.now (bytes (goal.at.rise-requires c).After-shared_slice_known-1) c.lead_of-lead.result a.count a.end (gathered (goal.at.rise-requires c).After-lead_of-lead) there (trig-wide a.parts.now (bytes (goal.at.rise-requires c).After-shared_slice_known-1) c.lead_of-lead.result a.count a.end (gathered (goal.at.rise-requires c).After-lead_of-lead) there) in
    record {
      timed = subst (λ (n : ℕ). Timed c.lead_of-lead.result.order (a.end - c.lead_of-lead.result.start) n a.parts.now) (sym (starts (goal.at.rise-requires c).After-lead_of-lead)) at;
      count_value = (c.requires.count, omega (arith, c.requires.count, c.requires.together.most));
    }

pub returns : goal.returns
returns c =
    let a = c.args in
    by_times a.parts.now (bytes (goal.at.returns c).After-shared_slice_known-1) c.lead_of-lead.result a.count a.end (gathered (goal.at.returns c).After-lead_of-lead) c.total_of.result c.total_of.ensures (omega (arith, c.if-total_of-gt16777216.false)) (omega (arith, c.if-lengths-gt0.false)) c.if-lengths-lt1.false c.rise.result
    (c.rise.ensures ∙ ap (λ (n : ℕ). ascending (times_at c.lead_of-lead.result.order n a.parts.now)) (starts (goal.at.returns c).After-lead_of-lead))
