-- The first part is met, then one more at each turn; a bad one ends the loop.
use mathlib.Core.Path.{◌≡◌, refl, sym, ap, ◌∙◌}
use Prim.Native.Nat.{◌+◌}
use native.Mathlib.Omega.{arith}
use mathlib.Core.Bool.{◌&&◌}
use mathlib.Core.List.{[]}
use lib.ListN.{length, get_or}
use borrow.Author.Tests.{not-true, not-false}
use Rattle.rules.specs.Numbers.{Bytes}
use Rattle.rules.specs.Rules.{payload_start, refusal}
use Rattle.rules.proofs.Numbers.{below-index}
use Rattle.joining.specs.Join.{parts_in, index_of}
use Rattle.seen.proofs.Bits.{seen_none}
use Rattle.parts.specs.declared.Part.{Part}
use Rattle.parts.specs.Parts.{this, answer}
use Rattle.parts.proofs.Standing.{part-number, part-good, reach, some_bytes}
use Rattle.arrivals.proofs.Meeting.{met_bad}
use Rattle.arrivals.proofs.Turns.{index-says, fresh-says, first_is, first_met, this_comparable, next_met, refused_judges, many_apart, apart, met_judges}
use Rattle.arrivals.proofs.meet.Goals as goal
use Rattle.arrivals.proofs.meet.Goals.{After-shared_slice_known-1, Else-part-ne0}

bytes : (c : After-shared_slice_known-1) → Bytes c.args.parts.now
bytes c = below-index 256 c.args.parts.now (λ i h. (c.type_inv.parts i).fits)

-- what is known of the first
first-answer : (c : After-shared_slice_known-1) → let a = c.args in a.first ≡ answer 0 0 (this a.parts.now 0)
first-answer c = let a = c.args in part-good a.parts.now 0 a.first c.requires.1 c.requires.2

first_good : (c : After-shared_slice_known-1) → refusal (this c.args.parts.now 0) ≡ 0
first_good c = let a = c.args in sym (part-number a.parts.now 0 a.first c.requires.1) ∙ c.requires.2

lead_is : (c : After-shared_slice_known-1) → let a = c.args in a.first.start ≡ 0 + payload_start (this a.parts.now 0)
lead_is c = ap (λ (p : Part). p.start) (first-answer c)

index_is : (c : After-shared_slice_known-1) → let a = c.args in a.first.index ≡ index_of (this a.parts.now 0)
index_is c = ap (λ (p : Part). p.index) (first-answer c)

end_is : (c : After-shared_slice_known-1) → let a = c.args in a.first.end ≡ 0 + length (this a.parts.now 0)
end_is c = ap (λ (p : Part). p.end) (first-answer c)

-- what is known of the part of a turn
part-answer : (c : Else-part-ne0) → let l = c.loop-here in let a = c.args in
    c.part_at-part.result ≡ answer 0 l.here (this a.parts.now l.here)
part-answer c =
    let l = c.loop-here in
    let a = c.args in
    part-good a.parts.now l.here c.part_at-part.result c.part_at-part.ensures c.if-part-ne0.false

part_sound : (c : Else-part-ne0) → let l = c.loop-here in let a = c.args in refusal (this a.parts.now l.here) ≡ 0
part_sound c =
    let l = c.loop-here in
    let a = c.args in
    sym (part-number a.parts.now l.here c.part_at-part.result c.part_at-part.ensures) ∙ c.if-part-ne0.false

pub text_length-text-requires : goal.text_length-text-requires
text_length-text-requires c = let l = lead_is (goal.at.text_length-text-requires c).After-shared_slice_known-1 in (c.requires.0, first_good (goal.at.text_length-text-requires c).After-shared_slice_known-1, omega (arith, l))

pub note-requires : goal.note-requires
note-requires c = record {
  seen_len = refl;
  k_bound = λ t. let k = c.args.first.index in ((index-says k (sym c.is_index-together.ensures ∙ t)).1, seen_none k);
}

pub loop-here-init : goal.loop-here-init
loop-here-init c =
    let a = c.args in
    let i = c.is_index-together in
    (first_met a.parts.now (bytes (goal.at.loop-here-init c).After-shared_slice_known-1) c.requires.0 (first_good (goal.at.loop-here-init c).After-shared_slice_known-1) a.first.index i.result _ (index_is (goal.at.loop-here-init c).After-shared_slice_known-1) c.is_index-together.ensures c.note.ensures a.first.end (end_is (goal.at.loop-here-init c).After-shared_slice_known-1), omega arith, c.note.auto.seen)

pub returns-then-part-ne0 : goal.returns-then-part-ne0
returns-then-part-ne0 c =
    let l = c.loop-here in
    let a = c.args in
    let n = c.part_at-part.result.refusal in
    refused_judges a.parts.now c.refused.result n c.refused.ensures (omega (arith, c.if-part-ne0.true))
    (met_bad a.parts.now l.seen l.together l.count l.here l.invariant.0 c.loop-here-test.true n (part-number a.parts.now l.here c.part_at-part.result c.part_at-part.ensures) (omega (arith, c.if-part-ne0.true)))

pub belongs-fits-requires : goal.belongs-fits-requires
belongs-fits-requires c =
    let l = c.loop-here in
    let a = c.args in record {
      comparable = this_comparable a.parts.now (bytes (goal.at.belongs-fits-requires c).After-shared_slice_known-1) c.requires.0 (first_good (goal.at.belongs-fits-requires c).After-shared_slice_known-1) a.first.start c.text_length-text.result (lead_is (goal.at.belongs-fits-requires c).After-shared_slice_known-1) c.text_length-text.ensures
          l.seen l.together l.count l.here l.invariant.0 c.loop-here-test.true (part_sound (goal.at.belongs-fits-requires c).Else-part-ne0) c.part_at-part.result.start (ap (λ (x : Part). x.start) (part-answer (goal.at.belongs-fits-requires c).Else-part-ne0));
      seen_len = l.invariant.2;
    }

pub note-requires-in-loop-here : goal.note-requires-in-loop-here
note-requires-in-loop-here c =
    let l = c.loop-here in
    let a = c.args in
    record {
      seen_len = l.invariant.2;
      k_bound = λ u. fresh-says a.parts.now a.first.start c.part_at-part.result.start c.text_length-text.result l.seen c.part_at-part.result.index (sym c.belongs-fits.ensures ∙ u);
    }

pub overflow_add-count : goal.overflow_add-count
overflow_add-count c = omega (arith, c.loop-here.invariant.0.few, c.loop-here-test.true)

pub loop-here-smaller : goal.loop-here-smaller
loop-here-smaller c =
    let l = c.loop-here in
    let a = c.args in
    let q : c.part_at-part.result.end ≡ l.here + length (this a.parts.now l.here) = ap (λ (x : Part). x.end) (part-answer (goal.at.loop-here-smaller c).Else-part-ne0) in
    omega (arith, q, some_bytes a.parts.now l.here c.loop-here-test.true, reach a.parts.now l.here c.loop-here-test.true)

pub loop-here-preserved : goal.loop-here-preserved
loop-here-preserved c =
    let l = c.loop-here in
    let a = c.args in
    let f = c.belongs-fits in
    let n = c.note-in-loop-here in (
      next_met a.parts.now (bytes (goal.at.loop-here-preserved c).After-shared_slice_known-1) c.requires.0 (first_good (goal.at.loop-here-preserved c).After-shared_slice_known-1) a.first.start c.text_length-text.result (lead_is (goal.at.loop-here-preserved c).After-shared_slice_known-1) c.text_length-text.ensures
          l.seen l.together l.count l.here l.invariant.0 c.loop-here-test.true (part_sound (goal.at.loop-here-preserved c).Else-part-ne0) c.part_at-part.result.start (ap (λ (x : Part). x.start) (part-answer (goal.at.loop-here-preserved c).Else-part-ne0))
          c.part_at-part.result.index f.result _ (ap (λ (x : Part). x.index) (part-answer (goal.at.loop-here-preserved c).Else-part-ne0)) c.belongs-fits.ensures c.note-in-loop-here.ensures
          c.part_at-part.result.end (ap (λ (x : Part). x.end) (part-answer (goal.at.loop-here-preserved c).Else-part-ne0)),
      omega (arith, l.invariant.1),
      c.note-in-loop-here.auto.seen ∙ l.invariant.2,
    )

pub returns-then-count-gt1000 : goal.returns-then-count-gt1000
returns-then-count-gt1000 c =
    let l = c.loop-here in
    let a = c.args in
    refused_judges a.parts.now c.refused-then-count-gt1000.result 16 c.refused-then-count-gt1000.ensures (omega arith)
    (many_apart a.parts.now l.seen l.together _ l.count l.here (bytes (goal.at.returns-then-count-gt1000 c).After-shared_slice_known-1) l.invariant.0 (omega (arith, c.loop-here-test.false)) refl c.if-count-gt1000.true)

pub has_up_to-requires : goal.has_up_to-requires
has_up_to-requires c = (c.loop-here.invariant.2, omega (arith, c.if-count-gt1000.false))

pub returns-then-not-together-has_up_to : goal.returns-then-not-together-has_up_to
returns-then-not-together-has_up_to c =
    let l = c.loop-here in
    let a = c.args in
    refused_judges a.parts.now c.refused-then-not-together-has_up_to.result 16 c.refused-then-not-together-has_up_to.ensures (omega arith)
    (apart a.parts.now l.seen l.together c.has_up_to.result l.count l.here (bytes (goal.at.returns-then-not-together-has_up_to c).After-shared_slice_known-1) l.invariant.0 (omega (arith, c.loop-here-test.false)) c.has_up_to.ensures
    (not-true (l.together && c.has_up_to.result) c.if-not-together-has_up_to.true-raw))

pub returns : goal.returns
returns c =
    let l = c.loop-here in
    let a = c.args in
    let e : length (get_or (parts_in a.parts.now) 0 []) ≡ length (this a.parts.now 0) = ap length (first_is a.parts.now (bytes (goal.at.returns c).After-shared_slice_known-1) c.requires.0 (first_good (goal.at.returns c).After-shared_slice_known-1)) in
    met_judges a.parts.now l.seen l.together c.has_up_to.result l.count l.here (bytes (goal.at.returns c).After-shared_slice_known-1) l.invariant.0 (omega (arith, c.loop-here-test.false)) c.has_up_to.ensures
    a.first.end (omega (arith, end_is (goal.at.returns c).After-shared_slice_known-1)) l.invariant.1 (omega (arith, c.if-count-gt1000.false))
    (not-false (l.together && c.has_up_to.result) c.if-not-together-has_up_to.false-raw)
