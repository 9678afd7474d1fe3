-- Refused by 12, without room, or answered: by the case of the answer of `combined`.
use mathlib.Core.Path.{◌≡◌, sym, ap, ◌∙◌}
use mathlib.Core.List.{List}
use Prim.Native.Nat.{ℕ}
use native.Mathlib.Omega.{arith}
use Rattle.rules.specs.Numbers.{all_bytes, splice}
use Rattle.rules.specs.Cut.{Setup, combined, combined_refusal}
use Rattle.cuts.specs.Cuts.{number_of, setup_in}
use Rattle.cuts.proofs.Combining.{combined-number, combined-setup}
use Rattle.tessarquin.specs.Calls.{setup, setup_numbers, combined_bytes, combined_number, combined_left}
use Rattle.tessarquin.proofs.Slices.{combined-length, own_refused, own_short, own_left}
use Rattle.tessarquin.proofs.combining.tessarquin_combined.Goals as goal
use Rattle.tessarquin.proofs.combining.tessarquin_combined.Goals.{After-combined, In-Some}

-- the two setups that the call was asked for, and its count
abbrev first : After-combined → Setup
first c = let a = c.args in setup a.spa a.npa a.fpa a.sna

abbrev second : After-combined → Setup
second c = let a = c.args in setup a.spb a.npb a.fpb a.snb

abbrev counted : After-combined → ℕ
counted c = c.args.count

number : (c : After-combined) → number_of c.combined.result ≡ combined_refusal (first c) (second c)
number c = combined-number (first c) (second c) (counted c) c.combined.result c.combined.ensures

-- there is a setup: it is the combined one
taken : (c : In-Some) → combined_refusal (first (goal.at.In-Some c).After-combined) (second (goal.at.In-Some c).After-combined) ≡ 0
taken c = sym (number (goal.at.In-Some c).After-combined) ∙ ap number_of c.in-Some.is

pub returns-then-answer-lt32 : goal.returns-then-answer-lt32
unfolding combined_number combined_left
returns-then-answer-lt32 c =
    let told = own_short (combined_refusal (first (goal.at.returns-then-answer-lt32 c).After-combined) (second (goal.at.returns-then-answer-lt32 c).After-combined)) (combined_bytes (first (goal.at.returns-then-answer-lt32 c).After-combined) (second (goal.at.returns-then-answer-lt32 c).After-combined) (counted (goal.at.returns-then-answer-lt32 c).After-combined)) c.args.answer.now (taken (goal.at.returns-then-answer-lt32 c).In-Some)
    (omega (arith, c.if-answer-lt32.true, combined-length (first (goal.at.returns-then-answer-lt32 c).After-combined) (second (goal.at.returns-then-answer-lt32 c).After-combined) (counted (goal.at.returns-then-answer-lt32 c).After-combined))) in record {
      value = told.0;
      answer_after = told.1;
    }

pub returns-in_default : goal.returns-in_default
unfolding combined_number combined_left
returns-in_default c =
    let told = own_refused (combined_refusal (first (goal.at.returns-in_default c).After-combined) (second (goal.at.returns-in_default c).After-combined)) (combined_bytes (first (goal.at.returns-in_default c).After-combined) (second (goal.at.returns-in_default c).After-combined) (counted (goal.at.returns-in_default c).After-combined)) c.args.answer.now 12
    (ap number_of (sym c.in_default.is) ∙ number (goal.at.returns-in_default c).After-combined) (λ e. omega (arith, e)) in record {
      value = told.0;
      answer_after = told.1;
    }

pub returns : goal.returns
unfolding combined_number combined_left
returns c =
    let answer : List ℕ = c.args.answer.now in
    let same : setup_in c.combined.result ≡ combined (first (goal.at.returns c).After-combined) (second (goal.at.returns c).After-combined) (counted (goal.at.returns c).After-combined) = combined-setup (first (goal.at.returns c).After-combined) (second (goal.at.returns c).After-combined) (counted (goal.at.returns c).After-combined) c.combined.result c.combined.ensures (taken (goal.at.returns c).In-Some) in
    let r = own_left (combined_refusal (first (goal.at.returns c).After-combined) (second (goal.at.returns c).After-combined)) (combined_bytes (first (goal.at.returns c).After-combined) (second (goal.at.returns c).After-combined) (counted (goal.at.returns c).After-combined)) answer (taken (goal.at.returns c).In-Some)
    (omega (arith, c.if-answer-lt32.false, combined-length (first (goal.at.returns c).After-combined) (second (goal.at.returns c).After-combined) (counted (goal.at.returns c).After-combined))) in record {
      value = r.0;
      answer_after = c.put_setup.ensures ∙ ap (λ (o : Setup). splice answer 0 (all_bytes 0 8 (setup_numbers o))) (ap setup_in (sym c.in-Some.is) ∙ same) ∙ r.1;
    }
