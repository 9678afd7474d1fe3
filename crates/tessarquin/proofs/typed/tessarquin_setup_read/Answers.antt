-- Refused by 15, without room, or answered: by the case of the answer of `read`.
use mathlib.Core.Path.{◌≡◌, sym, ap, ◌∙◌}
use mathlib.Core.List.{List}
use Prim.Native.Nat.{ℕ}
use native.Mathlib.Omega.{arith}
use Rattle.rules.specs.Numbers.{all_bytes, splice}
use Rattle.rules.specs.Cut.{Setup}
use Rattle.lines.specs.Reader.{read_setup, read_refusal, or_zeros}
use Rattle.setups.specs.Setups.{number_of, setup_in}
use Rattle.setups.proofs.Calls.{read_number, read-setup}
use Rattle.tessarquin.specs.Calls.{setup_numbers, setup_read_bytes, setup_read_number, setup_read_left}
use Rattle.tessarquin.proofs.Slices.{own_refused, own_short, own_left}
use Rattle.tessarquin.proofs.Typing.{read_length}
use Rattle.tessarquin.proofs.typed.tessarquin_setup_read.Goals as goal
use Rattle.tessarquin.proofs.typed.tessarquin_setup_read.Goals.{After-read, In-Some}

-- the line that was lent
abbrev line : After-read → List ℕ
line c = c.args.line.now

number : (c : After-read) → number_of c.read.result ≡ read_refusal (line c)
number c = read_number (line c) c.read.result c.read.ensures

-- there is a setup: it is the line's
taken : (c : In-Some) → read_refusal (line (goal.at.In-Some c).After-read) ≡ 0
taken c = sym (number (goal.at.In-Some c).After-read) ∙ ap number_of c.in-Some.is

pub returns-then-answer-lt32 : goal.returns-then-answer-lt32
unfolding setup_read_number setup_read_left
returns-then-answer-lt32 c =
    let told = own_short (read_refusal (line (goal.at.returns-then-answer-lt32 c).After-read)) (setup_read_bytes (line (goal.at.returns-then-answer-lt32 c).After-read)) c.args.answer.now (taken (goal.at.returns-then-answer-lt32 c).In-Some) (omega (arith, c.if-answer-lt32.true, read_length (line (goal.at.returns-then-answer-lt32 c).After-read))) in record {
      value = told.0;
      answer_after = told.1;
    }

pub returns-in_default : goal.returns-in_default
unfolding setup_read_number setup_read_left
returns-in_default c =
    let told = own_refused (read_refusal (line (goal.at.returns-in_default c).After-read)) (setup_read_bytes (line (goal.at.returns-in_default c).After-read)) c.args.answer.now 15
    (ap number_of (sym c.in_default.is) ∙ number (goal.at.returns-in_default c).After-read) (λ e. omega (arith, e)) in record {
      value = told.0;
      answer_after = told.1;
    }

pub returns : goal.returns
unfolding setup_read_number setup_read_left
returns c =
    let answer : List ℕ = c.args.answer.now in
    let same : setup_in c.read.result ≡ or_zeros (read_setup (line (goal.at.returns c).After-read)) = read-setup (line (goal.at.returns c).After-read) c.read.result c.read.ensures in
    let r = own_left (read_refusal (line (goal.at.returns c).After-read)) (setup_read_bytes (line (goal.at.returns c).After-read)) answer (taken (goal.at.returns c).In-Some) (omega (arith, c.if-answer-lt32.false, read_length (line (goal.at.returns c).After-read))) in record {
      value = r.0;
      answer_after = c.put_setup.ensures ∙ ap (λ (o : Setup). splice answer 0 (all_bytes 0 8 (setup_numbers o))) (ap setup_in (sym c.in-Some.is) ∙ same) ∙ r.1;
    }
