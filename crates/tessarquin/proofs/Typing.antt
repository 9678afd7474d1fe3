-- What a setup line written into two slices returns and leaves: where its length cannot be told (`untold_15`, `untold_13`, `write_untold`), refused (`write_refused`) or answered (`write_answered`).
use mathlib.Core.Path.{◌≡◌, refl, sym, ap, ◌∙◌}
use mathlib.Core.Bool.{true}
use mathlib.Core.List.{List, [], ◌∷◌}
use Prim.Native.Nat.{ℕ, ◌≤◌, ◌<◌}
use native.Mathlib.Omega.{arith}
use lib.ListN.{length}
use Rattle.rules.specs.Numbers.{bytes, splice}
use Rattle.rules.specs.Cut.{Setup, or_else}
use Rattle.rules.proofs.Numbers.{length-all_bytes}
use Rattle.rules.proofs.Tests.{or_alone}
use Rattle.lines.specs.Writer.{setup_line, write_refusal}
use Rattle.lines.proofs.Writing.{too_short, writes}
use Rattle.setups.specs.declared.Printed.{Printed}
use Rattle.setups.specs.Setups.{printed_as, out_as}
use Rattle.setups.proofs.Calls.{write_number, write_kept, write_said, write_filled}
use Rattle.tessarquin.specs.Calls.{setup_numbers, setup_read_bytes, setup_write_answer, setup_write_number, setup_write_left, setup_write_answer_left}
use Rattle.tessarquin.proofs.Writing.{one_number}
use Rattle.tessarquin.proofs.Slices.{number_own, number_without, number_none, left_as_it_was, left_written}

-- the number of a line whose length cannot be told, for an output of n bytes: 15, or 13
module _ (c : Setup) (n : ℕ) where
  pub untold_15 : n < length (setup_line c) → 15 ≡ or_else (write_refusal c n) 13
  untold_15 h = sym (ap (λ (k : ℕ). or_else k 13) (too_short c n h))

  pub untold_13 : length (setup_line c) ≤ n → 13 ≡ or_else (write_refusal c n) 13
  untold_13 h = sym (ap (λ (k : ℕ). or_else k 13) ((writes c n).1 h))

pub told_length : (c : Setup) → length (setup_write_answer c) ≡ 8
told_length c = length-all_bytes 0 8 (length (setup_line c) ∷ [])

module _ (c : Setup) (out answer : List ℕ) where
  abbrev number : ℕ
  number = setup_write_number c (length out) (length answer)

  abbrev pub Answered : ℕ → List ℕ → List ℕ → Type 0
  Answered m left second =
      (m ≡ setup_write_number c (length out) (length answer)) × (left ≡ setup_write_left c out (length answer)) × (second ≡ setup_write_answer_left c (length out) answer)

  refused_by : (m : ℕ) → m ≡ number → (m ≡ 0 → ⊥) → Answered m out answer
  unfolding setup_write_left setup_write_answer_left
  refused_by m e h = (e, left_as_it_was m number e (setup_line c) out h, left_as_it_was m number e (setup_write_answer c) answer h)

  -- the second slice is too short
  pub write_untold : length answer < 8 → (m : ℕ) → m ≡ or_else (write_refusal c (length out)) 13 → Answered m out answer
  unfolding setup_write_number
  write_untold h m e =
      let n : ℕ = write_refusal c (length out) in
      let r = number_without n (setup_write_answer c) (length answer) n true (sym (or_alone n)) (omega (arith, told_length c)) in
      refused_by m (e ∙ r.0) (λ z. r.1 (sym e ∙ z))

  -- the line itself was answered by w, which left this in the first slice
  module _ (enough : 8 ≤ length answer) (w : Printed) (left : List ℕ) (e : w ≡ printed_as c (length out)) (l : left ≡ out_as c out) where
    pub write_refused : (w.refusal ≡ 0 → ⊥) → Answered w.refusal left answer
    unfolding setup_write_number
    write_refused h =
        let r = refused_by w.refusal (number_own (write_refusal c (length out)) (setup_write_answer c) (length answer) w.refusal (write_number c out w left e l) h) h in
        (r.0, write_kept c out w left e l h ∙ r.1, r.2)

    pub write_answered : w.refusal ≡ 0 → (second : List ℕ) → second ≡ splice answer 0 (bytes 0 8 w.length) → Answered 0 left second
    unfolding setup_write_number setup_write_left setup_write_answer_left
    write_answered z second q =
        let k = number_none (write_refusal c (length out)) (setup_write_answer c) (length answer) (sym (write_number c out w left e l) ∙ z) (omega (arith, told_length c)) in (
          k,
          write_filled c out w left e l z ∙ left_written 0 number k (setup_line c) out refl,
          q ∙ ap (λ (n : ℕ). splice answer 0 (bytes 0 8 n)) (write_said c out w left e l z) ∙ ap (splice answer 0) (one_number (length (setup_line c))) ∙ left_written 0 number k (setup_write_answer c) answer refl,
        )

-- ---- the answer of a setup read

pub read_length : (t : List ℕ) → length (setup_read_bytes t) ≡ 32
read_length t = length-all_bytes 0 8 (setup_numbers _)
