-- Setup lines, by the contracts of the two calls for C and the numbers in the bytes that they left: `tessarquin_setup_read` returns 0 with the numbers of the line where the grammar has it
-- (`setup_said`), and only there (`read_told`), and 15 exactly where it has none (`setup_unsaid`); what `tessarquin_setup_write` wrote is read back (`written_read`), and what was read is
-- written as the one normal line of that setup (`read-written`).
use mathlib.Core.Path.{◌≡◌, refl, sym, ap, ◌∙◌, subst}
use mathlib.Core.Logic.{◌↔◌}
use mathlib.Core.List.{List}
use Prim.Native.Nat.{ℕ, ◌≤◌}
use native.Mathlib.Omega.{arith}
use lib.ListN.{length, get_or, take}
use Rattle.rules.specs.Numbers.{numbers}
use Rattle.rules.specs.Cut.{Setup}
use Rattle.rules.proofs.Demands.{Small}
use Rattle.lines.specs.Grammar.{Says}
use Rattle.lines.specs.Reader.{read_setup, read_refusal, or_zeros}
use Rattle.lines.specs.Writer.{setup_line, write_refusal}
use Rattle.lines.proofs.Reading.{reads, accepts, refuses}
use Rattle.lines.proofs.Writing.{NormalLine, says-written, says-small, normal_written, longest, writes}
use Rattle.tessarquin.specs.Calls.{setup_numbers, setup_read_bytes, setup_read_number, setup_read_left, setup_write_answer, setup_write_number, setup_write_left, setup_write_answer_left}
use Rattle.tessarquin.proofs.Slices.{number_enough, own_answered}
use Rattle.tessarquin.proofs.Typing.{read_length, told_length}
use Rattle.tessarquin.proofs.Writing.{numbers-read}
use Rattle.tessarquin.proofs.Learnt.{SetupReadCall, SetupWriteCall}
use Rattle.demands.proofs.Lengths.{long_in, Wrote, wrote_by}

-- ---- a line read

module _ (t answer : List ℕ) (m : ℕ) (left : List ℕ) (call : SetupReadCall t answer m left) where
  -- a call that returned 0: the grammar has the line, and the four numbers that were left are its
  pub read_told : m ≡ 0 → let s = or_zeros (read_setup t) in Says t s × (numbers 0 8 4 left ≡ setup_numbers s)
  unfolding setup_read_number setup_read_left
  read_told z =
      let s : Setup = or_zeros (read_setup t) in
      let there = own_answered (read_refusal t) (setup_read_bytes t) answer m left call.3 z in
      let x : Says t s = (accepts t s).1 (there.0, refl) in
      let u : Small s = says-small t s x in
      (x, ap (numbers 0 8 4) there.1 ∙ numbers-read (setup_numbers s) answer (omega (arith, u.sp), (omega (arith, u.np), (omega (arith, u.fp), (omega (arith, u.sn), tt)))))

  module _ (room : 32 ≤ length answer) where
    own : m ≡ read_refusal t
    unfolding setup_read_number
    own = call.3.0 ∙ number_enough (read_refusal t) (setup_read_bytes t) (length answer) (omega (arith, read_length t))

    -- with room for them, exactly the lines of the grammar are read, and with exactly their numbers
    pub setup_said : (s : Setup) → Says t s → (m ≡ 0) × (numbers 0 8 4 left ≡ setup_numbers s)
    setup_said s x =
        let a = (accepts t s).0 x in
        let z : m ≡ 0 = own ∙ a.0 in
        (z, (read_told z).1 ∙ ap setup_numbers a.1)

    -- and any other is refused by 15
    pub setup_unsaid : (m ≡ 15) ↔ ((s : Setup) → Says t s → ⊥)
    setup_unsaid = (λ h. (refuses t).0 (sym own ∙ h), λ h. own ∙ (refuses t).1 h)

-- ---- a line written

module _ (c : Setup) (u : Small c) (out answer : List ℕ) (m : ℕ) (left second : List ℕ) (call : SetupWriteCall c out answer m left second) where
  -- a call that returned 0 wrote the normal line
  pub write_done : m ≡ 0 → Wrote (setup_line c) out answer left second
  unfolding setup_write_number setup_write_left setup_write_answer_left
  write_done z = wrote_by (write_refusal c (length out)) (setup_line c) out answer m left second call.3.0 call.3.1.0 call.3.1.1 z (omega (arith, longest c u))

  -- lent 60 bytes for the line and eight for its length, it is never refused
  pub write_enough : 60 ≤ length out → 8 ≤ length answer → m ≡ 0
  unfolding setup_write_number
  write_enough h k =
      call.3.0 ∙ number_enough (write_refusal c (length out)) (setup_write_answer c) (length answer) (omega (arith, told_length c, k)) ∙ (writes c (length out)).1 (omega (arith, longest c u, h))

  -- what was written, lent to the reader with room for four numbers, gives the same four
  pub written_read : m ≡ 0 → (room : List ℕ) (n : ℕ) (told : List ℕ) → SetupReadCall (take (long_in second) left) room n told → 32 ≤ length room → (n ≡ 0) × (numbers 0 8 4 told ≡ setup_numbers c)
  written_read z room n told read h =
      setup_said (take (long_in second) left) room n told read h c (subst (λ (t : List ℕ). Says t c) (sym (write_done z).block) (says-written c u))

-- what was read, lent to the writer with room for it, is written as the one normal line of that setup
pub read-written : (t answer : List ℕ) (m : ℕ) (left : List ℕ) → SetupReadCall t answer m left → m ≡ 0 → (c : Setup) → setup_numbers c ≡ numbers 0 8 4 left
    → (out told : List ℕ) (n : ℕ) (line second : List ℕ) → SetupWriteCall c out told n line second → 60 ≤ length out → 8 ≤ length told
    → Says t c × (n ≡ 0) × NormalLine c (take (long_in second) line)
read-written t answer m left read z c e out told n line second write h k =
    let r = read_told t answer m left read z in
    let same : setup_numbers c ≡ setup_numbers (or_zeros (read_setup t)) = e ∙ r.1 in
    let is : or_zeros (read_setup t) ≡ c = sym (λ i. record { sp = get_or (same i) 0 0; np = get_or (same i) 1 0; fp = get_or (same i) 2 0; sn = get_or (same i) 3 0 }) in
    let x : Says t c = subst (Says t) is r.0 in
    let u : Small c = says-small t c x in
    let done : n ≡ 0 = write_enough c u out told n line second write h k in
    (x, done, subst (NormalLine c) (sym (write_done c u out told n line second write done).block) (normal_written t c ((reads t c).0 x)))
