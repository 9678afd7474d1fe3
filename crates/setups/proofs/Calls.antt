-- What a call of `read` answers, and a call of `write` answers and leaves, by their contracts (`ReadCall`, `WriteCall`): one answer for one input (`read_determined`,
-- `write_determined`). A line is read as the grammar says it (`read-says`), and refused by 15 where it says nothing (`read-refused`); what was written is read back (`write_read`), and what
-- was read is written as the one normal line (`read_write`).
use mathlib.Core.Path.{◌≡◌, refl, sym, ap, ◌∙◌, subst}
use mathlib.Core.Logic.{◌↔◌}
use mathlib.Core.List.{List}
use mathlib.Core.Option.{Option as Maybe, none, some}
use Prim.Native.Nat.{ℕ, zero, suc, ◌+◌, ◌≤◌}
use native.Mathlib.Omega.{arith}
use lib.ListN.{length, take, drop}
use lib.Seq.{take-append_seam}
use contract.Lifetimes.{Lfts}
use denote.Ref.{Bor, MutBor, at_last as holding}
use Rattle.rules.specs.Numbers.{splice, unless_refused}
use Rattle.rules.specs.Cut as rules
use Rattle.rules.proofs.Tests.{left_alone}
use Rattle.rules.proofs.Demands.{Small}
use Rattle.std.specs.Prelude.{Option}
use Rattle.cuts.specs.Cuts.{setup_as}
use Rattle.cuts.specs.declared.Setup.{Setup}
use Rattle.lines.specs.Grammar.{Says}
use Rattle.lines.specs.Reader.{read_setup, refusal_by, read_refusal, or_zeros}
use Rattle.lines.specs.Writer.{setup_line, write_refusal}
use Rattle.lines.proofs.Reading.{reads, accepts, refuses}
use Rattle.lines.proofs.Writing.{NormalLine, says-written, says-small, normal_written, longest, writes}
use Rattle.setups.specs.declared.Printed.{Printed}
use Rattle.setups.specs.Setups.{number_of, setup_in, reading_of, reading_as, printed, printed_as, out_as}
use Rattle.setups.proofs.reads.read.Reads as read-reads
use Rattle.setups.proofs.writes.write.Reads as write-reads

-- ---- what a line read answers

module _ (t : List ℕ) (r : Option Setup) (e : r ≡ reading_as t) where
  pub read_number : number_of r ≡ read_refusal t
  unfolding reading_as read_refusal
  read_number = ap number_of e ∙ go (read_setup t)
    where
      go : (o : Maybe rules.Setup) → number_of (reading_of o) ≡ refusal_by o
      go none = refl
      go (some s) = refl

  pub read-setup : setup_in r ≡ or_zeros (read_setup t)
  unfolding reading_as
  read-setup = ap setup_in e ∙ go (read_setup t)
    where
      go : (o : Maybe rules.Setup) → setup_in (reading_of o) ≡ or_zeros o
      go none = refl
      go (some s) = refl

-- ---- what a line written answers and leaves

printed-number : (n long : ℕ) → (printed n long).refusal ≡ n
printed-number zero long = refl
printed-number (suc n) long = refl

module _ (s : rules.Setup) (out : List ℕ) (w : Printed) (left : List ℕ) (e : w ≡ printed_as s (length out)) (l : left ≡ out_as s out) where
  pub write_number : w.refusal ≡ write_refusal s (length out)
  unfolding printed_as
  write_number = ap (λ (x : Printed). x.refusal) e ∙ printed-number (write_refusal s (length out)) (length (setup_line s))

  pub write_kept : (w.refusal ≡ 0 → ⊥) → left ≡ out
  unfolding out_as
  write_kept h = l ∙ sym (left_alone (write_refusal s (length out)) (splice out 0 (setup_line s)) out (λ z. h (write_number ∙ z)))

  module _ (z : w.refusal ≡ 0) where
    pub write_said : w.length ≡ length (setup_line s)
    unfolding printed_as
    write_said = ap (λ (x : Printed). x.length) (e ∙ ap (λ (n : ℕ). printed n (length (setup_line s))) (sym write_number ∙ z))

    pub write_filled : left ≡ splice out 0 (setup_line s)
    unfolding out_as
    write_filled = l ∙ ap (λ (n : ℕ). unless_refused n (splice out 0 (setup_line s)) out) (sym write_number ∙ z)

    -- the line that the call wrote
    pub write_line : take w.length left ≡ setup_line s
    write_line =
        ap (λ (n : ℕ). take n left) write_said ∙ ap (take (length (setup_line s))) write_filled ∙ take-append_seam (setup_line s) (drop (0 + length (setup_line s)) out)

-- ---- the calls by their contracts

-- What the caller of `read` learns, as the checker has it from the `ensures`: lent a line of the bytes t, the call answered r. `record b { now = t }` is the slice b with the bytes t in it
abbrev pub ReadCall : List ℕ → Option Setup → Type 0
ReadCall t r = (κs : Lfts 1) × (b : Bor (List ℕ)) × read-reads.Learnt κs (record b { now = t }, tt) r (record b { now = t }, tt)

-- and of `write`: for the setup c, and lent an output of the bytes out, the call answered w and left these bytes in the output
abbrev pub WriteCall : Setup → List ℕ → Printed → List ℕ → Type 0
WriteCall c out w left = (κs : Lfts 1) × (o : MutBor (List ℕ)) × write-reads.Learnt κs (c, (holding o out, tt)) w (c, (holding o left, tt))

pub read_determined : (t : List ℕ) (q r : Option Setup) → ReadCall t q → ReadCall t r → q ≡ r
read_determined t q r a b = a.2 ∙ sym b.2

pub write_determined : (c : Setup) (out : List ℕ) (v w : Printed) (x y : List ℕ) → WriteCall c out v x → WriteCall c out w y → (v ≡ w) × (x ≡ y)
write_determined c out v w x y a b = (a.2.0 ∙ sym b.2.0, a.2.1 ∙ sym b.2.1)

-- ---- what they say of each other

module _ (t : List ℕ) (r : Option Setup) (call : ReadCall t r) where
  -- the line is taken with these numbers, exactly where the grammar has it with them
  pub read-says : (s : rules.Setup) → Says t s ↔ ((number_of r ≡ 0) × (setup_in r ≡ s))
  read-says s =
      let n = read_number t r call.2 in
      let c = read-setup t r call.2 in
      (λ x. let a = (accepts t s).0 x in (n ∙ a.0, c ∙ a.1), λ h. (accepts t s).1 (sym n ∙ h.0, sym c ∙ h.1))

  -- 15 for any other line, and no other number
  pub read-refused : (number_of r ≡ 15) ↔ ((s : rules.Setup) → Says t s → ⊥)
  read-refused = let n = read_number t r call.2 in (λ h. (refuses t).0 (sym n ∙ h), λ h. n ∙ (refuses t).1 h)

-- a line that was written, lent to the reader, gives the same four numbers
pub write_read : (c : Setup) → Small (setup_as c) → (out : List ℕ) (w : Printed) (left : List ℕ) → WriteCall c out w left → w.refusal ≡ 0
    → (r : Option Setup) → ReadCall (take w.length left) r → (number_of r ≡ 0) × (setup_in r ≡ setup_as c)
write_read c u out w left a z r b =
    let line = write_line (setup_as c) out w left a.2.0 a.2.1 z in
    (read-says (take w.length left) r b (setup_as c)).0 (subst (λ (t : List ℕ). Says t (setup_as c)) (sym line) (says-written (setup_as c) u))

-- what was read, lent to the writer with room for 60 bytes, is written, and as the one normal line of that setup
pub read_write : (t : List ℕ) (r : Option Setup) → ReadCall t r → number_of r ≡ 0 → (c : Setup) → setup_as c ≡ setup_in r → (out : List ℕ) (w : Printed) (left : List ℕ) → WriteCall c out w left → 60 ≤ length out
    → (w.refusal ≡ 0) × NormalLine (setup_in r) (take w.length left)
read_write t r a z c e out w left b h =
    let x = (read-says t r a (setup_in r)).1 (z, refl) in
    let small : Small (setup_as c) = subst Small (sym e) (says-small t (setup_in r) x) in
    let done : w.refusal ≡ 0 = write_number (setup_as c) out w left b.2.0 b.2.1 ∙ (writes (setup_as c) (length out)).1 (omega (arith, longest (setup_as c) small, h)) in
    (done, subst (NormalLine (setup_in r)) (sym (write_line (setup_as c) out w left b.2.0 b.2.1 done ∙ ap setup_line e)) (normal_written t (setup_in r) ((reads t (setup_in r)).0 x)))
