-- The numbers of a narrowing (`block-number`, `gain-number`, `room-number`), what it answers and leaves (`refuses`, `narrows`), and what its
-- writers need of an opened block (`byte_needs`, `word_needs`).
use mathlib.Core.Path.{◌≡◌, refl, sym, ap, ap₂, ◌∙◌, subst}
use Prim.Native.Nat.{ℕ, zero, suc, ◌+◌, ◌*◌, ◌/◌, ◌≤◌, ◌<◌}
use native.Mathlib.Omega.{arith}
use mathlib.Core.Bool.{Bool, true, false, cond, ◌||◌}
use mathlib.Core.List.{List}
use lib.ListN.{length, get_or}
use lib.Dec.{T, leb, eqb}
use lib.Ieee.{binary32, of_bits, to_bits}
use lib.Ieee.Bits.{to_bits-of_bits}
use lib.Ieee.Scale.{finite}
use borrow.Author.Tests.{lt-leb, ne_eqb, eq-eqb}
use Rattle.rules.specs.Numbers.{Bytes, splice, unless_refused}
use Rattle.rules.specs.Template.{template, width_at}
use Rattle.rules.specs.Wave.{starts_of}
use Rattle.rules.specs.Rules.{finite32, refusal, opened, stated}
use Rattle.rules.specs.Cut.{or_else}
use Rattle.rules.proofs.Tests.{says_or, or_some, left_alone}
use Rattle.rules.proofs.Asked.{single-sound}
use Rattle.rules.proofs.Opened.{sized-opened, payload_there, fits-opened, good-opened}
use Rattle.numbers.proofs.Patterns.{no_nan}
use Rattle.block.specs.declared.Opened.{Opened}
use Rattle.block.specs.Opened.{opened_as}
use Rattle.block.proofs.Answers.{record_of, accepted_as_lem}
use Rattle.narrowing.specs.Narrow.{widened, times256, comm_type, gain, narrow_bytes, narrow_refusal}
use Rattle.narrowing.proofs.Accepted.{Gained, narrow-number}
use Rattle.narrows.specs.declared.Narrowed.{Narrowed}
use Rattle.narrows.specs.Narrows.{refused_as, answer, narrowed_as, out_as}
use Rattle.narrows.specs.Steps.{byte_block, word_block}
use Rattle.narrows.proofs.Written.{middle, whole, byte_written, word-written, front_is, byte_long, word-long, word-stated}

-- ---- the numbers

module _ (s : List ℕ) (n : ℕ) where
  pub block-number : (refusal s ≡ 0 → ⊥) → refusal s ≡ narrow_refusal s n
  block-number h =
      or_some (refusal s) (cond (eqb (comm_type (opened s).head) 0 || finite (widened (gain (opened s).head))) (cond (leb (length (narrow_bytes s)) n) 0 13) 19) h ∙ sym (narrow-number s n)

  module _ (e : refusal s ≡ 0) where
    last_is : (g r : Bool) → (eqb (comm_type (opened s).head) 0 || finite (widened (gain (opened s).head))) ≡ g → leb (length (narrow_bytes s)) n ≡ r → cond g (cond r 0 13) 19 ≡ narrow_refusal s n
    last_is g r x y = sym (narrow-number s n ∙ (λ i. or_else (e i) (cond (x i) (cond (y i) 0 13) 19)))

    pub gain-number : comm_type (opened s).head ≡ 1 → finite (widened (gain (opened s).head)) ≡ false → 19 ≡ narrow_refusal s n
    gain-number w f = last_is false (leb (length (narrow_bytes s)) n) (ap₂ {C = Bool} (λ a c. a || c) (ne_eqb (comm_type (opened s).head) 0 (λ z. omega arith)) f) refl

    pub room-number : Gained (opened s).head → n < length (narrow_bytes s) → 13 ≡ narrow_refusal s n
    room-number g l = last_is true false (says_or (eqb (comm_type (opened s).head) 0) (finite (widened (gain (opened s).head))) (eq-eqb (comm_type (opened s).head) 0) (λ f. f) g) (lt-leb (length (narrow_bytes s)) n l)

-- ---- what is answered and left

answered : (m : ℕ) (w : Narrowed) (long : ℕ) → (m ≡ 0 → ⊥) → w ≡ refused_as m → w ≡ answer m long
answered zero w long h e = absurd (h refl)
answered (suc m) w long h e = e

module _ (s out : List ℕ) where
  pub refuses : (m : ℕ) → m ≡ narrow_refusal s (length out) → (m ≡ 0 → ⊥) → (w : Narrowed) → w ≡ refused_as m → (w ≡ narrowed_as s (length out)) × (out ≡ out_as s out)
  unfolding narrowed_as out_as
  refuses m e h w q = (
    answered m w (length (narrow_bytes s)) h q ∙ ap (λ (k : ℕ). answer k (length (narrow_bytes s))) e,
    left_alone m (splice out 0 (narrow_bytes s)) out h ∙ ap (λ (k : ℕ). unless_refused k (splice out 0 (narrow_bytes s)) out) e,
  )

  pub narrows : narrow_refusal s (length out) ≡ 0 → (long : ℕ) → length (narrow_bytes s) ≡ long → (left : List ℕ) → left ≡ splice out 0 (narrow_bytes s)
      → (record { refusal = 0; length = long } ≡ narrowed_as s (length out)) × (left ≡ out_as s out)
  unfolding narrowed_as out_as
  narrows e long l left q = (
    (λ i. record { refusal = 0; length = sym l i }) ∙ ap (λ (k : ℕ). answer k (length (narrow_bytes s))) (sym e),
    q ∙ ap (λ (k : ℕ). unless_refused k (splice out 0 (narrow_bytes s)) out) (sym e),
  )

fits-gain : (s : List ℕ) → Bytes s → refusal s ≡ 0 → gain (opened s).head < 4294967296
unfolding template width_at
fits-gain s b e = (fits-opened s b e).fit 156

-- ---- what the writers need

pub record ByteNeeds (s : List ℕ) (o : Opened) (total : ℕ) : Type 0 where
  pub room : o.start + total ≤ length s
  pub small : total ≤ 16777216
  pub is : byte_block s o.start total ≡ narrow_bytes s
  pub long : length (narrow_bytes s) ≡ 11 + total

pub record WordNeeds (s : List ℕ) (o : Opened) (front one two : ℕ) : Type 0 where
  pub order : o.order ≤ 1
  pub least : 346 ≤ front
  pub small : front + one + two ≤ 16777216
  pub room : o.start + front + (one + two) * 2 ≤ length s
  pub is : word_block s o.start o.order front one two (times256 (gain (opened s).head)) ≡ narrow_bytes s
  pub long : length (narrow_bytes s) ≡ 11 + (front + one + two)
  pub real : T (finite o.calibration.gain)
  pub good : finite32 (gain (opened s).head) ≡ true
  pub bits : to_bits binary32 o.calibration.gain ≡ gain (opened s).head

module _ (s : List ℕ) (b : Bytes s) (o : Opened) (says : o ≡ opened_as s) (e : refusal s ≡ 0) where
  record_is : record_of s ≡ o
  record_is = sym (accepted_as_lem s o says e)

  pub byte_needs : comm_type (opened s).head ≡ 0 → ByteNeeds s o (get_or o.layout.starts 7 0 + get_or o.layout.lengths 7 0)
  unfolding starts_of
  byte_needs z =
      let n : ByteNeeds s (record_of s) (stated s) = record { room = payload_there s b e; small = (sized-opened s b e).most; is = byte_written s b e z; long = byte_long s b e z } in
      subst (λ (x : Opened). ByteNeeds s x (get_or x.layout.starts 7 0 + get_or x.layout.lengths 7 0)) record_is (subst (ByteNeeds s (record_of s)) (sym (whole s b e)) n)

  gain-finite : finite32 (gain (opened s).head) ≡ true
  gain-finite = (good-opened s b e).floats.gain

  finite-gain : T (finite (of_bits binary32 (gain (opened s).head)))
  finite-gain = single-sound (gain (opened s).head) gain-finite

  pub word_needs : comm_type (opened s).head ≡ 1 → WordNeeds s o (get_or o.layout.starts 6 0) (get_or o.layout.lengths 6 0 / 2) (get_or o.layout.lengths 7 0 / 2)
  unfolding starts_of
  word_needs word =
      let one : ℕ = (opened s).head 60 / 2 in
      let two : ℕ = (opened s).head 64 / 2 in
      let n : WordNeeds s (record_of s) (346 + length (middle s b e word)) one two = record {
        order = (fits-opened s b e).order;
        least = omega arith;
        small = omega (arith, word-stated s b e word, (sized-opened s b e).most);
        room = omega (arith, word-stated s b e word, payload_there s b e);
        is = word-written s b e word;
        long = word-long s b e word;
        real = finite-gain;
        good = gain-finite;
        bits = to_bits-of_bits binary32 (gain (opened s).head) (fits-gain s b e) (no_nan (of_bits binary32 (gain (opened s).head)) finite-gain);
      } in
      subst (λ (x : Opened). WordNeeds s x (get_or x.layout.starts 6 0) (get_or x.layout.lengths 6 0 / 2) (get_or x.layout.lengths 7 0 / 2)) record_is
      (subst (λ (k : ℕ). WordNeeds s (record_of s) k one two) (sym (front_is s b e word)) n)
