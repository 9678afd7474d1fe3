-- What a call of `narrow` answers and leaves, by its contract (`NarrowCall`): one answer for one input (`narrow_determined`) and for the
-- same payload under another accepted header (`narrow-same`); six bytes more than the block's are room enough (`never_13`); and what an accepted call wrote (`wrote`).
use mathlib.Core.Path.{◌≡◌, refl, sym, ap, ◌∙◌}
use mathlib.Core.List.{List}
use Prim.Native.Nat.{ℕ, zero, suc, ◌+◌, ◌≤◌}
use lib.ListN.{length, take, drop}
use lib.Seq.{take-append_seam}
use contract.Lifetimes.{Lfts}
use denote.Ref.{Bor, MutBor, at_last as holding}
use Rattle.rules.specs.Numbers.{Bytes, splice, unless_refused}
use Rattle.rules.proofs.Tests.{left_alone}
use Rattle.rules.proofs.Headers.{SameAnswers}
use Rattle.narrowing.specs.Narrow.{narrow_bytes, narrow_refusal}
use Rattle.narrowing.proofs.Accepted.{before_room, room_enough, same-narrow}
use Rattle.narrows.specs.declared.Narrowed.{Narrowed}
use Rattle.narrows.specs.Narrows.{answer, narrowed_as, out_as}
use Rattle.narrows.proofs.narrow.Reads as reads

-- ---- what a call answered and left

-- lent the block s and out, a call answered w and left this in out
pub record Call (s out : List ℕ) (w : Narrowed) (left : List ℕ) : Type 0 where
  pub answers : w ≡ narrowed_as s (length out)
  pub leaves : left ≡ out_as s out

answer-number : (n x : ℕ) → (answer n x).refusal ≡ n
answer-number zero x = refl
answer-number (suc n) x = refl

-- a refused narrowing leaves what was there
pub kept : (s out : List ℕ) → (narrow_refusal s (length out) ≡ 0 → ⊥) → out ≡ out_as s out
unfolding out_as
kept s out h = left_alone (narrow_refusal s (length out)) (splice out 0 (narrow_bytes s)) out h

module _ (s out : List ℕ) (w : Narrowed) (left : List ℕ) (call : Call s out w left) where
  pub number : w.refusal ≡ narrow_refusal s (length out)
  unfolding narrowed_as
  number = ap (λ (x : Narrowed). x.refusal) call.answers ∙ answer-number (narrow_refusal s (length out)) (length (narrow_bytes s))

  module _ (z : w.refusal ≡ 0) where
    pub taken : narrow_refusal s (length out) ≡ 0
    taken = sym number ∙ z

    pub said : w ≡ record { refusal = 0; length = length (narrow_bytes s) }
    unfolding narrowed_as
    said = call.answers ∙ ap (λ (n : ℕ). answer n (length (narrow_bytes s))) taken

    pub filled : left ≡ splice out 0 (narrow_bytes s)
    unfolding out_as
    filled = call.leaves ∙ ap (λ (n : ℕ). unless_refused n (splice out 0 (narrow_bytes s)) out) taken

    -- the block that the call wrote
    pub wrote : take w.length left ≡ narrow_bytes s
    wrote =
        ap (λ (x : Narrowed). take x.length left) said
        ∙ ap (take (length (narrow_bytes s))) filled
        ∙ take-append_seam (narrow_bytes s) (drop (0 + length (narrow_bytes s)) out)

-- ---- the call by its contract

-- What the caller of `narrow` learns, as the checker has it from the `ensures`: lent a block of the bytes s and an output of the bytes out, the call answered
-- w and left these bytes in the output. `record b { now = s }` is the slice b with the bytes s in it
abbrev pub NarrowCall : List ℕ → List ℕ → Narrowed → List ℕ → Type 0
NarrowCall s out w left = (κs : Lfts 2) × (b : Bor (List ℕ)) × (o : MutBor (List ℕ)) × reads.Learnt κs (record b { now = s }, (holding o out, tt)) w (record b { now = s }, (holding o left, tt))

pub narrow_determined : (s out : List ℕ) (v w : Narrowed) (x y : List ℕ) → NarrowCall s out v x → NarrowCall s out w y → (v ≡ w) × (x ≡ y)
narrow_determined s out v w x y a b = (a.3.0 ∙ sym b.3.0, a.3.1 ∙ sym b.3.1)

pub called : (s out : List ℕ) (w : Narrowed) (left : List ℕ) → NarrowCall s out w left → Call s out w left
called s out w left l = record { answers = l.3.0; leaves = l.3.1 }

-- lent six bytes more than the block has, a narrowing is never refused by 13: its number is that of the rules before it
pub never_13 : (s : List ℕ) → Bytes s → (out : List ℕ) (w : Narrowed) (left : List ℕ) → NarrowCall s out w left → length s + 6 ≤ length out → (w.refusal ≡ before_room s) × (w.refusal ≡ 13 → ⊥)
never_13 s b out w left l h =
    let n = number s out w left (called s out w left l) in
    let r = room_enough s b (length out) h in
    (n ∙ r.0, λ z. r.1 (sym n ∙ z))

-- the same payload under two accepted headers: the same answer, and the same bytes left
pub narrow-same : (s t : List ℕ) → SameAnswers s t → (out : List ℕ) (v w : Narrowed) (x y : List ℕ) → NarrowCall s out v x → NarrowCall t out w y → (w ≡ v) × (y ≡ x)
unfolding narrowed_as out_as
narrow-same s t e out v w x y a b =
    let r = same-narrow s t e (length out) in
    (b.3.0 ∙ (λ i. answer (r.0 i) (length (r.1 i))) ∙ sym a.3.0, b.3.1 ∙ (λ i. unless_refused (r.0 i) (splice out 0 (r.1 i)) out) ∙ sym a.3.1)
