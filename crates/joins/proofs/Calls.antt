-- What a call of `join` answers and leaves, by its contract (`JoinCall`): one answer for one input (`join_determined`), and what an accepted call wrote (`wrote`).
use mathlib.Core.Path.{◌≡◌, refl, sym, ap, ◌∙◌}
use mathlib.Core.List.{List}
use Prim.Native.Nat.{ℕ, zero, suc, ◌+◌}
use lib.ListN.{length, take, drop}
use lib.Seq.{take-append_seam}
use contract.Lifetimes.{Lfts}
use denote.Ref.{Bor, MutBor, at_last as holding}
use Rattle.rules.specs.Numbers.{splice, unless_refused}
use Rattle.rules.proofs.Tests.{left_alone}
use Rattle.joining.specs.Join.{parts_in, joined_bytes, join_refusal}
use Rattle.joins.specs.declared.Joined.{Joined}
use Rattle.joins.specs.Joins.{answer, joined_as, out_as}
use Rattle.joins.proofs.join.Reads as reads

-- ---- what a call answered and left

-- lent the parts s and out, a call answered w and left this in out
pub record Call (s out : List ℕ) (w : Joined) (left : List ℕ) : Type 0 where
  pub answers : w ≡ joined_as s (length out)
  pub leaves : left ≡ out_as s out

answer-number : (n x y : ℕ) → (answer n x y).refusal ≡ n
answer-number zero x y = refl
answer-number (suc n) x y = refl

-- a refused join leaves what was there
pub kept : (s out : List ℕ) → (join_refusal s (length out) ≡ 0 → ⊥) → out ≡ out_as s out
unfolding out_as
kept s out h = left_alone (join_refusal s (length out)) (splice out 0 (joined_bytes (parts_in s))) out h

module _ (s out : List ℕ) (w : Joined) (left : List ℕ) (call : Call s out w left) where
  pub number : w.refusal ≡ join_refusal s (length out)
  unfolding joined_as
  number = ap (λ (x : Joined). x.refusal) call.answers ∙ answer-number (join_refusal s (length out)) (length (parts_in s)) (length (joined_bytes (parts_in s)))

  module _ (z : w.refusal ≡ 0) where
    pub taken : join_refusal s (length out) ≡ 0
    taken = sym number ∙ z

    pub said : w ≡ record { refusal = 0; count = length (parts_in s); length = length (joined_bytes (parts_in s)) }
    unfolding joined_as
    said = call.answers ∙ ap (λ (n : ℕ). answer n (length (parts_in s)) (length (joined_bytes (parts_in s)))) taken

    pub filled : left ≡ splice out 0 (joined_bytes (parts_in s))
    unfolding out_as
    filled = call.leaves ∙ ap (λ (n : ℕ). unless_refused n (splice out 0 (joined_bytes (parts_in s))) out) taken

    -- the block that the call wrote
    pub wrote : take w.length left ≡ joined_bytes (parts_in s)
    wrote =
        ap (λ (x : Joined). take x.length left) said
        ∙ ap (take (length (joined_bytes (parts_in s)))) filled
        ∙ take-append_seam (joined_bytes (parts_in s)) (drop (0 + length (joined_bytes (parts_in s))) out)

-- ---- the call by its contract

-- What the caller of `join` learns, as the checker has it from the `ensures`: lent parts of the bytes s and an output of the bytes out, the call answered
-- w and left these bytes in the output. `record b { now = s }` is the slice b with the bytes s in it
abbrev pub JoinCall : List ℕ → List ℕ → Joined → List ℕ → Type 0
JoinCall s out w left = (κs : Lfts 2) × (b : Bor (List ℕ)) × (o : MutBor (List ℕ)) × reads.Learnt κs (record b { now = s }, (holding o out, tt)) w (record b { now = s }, (holding o left, tt))

pub join_determined : (s out : List ℕ) (v w : Joined) (x y : List ℕ) → JoinCall s out v x → JoinCall s out w y → (v ≡ w) × (x ≡ y)
join_determined s out v w x y a b = (a.3.0 ∙ sym b.3.0, a.3.1 ∙ sym b.3.1)

pub called : (s out : List ℕ) (w : Joined) (left : List ℕ) → JoinCall s out w left → Call s out w left
called s out w left l = record { answers = l.3.0; leaves = l.3.1 }
