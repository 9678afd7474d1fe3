-- Every order of arrival gives the same: two calls of `join` lent the same good parts in two orders answer the same number and leave the same bytes
-- (`join_any_order`), and the parts of a call that answered 0 are joined in every other order (`join_reordered`).
use mathlib.Core.Path.{◌≡◌, refl, sym, ap, ◌∙◌, subst}
use mathlib.Core.List.{List, flatten, Permᴰ}
use Prim.Native.Nat.{ℕ, zero, suc, ◌≤◌}
use native.Mathlib.Omega.{arith}
use lib.ListN.{length, take}
use Rattle.rules.specs.Numbers.{splice, unless_refused}
use Rattle.rules.specs.Rules.{refusal}
use Rattle.joining.specs.Join.{parts_in, joined_bytes, join_refusal}
use Rattle.joining.proofs.Lists.{Every, every_map, perm_length, perm_every}
use Rattle.joining.proofs.Parts.{Ends, parts-end, parts-flatten}
use Rattle.joining.proofs.Says.{join_says, says_join}
use Rattle.joining.proofs.Arrival.{any_number, any_order}
use Rattle.joins.specs.declared.Joined.{Joined}
use Rattle.joins.specs.Joins.{refused_as, answer, joined_as, out_as}
use Rattle.joins.proofs.Calls.{Call, JoinCall, called, number, taken, said, filled, wrote}

-- two calls answered the same and wrote the same block, or none; and where their outputs held the same, they left the same
pub record SameJoin (out₁ out₂ : List ℕ) (w₁ w₂ : Joined) (l₁ l₂ : List ℕ) : Type 0 where
  pub same_answer : w₂ ≡ w₁
  pub same_block : take w₂.length l₂ ≡ take w₁.length l₁
  pub same_slice : out₂ ≡ out₁ → l₂ ≡ l₁

-- a refused call answers its number and zeros, and leaves what was there
refused : (s out : List ℕ) (w : Joined) (left : List ℕ) → Call s out w left → (n : ℕ) → join_refusal s (length out) ≡ suc n → (w ≡ refused_as (suc n)) × (left ≡ out)
unfolding joined_as out_as
refused s out w left call n e = (
  call.answers ∙ ap (λ (m : ℕ). answer m (length (parts_in s)) (length (joined_bytes (parts_in s)))) e,
  call.leaves ∙ ap (λ (m : ℕ). unless_refused m (splice out 0 (joined_bytes (parts_in s))) out) e,
)

-- calls of one number, whose blocks are equal where it is 0
same_join : (s t out₁ out₂ : List ℕ) (w₁ w₂ : Joined) (l₁ l₂ : List ℕ) → Call s out₁ w₁ l₁ → Call t out₂ w₂ l₂ → length (parts_in t) ≡ length (parts_in s)
    → (n : ℕ) → join_refusal s (length out₁) ≡ n → join_refusal t (length out₂) ≡ n → (n ≡ 0 → joined_bytes (parts_in t) ≡ joined_bytes (parts_in s)) → SameJoin out₁ out₂ w₁ w₂ l₁ l₂
same_join s t out₁ out₂ w₁ w₂ l₁ l₂ one two count zero e f same =
    let z₁ : w₁.refusal ≡ 0 = number s out₁ w₁ l₁ one ∙ e in
    let z₂ : w₂.refusal ≡ 0 = number t out₂ w₂ l₂ two ∙ f in
    record {
      same_answer =
          said t out₂ w₂ l₂ two z₂ ∙ (λ i. record { refusal = 0; count = count i; length = length (same refl i) }) ∙ sym (said s out₁ w₁ l₁ one z₁);
      same_block = wrote t out₂ w₂ l₂ two z₂ ∙ same refl ∙ sym (wrote s out₁ w₁ l₁ one z₁);
      same_slice = λ h. filled t out₂ w₂ l₂ two z₂ ∙ (λ i. splice (h i) 0 (same refl i)) ∙ sym (filled s out₁ w₁ l₁ one z₁);
    }
same_join s t out₁ out₂ w₁ w₂ l₁ l₂ one two count (suc n) e f same =
    let a = refused s out₁ w₁ l₁ one n e in
    let b = refused t out₂ w₂ l₂ two n f in
    record {
      same_answer = b.0 ∙ sym a.0;
      same_block = ap (λ (x : Joined). take x.length l₂) b.0 ∙ sym (ap (λ (x : Joined). take x.length l₁) a.0);
      same_slice = λ h. b.1 ∙ h ∙ sym a.1;
    }

module _ (ps qs : List (List ℕ)) (d : Permᴰ ps qs) (good : Every (λ p. (refusal p ≡ 0) × Ends p) ps) where
  own : parts_in (flatten ps) ≡ ps
  own = parts-flatten ps (every_map (λ p h. h.1) ps good)

  other : parts_in (flatten qs) ≡ qs
  other = parts-flatten qs (every_map (λ p h. h.1) qs (perm_every (λ p. (refusal p ≡ 0) × Ends p) d good))

  -- The parts ps, and qs, the same in another order, each good and ending after its L bytes: two calls lent outputs of one length answer the same, whether
  -- 0, 16 or 13, and write the same
  pub join_any_order : (out₁ out₂ : List ℕ) → length out₁ ≡ length out₂ → (w₁ w₂ : Joined) (l₁ l₂ : List ℕ) → JoinCall (flatten ps) out₁ w₁ l₁ → JoinCall (flatten qs) out₂ w₂ l₂
      → SameJoin out₁ out₂ w₁ w₂ l₁ l₂
  join_any_order out₁ out₂ room w₁ w₂ l₁ l₂ one two =
      let turned : Permᴰ (parts_in (flatten ps)) (parts_in (flatten qs)) = subst (Permᴰ (parts_in (flatten ps))) (sym other) (subst (λ (r : List (List ℕ)). Permᴰ r qs) (sym own) d) in
      let well : Every (λ p. refusal p ≡ 0) (parts_in (flatten ps)) = subst (Every (λ p. refusal p ≡ 0)) (sym own) (every_map (λ p h. h.0) ps good) in
      same_join (flatten ps) (flatten qs) out₁ out₂ w₁ w₂ l₁ l₂ (called (flatten ps) out₁ w₁ l₁ one) (called (flatten qs) out₂ w₂ l₂ two) (sym (perm_length turned))
      (join_refusal (flatten ps) (length out₁)) refl
      (ap (join_refusal (flatten qs)) (sym room) ∙ sym (any_number (flatten ps) (flatten qs) (length out₁) turned well))
      (λ e. sym (any_order (flatten ps) (flatten qs) (length out₁) turned e).1)

-- The parts of a call that answered 0, laid back to back in another order: a call lent room for the block that was written answers the same, and writes the same
pub join_reordered : (s out₁ out₂ : List ℕ) (w₁ w₂ : Joined) (l₁ l₂ : List ℕ) → JoinCall s out₁ w₁ l₁ → w₁.refusal ≡ 0 → (ps : List (List ℕ)) → Permᴰ (parts_in s) ps
    → JoinCall (flatten ps) out₂ w₂ l₂ → w₁.length ≤ length out₂ → SameJoin out₁ out₂ w₁ w₂ l₁ l₂
join_reordered s out₁ out₂ w₁ w₂ l₁ l₂ one z ps d two room =
    let e : join_refusal s (length out₁) ≡ 0 = taken s out₁ w₁ l₁ (called s out₁ w₁ l₁ one) z in
    let read : parts_in (flatten ps) ≡ ps = parts-flatten ps (perm_every Ends d (parts-end s (join_says s (length out₁) e).0.together.good)) in
    let turned : Permᴰ (parts_in s) (parts_in (flatten ps)) = subst (Permᴰ (parts_in s)) (sym read) d in
    let r = any_order s (flatten ps) (length out₁) turned e in
    let long : length (joined_bytes (parts_in (flatten ps))) ≡ w₁.length = ap length (sym r.1) ∙ sym (ap (λ (x : Joined). x.length) (said s out₁ w₁ l₁ (called s out₁ w₁ l₁ one) z)) in
    same_join s (flatten ps) out₁ out₂ w₁ w₂ l₁ l₂ (called s out₁ w₁ l₁ one) (called (flatten ps) out₂ w₂ l₂ two) (sym (perm_length turned)) 0 e
    (says_join (flatten ps) (length out₂) (join_says (flatten ps) (length out₁) r.0).0 (omega arith))
    (λ h. sym r.1)
