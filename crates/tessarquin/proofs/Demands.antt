-- What the contract of `tessarquin_cut` says of calls: lent six bytes more than the block has, and sixteen for c and the length, it is never refused by 13
-- (`never_13`); and demand 3, the numbers of the combined setup fit 32 bits (`combined-fits`), `tessarquin_combined` leaves them (`combined_called`), and a
-- call for the cut of a cut is the one combined call (`cut_of_cut`; for any cuts that one stands for, `one_called`).
use mathlib.Core.Path.{◌≡◌, refl, sym, ap, ◌∙◌, subst, subst₂}
use mathlib.Core.Bool.{cond}
use mathlib.Core.List.{List, [], ◌∷◌}
use Prim.Native.Nat.{ℕ, ◌+◌, ◌*◌, ◌≤◌}
use native.Mathlib.Omega.{arith}
use lib.Dec.{leb}
use lib.Ieee.{binary64, to_bits}
use lib.ListN.{length, take, drop}
use Rattle.rules.specs.Numbers.{Bytes, number, numbers, all_bytes, splice}
use Rattle.rules.specs.Wave.{points}
use Rattle.rules.specs.Rules.{first, refusal, opened}
use Rattle.rules.specs.Points.{mark_number, point_refusal}
use Rattle.rules.specs.Cut.{Setup, step, or_else, count, cut_bytes, cut_rules, cut_refusal, combined, combined_refusal}
use Rattle.rules.proofs.Tests.{or_else_none}
use Rattle.rules.proofs.Demands.{CutTaken, KeptPoint, Small, OneCut, cut-says, room_enough, numbers_fit, cut-bytes, combined_answered, demand_3}
use Rattle.tessarquin.specs.Calls.{left_by, point_bytes, point_number, point_left, cut_answer, cut_number, cut_left, cut_answer_left, setup_numbers, combined_bytes, combined_number, combined_left}
use Rattle.tessarquin.proofs.Writing.{front, numbers-read, pair_read}
use Rattle.tessarquin.proofs.Slices.{pair-length, point_length, combined-length, number_enough, own_answered}
use Rattle.tessarquin.proofs.Cutting.{answer-length}
use Rattle.tessarquin.proofs.Learnt.{PointCall, CutCall, CombinedCall}

-- ---- what a call returned and left

-- c and the block's length, as they stand in an answer
abbrev pub count_in : List ℕ → ℕ
count_in answer = number 0 (take 8 answer)

abbrev pub length_in : List ℕ → ℕ
length_in answer = number 0 (take 8 (drop 8 answer))

module _ (s : List ℕ) (c : Setup) (q : ℕ) (out answer : List ℕ) (m : ℕ) (left second : List ℕ) (call : CutCall s c q out answer m left second) where
  -- with room for c and the length, the number is the cut's own
  pub own : 16 ≤ length answer → m ≡ cut_refusal q c s (length out)
  unfolding cut_number
  own h = call.4.0 ∙ number_enough (cut_refusal q c s (length out)) (cut_answer s c q) (length answer) (omega (arith, answer-length s c q))

  -- lent six bytes more than the block has, and sixteen for c and the length, a cut is never refused by 13: its number is that of the rules before it
  pub never_13 : Bytes s → length s + 6 ≤ length out → 16 ≤ length answer → (m ≡ or_else (refusal s) (first (cut_rules q c (opened s).head))) × (m ≡ 13 → ⊥)
  never_13 bytes h k = let r = room_enough s bytes q c (length out) h in (own k ∙ r.0, λ z. r.1 (sym (own k) ∙ z))

-- a call, lent out and answer, wrote the block t, and left m and its length in the answer
pub record Wrote (t : List ℕ) (m : ℕ) (out answer left second : List ℕ) : Type 0 where
  pub filled : left ≡ splice out 0 t
  pub told : second ≡ splice answer 0 (all_bytes 0 8 (m ∷ length t ∷ []))
  pub counted : count_in second ≡ m
  pub long : length_in second ≡ length t
  pub block : take (length_in second) left ≡ t

-- a call that returned 0: 1 to 13 are kept, and it wrote the block that the definition of a cut gives
pub done : (s : List ℕ) → Bytes s → (c : Setup) (q : ℕ) (out answer : List ℕ) (m : ℕ) (left second : List ℕ) → CutCall s c q out answer m left second → m ≡ 0
    → (cut_refusal q c s (length out) ≡ 0) × Wrote (cut_bytes q c s) (count c (points (opened s).head)) out answer left second
unfolding cut_number cut_left cut_answer_left
done s bytes c q out answer m left second call z =
    let e : cut_number s c q (length out) (length answer) ≡ 0 = sym call.4.0 ∙ z in
    let taken : cut_refusal q c s (length out) ≡ 0 = (or_else_none (cut_refusal q c s (length out)) (cond (leb (length (cut_answer s c q)) (length answer)) 0 13) e).0 in
    let t : CutTaken s q c (length out) = cut-says s q c (length out) taken in
    let filled : left ≡ splice out 0 (cut_bytes q c s) = call.4.1.0 ∙ ap (λ (n : ℕ). left_by n (cut_bytes q c s) out) e in
    let told : second ≡ splice answer 0 (cut_answer s c q) = call.4.1.1 ∙ ap (λ (n : ℕ). left_by n (cut_answer s c q) answer) e in
    let fit = numbers_fit s bytes t.block q c t.allows in
    let read = pair_read (count c (points (opened s).head)) (length (cut_bytes q c s)) answer (omega (arith, fit.0), (omega (arith, fit.1), tt)) in
    let long : length_in second ≡ length (cut_bytes q c s) = ap length_in told ∙ read.1 in (
      taken,
      record {
        filled = filled;
        told = told;
        counted = ap count_in told ∙ read.0;
        long = long;
        block = (λ i. take (long i) (filled i)) ∙ front (cut_bytes q c s) out (length (cut_bytes q c s)) refl;
      },
    )

-- a call of `tessarquin_combined` that returned 0: it is not refused by 12, and the four numbers that it left are those of the combined setup
pub combined_told : (a b : Setup) (c : ℕ) (answer : List ℕ) (n : ℕ) (left : List ℕ) → CombinedCall a b c answer n left → n ≡ 0
    → (combined_refusal a b ≡ 0) × (Small (combined a b c) → numbers 0 8 4 left ≡ setup_numbers (combined a b c))
unfolding combined_number combined_left
combined_told a b c answer n left call z =
    let there = own_answered (combined_refusal a b) (combined_bytes a b c) answer n left call.2 z in (
      there.0,
      λ small.
          ap (numbers 0 8 4) there.1
          ∙ numbers-read (setup_numbers (combined a b c)) answer (omega (arith, small.sp), (omega (arith, small.np), (omega (arith, small.fp), (omega (arith, small.sn), tt)))),
    )

-- with room for them it returns 0 where it is not refused by 12
pub combined_left_lem : (a b : Setup) (c : ℕ) (answer : List ℕ) (n : ℕ) (left : List ℕ) → CombinedCall a b c answer n left → 32 ≤ length answer
    → combined_refusal a b ≡ 0 → Small (combined a b c) → (n ≡ 0) × (numbers 0 8 4 left ≡ setup_numbers (combined a b c))
unfolding combined_number
combined_left_lem a b c answer n left call h z small =
    let zero_too : n ≡ 0 = call.2.0 ∙ number_enough (combined_refusal a b) (combined_bytes a b c) (length answer) (omega (arith, combined-length a b c)) ∙ z in
    (zero_too, (combined_told a b c answer n left call zero_too).1 small)

-- ---- demand 3

-- `tessarquin_point` on a kept point, where it returns 0, leaves what it leaves on the first block
kept-bits : (s t : List ℕ) (c : Setup) (x g k : ℕ) → (point_refusal t x g k ≡ 0 → KeptPoint s t c x g k) → (a b : List ℕ) (u v : ℕ) (y z : List ℕ)
    → PointCall t x g k a u y → u ≡ 0 → PointCall s x (or_else c.sn g) (c.fp + step c * k) b v z → 24 ≤ length b → (v ≡ 0) × (take 24 z ≡ take 24 y)
unfolding point_number point_left
kept-bits s t c x g k f a b u v y z p e q h =
    let n : ℕ = or_else c.sn g in
    let j : ℕ = c.fp + step c * k in
    let there = own_answered (point_refusal t x g k) (point_bytes t x g k) a u y p.3 e in
    let kp : KeptPoint s t c x g k = f there.0 in
    let zero_too : v ≡ 0 = q.3.0 ∙ number_enough (point_refusal s x n j) (point_bytes s x n j) (length b) (omega (arith, point_length s x n j)) ∙ kp.answered in
    let here = own_answered (point_refusal s x n j) (point_bytes s x n j) b v z q.3 zero_too in (
      zero_too,
      ap (take 24) here.1 ∙ front (point_bytes s x n j) b 24 (point_length s x n j)
          ∙ (λ i. all_bytes 0 8 (to_bits binary64 (sym kp.same-value i) ∷ to_bits binary64 (sym kp.same-time i) ∷ mark_number (sym kp.same-mark i) ∷ []))
          ∙ sym (ap (take 24) there.1 ∙ front (point_bytes t x g k) a 24 (point_length t x g k)),
    )

-- The one call: it returns 0, leaves the numbers and the block that the last call left, and the same in the whole of the same slices; and where
-- `tessarquin_point` returns 0 on that block, it returns 0 on s too, and leaves the same bits of value and time, and the same mark
pub record OneCall (s : List ℕ) (c : Setup) (out₂ out₃ answer₂ answer₃ : List ℕ) (m₃ : ℕ) (l₂ l₃ r₂ r₃ : List ℕ) : Type 0 where
  pub returns : m₃ ≡ 0
  pub same_numbers : take 16 r₃ ≡ take 16 r₂
  pub same_block : take (length_in r₂) l₃ ≡ take (length_in r₂) l₂
  pub same_slices : out₃ ≡ out₂ → answer₃ ≡ answer₂ → (l₃ ≡ l₂) × (r₃ ≡ r₂)
  pub same_points : (x g k : ℕ) (a b : List ℕ) (u v : ℕ) (y z : List ℕ) → PointCall (take (length_in r₂) l₃) x g k a u y → u ≡ 0
      → PointCall s x (or_else c.sn g) (c.fp + step c * k) b v z → 24 ≤ length b → (v ≡ 0) × (take 24 z ≡ take 24 y)

-- The cut c of s stands for cuts of which the last call wrote t and answered m; a call for it is lent room for t and for two numbers
module _
    (s : List ℕ) (bytes : Bytes s) (q : ℕ) (c : Setup) (t : List ℕ) (m : ℕ) (law : OneCut s q c t m) (out₂ answer₂ l₂ r₂ : List ℕ) (last : Wrote t m out₂ answer₂ l₂ r₂)
    (out₃ answer₃ : List ℕ) (m₃ : ℕ) (l₃ r₃ : List ℕ) (one_call : CutCall s c q out₃ answer₃ m₃ l₃ r₃) (room : length_in r₂ ≤ length out₃) (enough : 16 ≤ length answer₃)
  where
    accepted : m₃ ≡ 0
    accepted = own s c q out₃ answer₃ m₃ l₃ r₃ one_call enough ∙ law.taken (length out₃) (omega (arith, last.long))

    -- it wrote t, and left m
    one : Wrote t m out₃ answer₃ l₃ r₃
    one =
        subst₂ (λ (u : List ℕ) (n : ℕ). Wrote u n out₃ answer₃ l₃ r₃) law.same_bytes law.same_count
        (done s bytes c q out₃ answer₃ m₃ l₃ r₃ one_call accepted).1

    block_there : take (length_in r₂) l₃ ≡ t
    block_there = ap (λ (n : ℕ). take n l₃) (last.long ∙ sym one.long) ∙ one.block

    -- m and the length of t, as bytes
    abbrev pair : List ℕ
    pair = all_bytes 0 8 (m ∷ length t ∷ [])

    points_kept : (x g k : ℕ) → point_refusal (take (length_in r₂) l₃) x g k ≡ 0 → KeptPoint s (take (length_in r₂) l₃) c x g k
    points_kept = subst (λ (b : List ℕ). (x g k : ℕ) → point_refusal b x g k ≡ 0 → KeptPoint s b c x g k) (sym block_there) law.same_points

    pub one_called : OneCall s c out₂ out₃ answer₂ answer₃ m₃ l₂ l₃ r₂ r₃
    one_called = record {
      returns = accepted;
      same_numbers =
          ap (take 16) one.told ∙ front pair answer₃ 16 (pair-length m (length t))
          ∙ sym (ap (take 16) last.told ∙ front pair answer₂ 16 (pair-length m (length t)));
      same_block = block_there ∙ sym last.block;
      same_slices = λ e f. (one.filled ∙ ap (λ (x : List ℕ). splice x 0 t) e ∙ sym last.filled, one.told ∙ ap (λ (x : List ℕ). splice x 0 pair) f ∙ sym last.told);
      same_points = λ x g k. kept-bits s (take (length_in r₂) l₃) c x g k (points_kept x g k);
    }

module _
    (s : List ℕ) (bytes : Bytes s) (a b : Setup) (p q : ℕ) (out₁ out₂ answer₁ answer₂ : List ℕ) (m₁ m₂ : ℕ) (l₁ l₂ r₁ r₂ : List ℕ)
    (first_call : CutCall s a p out₁ answer₁ m₁ l₁ r₁) (z₁ : m₁ ≡ 0)
    (second_call : CutCall (take (length_in r₁) l₁) b q out₂ answer₂ m₂ l₂ r₂) (z₂ : m₂ ≡ 0)
  where
    before : (cut_refusal p a s (length out₁) ≡ 0) × Wrote (cut_bytes p a s) (count a (points (opened s).head)) out₁ answer₁ l₁ r₁
    before = done s bytes a p out₁ answer₁ m₁ l₁ r₁ first_call z₁

    -- the second call, as one of the block that the first wrote
    then : (cut_refusal q b (cut_bytes p a s) (length out₂) ≡ 0) × Wrote (cut_bytes q b (cut_bytes p a s)) (count b (points (opened (cut_bytes p a s)).head)) out₂ answer₂ l₂ r₂
    then =
        let t = cut-says s p a (length out₁) before.0 in
        done (cut_bytes p a s) (cut-bytes s bytes t.block p a t.allows) b q out₂ answer₂ m₂ l₂ r₂
        (subst (λ (x : List ℕ). CutCall x b q out₂ answer₂ m₂ l₂ r₂) before.1.block second_call) z₂

    law : OneCut s q (combined a b (count_in r₂)) (cut_bytes q b (cut_bytes p a s)) (count_in r₂)
    law = demand_3 s bytes p q a b (length out₁) (length out₂) before.0 then.0 (count_in r₂) then.1.counted

    -- the numbers of the one setup fit 32 bits
    pub combined-fits : Small (combined a b (count_in r₂))
    combined-fits = law.small

    -- and `tessarquin_combined`, lent room for four numbers, returns 0 and leaves them
    pub combined_called : (answer : List ℕ) (n : ℕ) (left : List ℕ) → CombinedCall a b (count_in r₂) answer n left → 32 ≤ length answer
        → (n ≡ 0) × (numbers 0 8 4 left ≡ setup_numbers (combined a b (count_in r₂)))
    combined_called answer n left call h =
        combined_left_lem a b (count_in r₂) answer n left call h (combined_answered s q a b (count_in r₂) (cut_bytes q b (cut_bytes p a s)) (count_in r₂) law) law.small

    pub cut_of_cut : (out₃ answer₃ : List ℕ) (m₃ : ℕ) (l₃ r₃ : List ℕ) → CutCall s (combined a b (count_in r₂)) q out₃ answer₃ m₃ l₃ r₃
        → length_in r₂ ≤ length out₃ → 16 ≤ length answer₃ → OneCall s (combined a b (count_in r₂)) out₂ out₃ answer₂ answer₃ m₃ l₂ l₃ r₂ r₃
    cut_of_cut =
        one_called s bytes q (combined a b (count_in r₂)) (cut_bytes q b (cut_bytes p a s)) (count_in r₂) law out₂ answer₂ l₂ r₂
        (subst (λ (n : ℕ). Wrote (cut_bytes q b (cut_bytes p a s)) n out₂ answer₂ l₂ r₂) (sym then.1.counted) then.1)
