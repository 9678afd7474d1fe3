-- What a host reads where the three calls for parts returned 0: the ten parts, which tile the payload (`layout_tiling`), the user text as `user_text` returns
-- it (`text-part`), and the label as `label` returns it (`label_part`).
use mathlib.Core.Path.{◌≡◌, refl, sym, ap, ◌∙◌, subst}
use mathlib.Core.Logic.{⊎_elim}
use mathlib.Core.Bool.{cond}
use mathlib.Core.List.{List, [], ◌∷◌, ◌++◌}
use Prim.Native.Nat.{ℕ, ◌+◌, ◌^◌, ◌≤◌, ◌<◌}
use native.Mathlib.Nat.{max-le}
use native.Mathlib.Omega.{arith}
use lib.Dec.{eqb}
use lib.ListN.{length, get_or, take, drop}
use lib.Seq.{take-length}
use Rattle.rules.specs.Numbers.{Below, Bytes, number, numbers, starts_from, all_bytes, splice}
use Rattle.rules.specs.Wave.{first_point, sparsing, segment_index, subarray_count, lengths_of, starts_of}
use Rattle.rules.specs.Rules.{payload_start, stated, payload, refusal, opened}
use Rattle.rules.proofs.Numbers.{below-index, below_append}
use Rattle.rules.proofs.Parts.{part_end}
use Rattle.rules.proofs.Opened.{sized-opened, start-opened, length-payload, good-opened, tiling}
use Rattle.block.specs.declared.Span.{Span}
use Rattle.block.specs.Texts.{of_accepted, Stands, text_of, text_start, trace_label, up_to_zero, or_other, label_of}
use Rattle.block.proofs.Parts.{span_length, text_span, label_span}
use Rattle.tessarquin.specs.Calls.{layout_bytes, layout_number, layout_left, text_bytes, text_number, text_left, label_bytes, label_number, label_left}
use Rattle.tessarquin.proofs.Writing.{numbers-read, pair_read, three_read}
use Rattle.tessarquin.proofs.Slices.{own_answered}
use Rattle.tessarquin.proofs.Learnt.{LayoutCall, TextCall, LabelCall}

-- ---- the numbers in an answer

abbrev pub first_in : List ℕ → ℕ
first_in left = number 0 (take 8 left)

abbrev pub second_in : List ℕ → ℕ
second_in left = number 0 (take 8 (drop 8 left))

abbrev pub third_in : List ℕ → ℕ
third_in left = number 0 (take 8 (drop 16 left))

-- of the 25 of a layout, the ten lengths and the ten starts
abbrev pub lengths_in : List ℕ → List ℕ
lengths_in left = take 10 (drop 5 (numbers 0 8 25 left))

abbrev pub starts_in : List ℕ → List ℕ
starts_in left = drop 15 (numbers 0 8 25 left)

-- ---- an accepted block's numbers are below 256 ^ 8

length-starts : (h : ℕ → ℕ) → length (starts_of h) ≡ 10
unfolding starts_of starts_from
length-starts h = refl

module _ (s : List ℕ) (b : Bytes s) (accepts : refusal s ≡ 0) where
  short : length s ≤ 16777228
  short =
      let z = sized-opened s b accepts in
      let d = start-opened s b accepts in
      ⊎_elim {C = length s ≤ 16777228} (λ e. omega (arith, z.most, d.1)) (λ e. omega (arith, z.most, d.1, e.0)) z.whole

  -- a part of the block that stands there is read by its start and its length, which are small
  read-part : (r : Span) (bs : List ℕ) (p : ℕ) → Stands s r bs p → (take (length bs) (drop p s) ≡ bs) × (p < 256 ^ 8) × (length bs < 256 ^ 8)
  read-part r bs p t = (
    (λ i. take (span_length t i) (drop (sym t.starts i) s)) ∙ t.bytes,
    omega (arith, t.starts, t.ordered, t.within, short),
    omega (arith, span_length t, t.ordered, t.within, short),
  )

  lengths_below : Below (256 ^ 8) (lengths_of (opened s).head)
  lengths_below =
      below-index (256 ^ 8) (lengths_of (opened s).head)
      (λ j l. omega (arith, part_end (length (payload s)) (opened s).head (good-opened s b accepts).tile j l, length-payload s b accepts, (sized-opened s b accepts).most))

  starts-below : Below (256 ^ 8) (starts_of (opened s).head)
  starts-below =
      below-index (256 ^ 8) (starts_of (opened s).head)
      (λ j l. omega (arith, part_end (length (payload s)) (opened s).head (good-opened s b accepts).tile j (omega (arith, length-starts (opened s).head)), length-payload s b accepts, (sized-opened s b accepts).most))

  layout_below : let h = (opened s).head in Below (256 ^ 8) (payload_start s ∷ first_point h ∷ sparsing h ∷ segment_index h ∷ subarray_count h ∷ lengths_of h ++ starts_of h)
  layout_below =
      let h : ℕ → ℕ = (opened s).head in
      let g = good-opened s b accepts in
      let sparse : sparsing h ≤ 268435455 = max-le (omega arith) g.places.sparse in (
        omega (arith, (start-opened s b accepts).1),
        (
          omega (arith, g.places.first-long),
          (omega (arith, sparse), (omega (arith, g.counts.index-long), (omega (arith, g.counts.subarrays_long), below_append (256 ^ 8) (lengths_of h) (starts_of h) lengths_below starts-below))),
        ),
      )

-- ---- the layout

-- byte i of a payload is in part j of ten that start and last so
abbrev pub Inside : List ℕ → List ℕ → ℕ → ℕ → Type 0
Inside starts lengths i j = (j < 10) × (get_or starts j 0 ≤ i) × (i < get_or starts j 0 + get_or lengths j 0)

-- each of the first n bytes is in one of the ten, and in no other
abbrev pub Tiles : ℕ → List ℕ → List ℕ → Type 0
Tiles n starts lengths = (i : ℕ) → i < n → (j : ℕ) × Inside starts lengths i j × ((k : ℕ) → Inside starts lengths i k → j ≡ k)

opened-tiles : (s : List ℕ) → Bytes s → refusal s ≡ 0 → Tiles (stated s) (starts_of (opened s).head) (lengths_of (opened s).head)
unfolding starts_of
opened-tiles s b z i l =
    let t = tiling s b z i l in (t.0, (t.1.part, t.1.from, t.1.below), λ k q. t.2 k (record { part = q.0; from = q.1; below = q.2 }))

module _ (s : List ℕ) (b : Bytes s) (answer : List ℕ) (m : ℕ) (left : List ℕ) (call : LayoutCall s answer m left) (z : m ≡ 0) where
  answered : (refusal s ≡ 0) × (left ≡ splice answer 0 (layout_bytes s))
  unfolding layout_number layout_left
  answered = own_answered (refusal s) (layout_bytes s) answer m left call.3 z

  -- the 25 numbers in the answer
  pub layout_read : let h = (opened s).head in numbers 0 8 25 left ≡ payload_start s ∷ first_point h ∷ sparsing h ∷ segment_index h ∷ subarray_count h ∷ lengths_of h ++ starts_of h
  unfolding starts_of starts_from
  layout_read =
      let h : ℕ → ℕ = (opened s).head in
      ap (numbers 0 8 25) answered.1
      ∙ numbers-read (payload_start s ∷ first_point h ∷ sparsing h ∷ segment_index h ∷ subarray_count h ∷ lengths_of h ++ starts_of h) answer (layout_below s b answered.0)

  -- the lengths and starts in the answer are the block's, and each byte of the payload is in one part of them, and in no other
  pub layout_tiling : (lengths_in left ≡ lengths_of (opened s).head) × (starts_in left ≡ starts_of (opened s).head) × Tiles (stated s) (starts_in left) (lengths_in left)
  layout_tiling =
      let l : lengths_in left ≡ lengths_of (opened s).head = ap (λ (x : List ℕ). take 10 (drop 5 x)) layout_read in
      let t : starts_in left ≡ starts_of (opened s).head = ap (λ (x : List ℕ). drop 15 x) layout_read in
      (l, t, subst (λ (x : List ℕ). Tiles (stated s) x (lengths_in left)) (sym t) (subst (λ (x : List ℕ). Tiles (stated s) (starts_of (opened s).head) x) (sym l) (opened-tiles s b answered.0)))

-- ---- the user text

module _ (s : List ℕ) (b : Bytes s) (answer : List ℕ) (m : ℕ) (left : List ℕ) (call : TextCall s answer m left) (z : m ≡ 0) where
  text-both : ((first_in left ≡ text_start s) × (second_in left ≡ length (text_of s))) × (take (length (text_of s)) (drop (text_start s) s) ≡ text_of s)
  unfolding text_number text_left
  text-both =
      let a = own_answered (refusal s) (text_bytes s) answer m left call.3 z in
      let t = text_span s b a.0 in
      let p = read-part s b a.0 t.0 (text_of s) (text_start s) t.1 in
      let r = pair_read (text_start s) (length (text_of s)) answer (p.1, (p.2, tt)) in
      ((ap first_in a.1 ∙ r.0, ap second_in a.1 ∙ r.1), p.0)

  -- the two numbers in the answer
  pub text-read : (first_in left ≡ text_start s) × (second_in left ≡ length (text_of s))
  text-read = text-both.0

  -- the bytes of the block from the first number on, as many as the second says
  pub text-part : take (second_in left) (drop (first_in left) s) ≡ text_of s
  text-part = (λ i. take (text-read.1 i) (drop (text-read.0 i) s)) ∙ text-both.1

-- ---- the label

-- the bytes that an answer says: of the block where its first number is 0, else of the fallback
abbrev pub label_in : List ℕ → List ℕ → List ℕ → List ℕ
label_in s fallback left = take (third_in left) (drop (second_in left) (cond (eqb (first_in left) 0) s fallback))

-- the three numbers of a label of the bytes l that stand from p on, or of a fallback of n bytes
abbrev pub label_numbers : List ℕ → ℕ → ℕ → List ℕ
label_numbers l p n = or_other l (0 ∷ p ∷ length l ∷ []) (1 ∷ 0 ∷ n ∷ [])

abbrev pub NumbersIn : List ℕ → List ℕ → Type 0
NumbersIn ns left = (first_in left ≡ get_or ns 0 0) × (second_in left ≡ get_or ns 1 0) × (third_in left ≡ get_or ns 2 0)

label_numbers_lem : (l : List ℕ) (p n : ℕ) (answer : List ℕ) → p < 256 ^ 8 → length l < 256 ^ 8 → n < 256 ^ 8 → NumbersIn (label_numbers l p n) (splice answer 0 (all_bytes 0 8 (label_numbers l p n)))
label_numbers_lem [] p n answer hp hl hn = three_read 1 0 n answer (omega arith, (omega arith, (hn, tt)))
label_numbers_lem (x ∷ l) p n answer hp hl hn = three_read 0 p (length (x ∷ l)) answer (omega arith, (hp, (hl, tt)))

-- they say the bytes l, or the fallback whole
label_bytes_lem : (s fallback : List ℕ) (p : ℕ) (l : List ℕ) → take (length l) (drop p s) ≡ l
    → let ns = label_numbers l p (length fallback) in take (get_or ns 2 0) (drop (get_or ns 1 0) (cond (eqb (get_or ns 0 0) 0) s fallback)) ≡ or_other l l fallback
label_bytes_lem s fallback p [] e = take-length fallback
label_bytes_lem s fallback p (x ∷ l) e = e

module _
    (s : List ℕ) (b : Bytes s) (fallback : List ℕ) (fits : length fallback < 256 ^ 8) (answer : List ℕ) (m : ℕ) (left : List ℕ)
    (call : LabelCall s fallback answer m left) (z : m ≡ 0)
  where
    label-answered : (refusal s ≡ 0) × (left ≡ splice answer 0 (label_bytes s fallback))
    unfolding label_number label_left
    label-answered = own_answered (refusal s) (label_bytes s fallback) answer m left call.4 z

    there : let l = up_to_zero (trace_label (opened s)) in (take (length l) (drop (payload_start s + 96) s) ≡ l) × (payload_start s + 96 < 256 ^ 8) × (length l < 256 ^ 8)
    there = let t = label_span s b label-answered.0 in read-part s b label-answered.0 t.0 (up_to_zero (trace_label (opened s))) (payload_start s + 96) t.1

    -- the three numbers in the answer
    pub label_read : NumbersIn (label_numbers (up_to_zero (trace_label (opened s))) (payload_start s + 96) (length fallback)) left
    label_read =
        let l : List ℕ = up_to_zero (trace_label (opened s)) in
        subst (NumbersIn (label_numbers l (payload_start s + 96) (length fallback))) (sym label-answered.1) (label_numbers_lem l (payload_start s + 96) (length fallback) answer there.1 there.2 fits)

    -- the bytes that they say are those that `label` returns
    pub label_part : label_in s fallback left ≡ label_of s fallback
    unfolding label_of
    label_part =
        let l : List ℕ = up_to_zero (trace_label (opened s)) in
        let r = label_read in
        (λ i. take (r.2 i) (drop (r.1 i) (cond (eqb (r.0 i) 0) s fallback)))
        ∙ label_bytes_lem s fallback (payload_start s + 96) l there.0
        ∙ ap (λ (n : ℕ). of_accepted n (or_other l l fallback) []) (sym label-answered.0)
