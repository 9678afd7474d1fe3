-- The same of `tessarquin_strip`, its numbers read from the bytes that it left: the leasts, the greatests and the three of the answer are those of the strip
-- (`strip-read`); the least of all leasts is the segment's, and the greatest likewise (`least_of_all`, `greatest_of_all`); where W is even, the call for W/2 leaves
-- the neighbouring pairs joined (`half_call`). And another accepted header changes nothing (`strip-same`).
use mathlib.Core.Path.{◌≡◌, refl, sym, ap, ap₂, ◌∙◌, subst}
use mathlib.Core.Bool.{Bool, true, false, cond}
use mathlib.Core.List.{List, [], ◌∷◌, map}
use Prim.Native.Nat.{ℕ, zero, suc, ◌+◌, ◌/◌, ◌%◌, ◌^◌, ◌≤◌, ◌<◌}
use native.Mathlib.Nat.{lt_of_lt_of_le}
use native.Mathlib.Omega.{arith}
use lib.Dec.{leb, lit≤}
use lib.IntN.{ℤ, pos}
use lib.ListN.{length, get_or, length-map}
use lib.Signed.{mag}
use Rattle.rules.specs.Numbers.{Bytes, Below, signed, numbers, all_bytes, splice}
use Rattle.rules.specs.Wave.{Wave, size_of, points}
use Rattle.rules.specs.Rules.{opened}
use Rattle.rules.specs.Points.{sample}
use borrow.Author.Tests.{leb-true}
use Rattle.rules.proofs.Tests.{or_else_none}
use Rattle.rules.proofs.Headers.{SameAnswers}
use Rattle.rules.proofs.Opened.{good-opened}
use Rattle.columns.specs.Columns.{lesser, greater, least, greatest, run, pairs}
use Rattle.strips.specs.Strips.{Strip, strip_of, halved, strip_refusal}
use Rattle.strips.specs.Answers.{unsigned, signed_bytes}
use Rattle.strips.proofs.Twos.{unsigned-below, read_back}
use Rattle.strips.proofs.Strips.{accepted, strip-count, strip-least, strip-greatest, strip-halved, half_accepted, points-most, strip_typed}
use Rattle.strips.proofs.Calls.{same-refusal}
use Rattle.tessarquin.specs.Calls.{or_room, left_by, least_bytes, greatest_bytes, strip_answer, strip_number, least_left, greatest_left, strip_answer_left}
use Rattle.tessarquin.proofs.Slices.{number_enough, own_answered}
use Rattle.tessarquin.proofs.Stripping.{answer-length}
use Rattle.tessarquin.proofs.Writing.{numbers-read, three_read}
use Rattle.tessarquin.proofs.Learnt.{StripCall}
use Rattle.tessarquin.proofs.Places.{first_in, second_in, third_in}

-- the first w signed numbers in a slice of bytes
abbrev pub signed_in : ℕ → List ℕ → List ℤ
signed_in w left = map (signed 8) (numbers 0 8 w left)

-- numbers that fit eight bytes with their sign are read back
abbrev Fits : List ℤ → Type 0
Fits zs = (q : ℕ) → q < length zs → mag (get_or zs q (pos 0)) < 2 ^ 63

below : (zs : List ℤ) → Fits zs → Below (256 ^ 8) (map (unsigned 8) zs)
below [] f = tt
below (z ∷ zs) f = (unsigned-below 8 z (omega arith) (f 0 (omega arith)), below zs (λ q h. f (suc q) (omega arith)))

same : (zs : List ℤ) → Fits zs → map (signed 8) (map (unsigned 8) zs) ≡ zs
same [] f = refl
same (z ∷ zs) f = ap₂ {C = List ℤ} (λ x xs. x ∷ xs) (read_back 8 z (omega arith) (f 0 (omega arith))) (same zs (λ q h. f (suc q) (omega arith)))

read : (zs : List ℤ) (w : ℕ) (slice : List ℕ) → length zs ≡ w → Fits zs → signed_in w (splice slice 0 (signed_bytes zs)) ≡ zs
read zs w slice e f =
    ap (λ (k : ℕ). signed_in k (splice slice 0 (signed_bytes zs))) (sym (length-map zs (unsigned 8) ∙ e)) ∙ ap (map (signed 8)) (numbers-read (map (unsigned 8) zs) slice (below zs f)) ∙ same zs f

module _ (s : List ℕ) (b : Bytes s) (a n w : ℕ) (low high answer : List ℕ) (m : ℕ) (x u p : List ℕ) (call : StripCall s a n w low high answer m x u p) (z : m ≡ 0) where
  abbrev drawn : Strip
  drawn = strip_of (opened s) a n w

  abbrev own : ℕ
  own = strip_refusal s a n w (length low / 8) (length high / 8)

  answered : (own ≡ 0) × (p ≡ splice answer 0 (strip_answer s a n w))
  unfolding strip_number strip_answer_left
  answered = own_answered own (strip_answer s a n w) answer m p (call.5.0, call.5.1.1.1) z

  pub strip-accepts : strip_refusal s a n w (length low / 8) (length high / 8) ≡ 0
  strip-accepts = answered.0

  left : (x ≡ splice low 0 (least_bytes s a n w)) × (u ≡ splice high 0 (greatest_bytes s a n w))
  unfolding least_left greatest_left
  left =
      let k : strip_number s a n w (length low) (length high) (length answer) ≡ 0 = sym call.5.0 ∙ z in
      (call.5.1.0 ∙ ap (λ (j : ℕ). left_by j (least_bytes s a n w) low) k, call.5.1.1.0 ∙ ap (λ (j : ℕ). left_by j (greatest_bytes s a n w) high) k)

  -- its numbers, read from the three slices
  pub record Read : Type 0 where
    pub leasts : signed_in w x ≡ (strip_of (opened s) a n w).leasts
    pub greatests : signed_in w u ≡ (strip_of (opened s) a n w).greatests
    pub sum : signed 8 (first_in p) ≡ (strip_of (opened s) a n w).sum
    pub marks : second_in p ≡ (strip_of (opened s) a n w).marks
    pub peak : third_in p ≡ (strip_of (opened s) a n w).peak

  pub strip-read : Read
  strip-read =
      let t = strip_typed s a n w (length low / 8) (length high / 8) strip-accepts b in
      let c = strip-count s a n w (length low / 8) (length high / 8) strip-accepts in
      let most = points-most s a n w (length low / 8) (length high / 8) strip-accepts b in
      let r = three_read (unsigned 8 drawn.sum) drawn.marks drawn.peak answer (unsigned-below 8 drawn.sum (omega arith) t.sum, (omega (arith, t.marks, most), (omega (arith, t.peak, most), tt))) in
      record {
        leasts = ap (signed_in w) left.0 ∙ read drawn.leasts w low c.0 (λ q h. wide drawn.leasts q (t.leasts q (subst (λ (k : ℕ). q < k) c.0 h)));
        greatests = ap (signed_in w) left.1 ∙ read drawn.greatests w high c.1 (λ q h. wide drawn.greatests q (t.greatests q (subst (λ (k : ℕ). q < k) c.1 h)));
        sum = ap (λ (l : List ℕ). signed 8 (first_in l)) answered.1 ∙ ap (signed 8) r.0 ∙ read_back 8 drawn.sum (omega arith) t.sum;
        marks = ap second_in answered.1 ∙ r.1;
        peak = ap third_in answered.1 ∙ r.2;
      }
    where
      half : (k : ℕ) → k ≤ 1 → 256 ^ (k + 1) / 2 ≤ 2 ^ 63
      half zero h = lit≤ tt
      half (suc zero) h = lit≤ tt
      half (suc (suc k)) h = absurd (omega arith)

      wide : (zs : List ℤ) (q : ℕ) → mag (get_or zs q (pos 0)) < 256 ^ size_of (opened s).head / 2 → mag (get_or zs q (pos 0)) < 2 ^ 63
      wide zs q h = lt_of_lt_of_le h (half ((opened s).head 32) (good-opened s b (accepted s a n w (length low / 8) (length high / 8) strip-accepts)).kind)

  pub least_of_all : least (signed_in w x) ≡ least (run (sample (opened s) a n) 0 (points (opened s).head))
  least_of_all = ap least strip-read.leasts ∙ strip-least s a n w (length low / 8) (length high / 8) strip-accepts

  pub greatest_of_all : greatest (signed_in w u) ≡ greatest (run (sample (opened s) a n) 0 (points (opened s).head))
  greatest_of_all = ap greatest strip-read.greatests ∙ strip-greatest s a n w (length low / 8) (length high / 8) strip-accepts

  -- there was room for the answer
  enough : 24 ≤ length answer
  unfolding strip_number
  enough = go (leb (length (strip_answer s a n w)) (length answer)) refl (or_else_none own (cond (leb (length (strip_answer s a n w)) (length answer)) 0 13) (sym call.5.0 ∙ z)).1
    where
      go : (t : Bool) → leb (length (strip_answer s a n w)) (length answer) ≡ t → cond {A = ℕ} t 0 13 ≡ 0 → 24 ≤ length answer
      go true e h = omega (arith, leb-true (length (strip_answer s a n w)) (length answer) e, answer-length s a n w)
      go false e h = absurd (omega (arith, h))

-- where W is even, the call for W/2 columns of the same segment, lent as much
pub half_call : (s : List ℕ) → Bytes s → (a n w : ℕ) (low high answer : List ℕ) (m : ℕ) (x u p : List ℕ) → StripCall s a n w low high answer m x u p → m ≡ 0 → w % 2 ≡ 0 → (k : ℕ) (y v q : List ℕ) → StripCall s a n (w / 2) low high answer k y v q
    → (k ≡ 0) × (signed_in (w / 2) y ≡ pairs lesser (signed_in w x)) × (signed_in (w / 2) v ≡ pairs greater (signed_in w u)) × (q ≡ p)
unfolding halved strip_number
half_call s b a n w low high answer m x u p call z even k y v q half =
    let taken = strip-accepts s b a n w low high answer m x u p call z in
    let joined = strip-halved s a n w (length low / 8) (length high / 8) taken even in
    let own₂ : ℕ = strip_refusal s a n (w / 2) (length low / 8) (length high / 8) in
    let room = enough s b a n w low high answer m x u p call z in
    let accepted : k ≡ 0 = half.5.0 ∙ number_enough own₂ (strip_answer s a n (w / 2)) (length answer) (omega (arith, room, answer-length s a n (w / 2))) ∙ half_accepted s a n w (length low / 8) (length high / 8) taken even in
    let wrote = strip-read s b a n w low high answer m x u p call z in
    let halves = strip-read s b a n (w / 2) low high answer k y v q half accepted in (
      accepted,
      halves.leasts ∙ ap (λ (t : Strip). t.leasts) (sym joined) ∙ ap (pairs lesser) (sym wrote.leasts),
      halves.greatests ∙ ap (λ (t : Strip). t.greatests) (sym joined) ∙ ap (pairs greater) (sym wrote.greatests),
      (answered s b a n (w / 2) low high answer k y v q half accepted).1
          ∙ ap (λ (t : Strip). splice answer 0 (all_bytes 0 8 (unsigned 8 t.sum ∷ t.marks ∷ t.peak ∷ []))) (sym joined)
          ∙ sym (answered s b a n w low high answer m x u p call z).1,
    )

-- the same payload under two accepted headers: the same number, and the same bytes left
pub strip-same : (s t : List ℕ) → SameAnswers s t → (a n w : ℕ) (low high answer : List ℕ) (m k : ℕ) (x y u v p q : List ℕ) → StripCall s a n w low high answer m x u p → StripCall t a n w low high answer k y v q
    → (k ≡ m) × (y ≡ x) × (v ≡ u) × (q ≡ p)
unfolding strip_number least_left greatest_left strip_answer_left
strip-same s t e a n w low high answer m k x y u v p q c d =
    let r = same-refusal s t e a n w (length low / 8) (length high / 8) in
    let z : strip_of (opened t) a n w ≡ strip_of (opened s) a n w = ap (λ (o : Wave). strip_of o a n w) e.same-wave in
    let told : strip_answer t a n w ≡ strip_answer s a n w = λ i. all_bytes 0 8 (unsigned 8 (z i).sum ∷ (z i).marks ∷ (z i).peak ∷ []) in
    let o : strip_number t a n w (length low) (length high) (length answer) ≡ strip_number s a n w (length low) (length high) (length answer) = λ i. or_room (r i) (told i) (length answer) in (
      d.5.0 ∙ o ∙ sym c.5.0,
      d.5.1.0 ∙ (λ i. left_by (o i) (signed_bytes (z i).leasts) low) ∙ sym c.5.1.0,
      d.5.1.1.0 ∙ (λ i. left_by (o i) (signed_bytes (z i).greatests) high) ∙ sym c.5.1.1.0,
      d.5.1.1.1 ∙ (λ i. left_by (o i) (told i) answer) ∙ sym c.5.1.1.1,
    )
