-- What the writers' stores leave (`byte_stored`, `word_stored`) is, at the numbers of an accepted block, the narrowed block: `byte_written` and `word-written`.
use mathlib.Core.Path.{◌≡◌, refl, sym, ap, ap₂, ◌∙◌}
use Prim.Native.Nat.{ℕ, zero, suc, ◌+◌, ◌-◌, ◌*◌, ◌/◌, ◌≤◌, ◌<◌}
use native.Mathlib.Nat.{mul-one, mul-div_left}
use native.Mathlib.Omega.{arith}
use mathlib.Core.Bool.{true}
use mathlib.Core.List.{List, [], ◌∷◌, ◌++◌, map, map-append, flatten, append_assoc, append-nil}
use lib.ListN.{length, get_or, take, drop, length-append, length-drop, length-map, get_or-map}
use lib.Seq.{take_at, take-add, drop_at, drop-drop, drop-append-add}
use Rattle.rules.specs.Numbers.{Bytes, splice, bytes, digits, all_bytes, starts_from}
use Rattle.rules.specs.Template.{template, width_at, laid, head_at}
use Rattle.rules.specs.Wave.{Wave, size_of, lengths_of, starts_of, written, encode, framed}
use Rattle.rules.specs.Rules.{payload_start, stated, payload, refusal, opened}
use Rattle.rules.specs.Cut.{changed}
use Rattle.rules.proofs.Template.{above_template, total-template}
use Rattle.rules.proofs.Numbers.{below-drop, laid-fields, length-laid, length-all_bytes, length-bytes, all_bytes_append}
use Rattle.rules.proofs.Waves.{Fits}
use Rattle.rules.proofs.Slices.{payload-part}
use Rattle.rules.proofs.Frames.{length-framed}
use Rattle.rules.proofs.Opened.{payload_there, length-payload, fits-opened, good-opened, cover, head_there}
use Rattle.copies.specs.Copies.{gather, part, items, header}
use Rattle.copies.proofs.Laws.{length-splice, splice-over, then, three_at, gather_cong, all_bytes-gather, length_part}
use Rattle.copies.proofs.Head.{length-header}
use Rattle.heads.proofs.Heads.{field_set, longs-laid}
use Rattle.narrowing.specs.Narrow.{high, times256, comm_type, narrowed, narrow_bytes}
use Rattle.narrowing.proofs.Highs.{length_high, flatten-high}
use Rattle.narrowing.proofs.Accepted.{narrow-word, byte_rewritten}
use Rattle.narrows.specs.Steps.{byte_block, word_head, fields_put, word_block}

-- ---- the high byte of each sample of two bytes

module _ (o : ℕ) (l : o ≤ 1) where
  first-high : (x : ℕ) (rest : List ℕ) → take 1 (drop o (bytes o 2 x ++ rest)) ≡ bytes o 1 (high x)
  unfolding bytes digits
  first-high x rest = go o l
    where
      go : (o : ℕ) → o ≤ 1 → take 1 (drop o (bytes o 2 x ++ rest)) ≡ bytes o 1 (high x)
      go zero h = refl
      go (suc zero) h = refl
      go (suc (suc o)) h = absurd (omega arith)

  high_item : (xs : List ℕ) (k : ℕ) → k < length xs → take 1 (drop (o + k * 2) (all_bytes o 2 xs)) ≡ bytes o 1 (high (get_or xs k 0))
  unfolding flatten
  high_item [] k h = absurd (omega arith)
  high_item (x ∷ xs) zero h = let e : o + 0 * 2 ≡ o = omega arith in ap (λ (n : ℕ). take 1 (drop n (bytes o 2 x ++ all_bytes o 2 xs))) e ∙ first-high x (all_bytes o 2 xs)
  high_item (x ∷ xs) (suc k) h =
      let e : o + suc k * 2 ≡ length (bytes o 2 x) + (o + k * 2) = omega (arith, length-bytes o 2 x) in
      ap (λ (n : ℕ). take 1 (drop n (bytes o 2 x ++ all_bytes o 2 xs))) e ∙ ap (take 1) (drop-append-add (bytes o 2 x) (all_bytes o 2 xs) (o + k * 2)) ∙ high_item xs k (omega arith)

  highs_gather : (xs : List ℕ) → gather (λ k. take 1 (drop (o + k * 2) (all_bytes o 2 xs))) (length xs) ≡ all_bytes o 1 (map high xs)
  highs_gather xs =
      gather_cong (λ k. take 1 (drop (o + k * 2) (all_bytes o 2 xs))) (λ k. bytes o 1 (get_or (map high xs) k 0)) (length xs)
      (λ k h. high_item xs k h ∙ ap (bytes o 1) (sym (get_or-map high xs k 0)))
      ∙ ap (gather (λ k. bytes o 1 (get_or (map high xs) k 0))) (sym (length-map xs high))
      ∙ sym (all_bytes-gather o 1 (map high xs))

-- ---- what the writers' stores leave

module _ (s : List ℕ) (b : Bytes s) (start order one two gain : ℕ) where
  length-head : length (word_head s start order one two gain) ≡ 346
  length-head = length-laid order template (changed ((32, 0) ∷ (60, one) ∷ (64, two) ∷ (156, gain) ∷ []) (head_at order start s)) ∙ total-template

  -- the four fields stored over the descriptor
  head_stored : (l : List ℕ) → 357 ≤ length l → fields_put order one two gain (splice l 11 (laid order template (head_at order start s))) ≡ splice l 11 (word_head s start order one two gain)
  head_stored l r =
      let head : ℕ → ℕ = head_at order start s in
      ap (λ (x : List ℕ). splice x 43 (bytes order 2 0)) (longs-laid order 11 ((60, one) ∷ (64, two) ∷ (156, gain) ∷ []) l head r (unfold template width_at in (refl, (refl, (refl, tt)))))
      ∙ field_set order template l 11 (changed ((60, one) ∷ (64, two) ∷ (156, gain) ∷ []) head) 32 2 0 above_template (omega (arith, total-template)) (unfold template width_at in refl) (omega arith)

  -- and over the descriptor with what stands behind it, up to the arrays
  front_stored : (l : List ℕ) (front : ℕ) → 346 ≤ front → start + front ≤ length s → 11 + front ≤ length l
      → fields_put order one two gain (splice l 11 (part s start front)) ≡ splice l 11 (word_head s start order one two gain ++ part s (start + 346) (front - 346))
  front_stored l front least hs hl =
      let head : List ℕ = laid order template (head_at order start s) in
      let rest : List ℕ = part s (start + 346) (front - 346) in
      let long : length head ≡ 346 = length-laid order template (head_at order start s) ∙ total-template in
      let sum : 346 + (front - 346) ≡ front = omega arith in
      let behind : length rest ≡ front - 346 = length_part s (start + 346) (front - 346) (omega arith) in
      let copied : part s start 346 ≡ head =
      sym (laid-fields order template (drop start s) above_template (below-drop 256 start s b) (omega (arith, total-template, length-drop start s)) ∙ ap (λ (n : ℕ). take n (drop start s)) total-template) in
      let both : part s start front ≡ head ++ rest =
      ap (part s start) (sym sum) ∙ take-add 346 (front - 346) (drop start s) ∙ ap₂ {C = List ℕ} (λ x y. x ++ y) copied (ap (take (front - 346)) (drop-drop 346 start s)) in
      let room : 11 + length (head ++ rest) ≤ length l = omega (arith, length-append head rest) in
      let whole : List ℕ = splice l 11 (head ++ rest) in
      ap (λ (x : List ℕ). fields_put order one two gain (splice l 11 x)) both
      ∙ ap (fields_put order one two gain) (sym (splice-over l 11 head rest head refl room))
      ∙ head_stored whole (omega (arith, length-splice l 11 (head ++ rest) room))
      ∙ splice-over l 11 head rest (word_head s start order one two gain) (length-head ∙ sym long) room

  -- the header, the descriptor with what stands behind it, and the samples
  pub word_stored : (out : List ℕ) (front from : ℕ) → 346 ≤ front → start + front ≤ length s → 11 + (front + one + two) ≤ length out → from + 1 ≡ start + front + order
      → splice (fields_put order one two gain (splice (splice out 0 (header (front + one + two))) 11 (part s start front))) (11 + front) (items true s (from + 1) 2 1 (one + two))
      ≡ splice out 0 (word_block s start order front one two gain)
  word_stored out front from least hs hl e =
      let top : List ℕ = header (front + one + two) in
      let head : List ℕ = word_head s start order one two gain in
      let rest : List ℕ = part s (start + 346) (front - 346) in
      let samples : List ℕ = items true s (start + front + order) 2 1 (one + two) in
      let eleven : length top ≡ 11 = length-header (front + one + two) in
      let behind : length rest ≡ front - 346 = length_part s (start + 346) (front - 346) (omega arith) in
      ap₂ {C = List ℕ} (λ x k. splice x (11 + front) (items true s k 2 1 (one + two))) (front_stored (splice out 0 top) front least hs (omega (arith, length-splice out 0 top (omega arith)))) e
      ∙ three_at out 11 (11 + front) top (head ++ rest) samples eleven (omega (arith, length-append head rest, length-head)) (omega arith)
      ∙ ap (λ (x : List ℕ). splice out 0 (x ++ samples)) (sym (append_assoc top head rest))

pub byte_stored : (s out : List ℕ) (start total : ℕ) → 11 + total ≤ length out → splice (splice out 0 (header total)) 11 (part s start total) ≡ splice out 0 (byte_block s start total)
byte_stored s out start total h = then out 0 11 (header total) (part s start total) (length-header total) (omega arith)

-- ---- an accepted block

join_parts : (d t g r x y : List ℕ) → d ++ (t ++ (g ++ (r ++ (x ++ (y ++ []))))) ≡ d ++ ((t ++ (g ++ r)) ++ (x ++ y))
join_parts d t g r x y = simp (append_assoc, append-nil)

header-framed : (p : List ℕ) → header (length p) ++ p ≡ framed p
unfolding header framed
header-framed p = refl

module _ (s : List ℕ) (b : Bytes s) (e : refusal s ≡ 0) where
  -- the payload ends with array 2
  pub whole : get_or (starts_of (opened s).head) 7 0 + get_or (lengths_of (opened s).head) 7 0 ≡ stated s
  unfolding starts_of starts_from
  whole = go (good-opened s b e).tile.none ((good-opened s b e).tile.sum ∙ length-payload s b e)
    where
      go : ((opened s).head 44 ≡ 0) × (((opened s).head 56 ≡ 0) × (((opened s).head 68 ≡ 0) × (((opened s).head 72 ≡ 0) × Unit {0})))
          → (opened s).head 36 + ((opened s).head 40 + ((opened s).head 44 + ((opened s).head 48 + ((opened s).head 52 + ((opened s).head 56 + ((opened s).head 60 + ((opened s).head 64 + ((opened s).head 68 + ((opened s).head 72 + 0))))))))) ≡ stated s
          → 0 + (opened s).head 36 + (opened s).head 40 + (opened s).head 44 + (opened s).head 48 + (opened s).head 52 + (opened s).head 56 + (opened s).head 60 + (opened s).head 64 ≡ stated s
      go z t = omega arith

  pub byte_written : comm_type (opened s).head ≡ 0 → byte_block s (payload_start s) (stated s) ≡ narrow_bytes s
  unfolding payload
  byte_written z = ap (λ (n : ℕ). header n ++ payload s) (sym (length-payload s b e)) ∙ header-framed (payload s) ∙ sym (byte_rewritten s b e z)

  pub byte_long : comm_type (opened s).head ≡ 0 → length (narrow_bytes s) ≡ 11 + stated s
  byte_long z = ap length (byte_rewritten s b e z) ∙ length-framed (payload s) ∙ ap (λ (n : ℕ). 11 + n) (length-payload s b e)

  module _ (word : comm_type (opened s).head ≡ 1) where
    -- what the descriptor is followed by, up to the arrays; and the arrays
    abbrev pub middle : List ℕ
    middle = (opened s).text ++ (all_bytes ((opened s).head 34) 8 (flatten (opened s).trig) ++ all_bytes ((opened s).head 34) 8 (opened s).ris)

    abbrev samples : List ℕ
    samples = flatten (opened s).one ++ flatten (opened s).two

    payload_is : payload s ≡ laid ((opened s).head 34) template (opened s).head ++ (middle ++ all_bytes ((opened s).head 34) 2 samples)
    unfolding encode written flatten
    payload_is =
        let w : Wave = opened s in
        let o : ℕ = w.head 34 in
        sym (cover s b e)
        ∙ join_parts (laid o template w.head) w.text (all_bytes o 8 (flatten w.trig)) (all_bytes o 8 w.ris) (all_bytes o (size_of w.head) (flatten w.one)) (all_bytes o (size_of w.head) (flatten w.two))
        ∙ ap (λ (x : List ℕ). laid o template w.head ++ (middle ++ x)) (sym (all_bytes_append o (size_of w.head) (flatten w.one) (flatten w.two)) ∙ ap (λ (t : ℕ). all_bytes o (t + 1) samples) word)

    head-long : length (laid ((opened s).head 34) template (opened s).head) ≡ 346
    head-long = length-laid ((opened s).head 34) template (opened s).head ∙ total-template

    middle_long : length middle ≡ (opened s).head 40 + ((opened s).head 48 + (opened s).head 52)
    middle_long =
        let w : Wave = opened s in
        let o : ℕ = w.head 34 in
        let f : Fits w = fits-opened s b e in
        length-append w.text (all_bytes o 8 (flatten w.trig) ++ all_bytes o 8 w.ris)
        ∙ ap₂ {C = ℕ} (λ x y. x + y) (sym f.text-length) (length-append (all_bytes o 8 (flatten w.trig)) (all_bytes o 8 w.ris) ∙ ap₂ {C = ℕ} (λ x y. x + y) (length-all_bytes o 8 (flatten w.trig) ∙ sym f.trig-length) (length-all_bytes o 8 w.ris ∙ sym f.ris-length))

    -- where the arrays start
    pub front_is : get_or (starts_of (opened s).head) 6 0 ≡ 346 + length middle
    unfolding starts_of starts_from
    front_is = go (good-opened s b e).tile.none (good-opened s b e).tile.descriptor middle_long
      where
        go : ((opened s).head 44 ≡ 0) × (((opened s).head 56 ≡ 0) × (((opened s).head 68 ≡ 0) × (((opened s).head 72 ≡ 0) × Unit {0}))) → (opened s).head 36 ≡ 346 → length middle ≡ (opened s).head 40 + ((opened s).head 48 + (opened s).head 52)
            → 0 + (opened s).head 36 + (opened s).head 40 + (opened s).head 44 + (opened s).head 48 + (opened s).head 52 + (opened s).head 56 ≡ 346 + length middle
        go z d m = omega arith

    counts : ((opened s).head 60 / 2 ≡ length (flatten (opened s).one)) × ((opened s).head 64 / 2 ≡ length (flatten (opened s).two))
    counts =
        let w : Wave = opened s in
        let f : Fits w = fits-opened s b e in (
          ap (λ (n : ℕ). n / 2) (f.one-length ∙ ap (λ (t : ℕ). length (flatten w.one) * (t + 1)) word) ∙ mul-div_left (length (flatten w.one)) (omega arith),
          ap (λ (n : ℕ). n / 2) (f.two-length ∙ ap (λ (t : ℕ). length (flatten w.two) * (t + 1)) word) ∙ mul-div_left (length (flatten w.two)) (omega arith),
        )

    samples-long : length samples ≡ (opened s).head 60 / 2 + (opened s).head 64 / 2
    samples-long = length-append (flatten (opened s).one) (flatten (opened s).two) ∙ ap₂ {C = ℕ} (λ x y. x + y) (sym counts.0) (sym counts.1)

    stated_is : stated s ≡ 346 + (length middle + length samples * 2)
    stated_is =
        let o : ℕ = (opened s).head 34 in
        let d : List ℕ = laid o template (opened s).head in
        sym (length-payload s b e) ∙ ap length payload_is ∙ length-append d (middle ++ all_bytes o 2 samples)
        ∙ ap₂ {C = ℕ} (λ x y. x + y) head-long (length-append middle (all_bytes o 2 samples) ∙ ap (λ (x : ℕ). length middle + x) (length-all_bytes o 2 samples))

    middle_part : part s (payload_start s + 346) (length middle) ≡ middle
    middle_part =
        let o : ℕ = (opened s).head 34 in
        sym (payload-part s (payload_there s b e) (length middle) 346 (omega (arith, stated_is)))
        ∙ ap (λ (p : List ℕ). take (length middle) (drop 346 p)) payload_is
        ∙ ap (take (length middle)) (drop_at (laid o template (opened s).head) (middle ++ all_bytes o 2 samples) 346 head-long)
        ∙ take_at middle (all_bytes o 2 samples) (length middle) refl

    array-part : items true s (payload_start s + (346 + length middle) + (opened s).head 34) 2 1 (length samples) ≡ all_bytes ((opened s).head 34) 1 (map high samples)
    array-part =
        gather_cong (λ k. part s (payload_start s + (346 + length middle) + o + k * 2) 1) (λ k. take 1 (drop (o + k * 2) (all_bytes o 2 samples))) (length samples) each
        ∙ highs_gather o (fits-opened s b e).order samples
      where
        o : ℕ
        o = (opened s).head 34

        rest : (j : ℕ) → drop (346 + (length middle + j)) (payload s) ≡ drop j (all_bytes o 2 samples)
        rest j =
            let d : List ℕ = laid o template (opened s).head in
            ap (drop (346 + (length middle + j))) payload_is
            ∙ ap (λ (n : ℕ). drop (n + (length middle + j)) (d ++ (middle ++ all_bytes o 2 samples))) (sym head-long)
            ∙ drop-append-add d (middle ++ all_bytes o 2 samples) (length middle + j) ∙ drop-append-add middle (all_bytes o 2 samples) j

        each : (k : ℕ) → k < length samples → part s (payload_start s + (346 + length middle) + o + k * 2) 1 ≡ take 1 (drop (o + k * 2) (all_bytes o 2 samples))
        each k h =
            let at : payload_start s + (346 + length middle) + o + k * 2 ≡ payload_start s + (346 + (length middle + (o + k * 2))) = omega arith in
            ap (λ (n : ℕ). part s n 1) at ∙ sym (payload-part s (payload_there s b e) 1 (346 + (length middle + (o + k * 2))) (omega (arith, stated_is, (fits-opened s b e).order))) ∙ ap (take 1) (rest (o + k * 2))

    new_samples : all_bytes ((opened s).head 34) 1 (map high samples) ≡ all_bytes ((opened s).head 34) 1 (flatten (map (map high) (opened s).one)) ++ all_bytes ((opened s).head 34) 1 (flatten (map (map high) (opened s).two))
    new_samples =
        let o : ℕ = (opened s).head 34 in
        let x : List ℕ = flatten (opened s).one in
        let y : List ℕ = flatten (opened s).two in
        ap (all_bytes o 1) (map-append high x y ∙ ap₂ {C = List ℕ} (λ u v. u ++ v) (sym (flatten-high (opened s).one)) (sym (flatten-high (opened s).two)))
        ∙ all_bytes_append o 1 (flatten (map (map high) (opened s).one)) (flatten (map (map high) (opened s).two))

    new_head : word_head s (payload_start s) ((opened s).head 34) ((opened s).head 60 / 2) ((opened s).head 64 / 2) (times256 ((opened s).head 156)) ≡ laid ((opened s).head 34) template (narrowed (opened s)).head
    unfolding narrowed
    new_head =
        let w : Wave = opened s in
        let one : w.head 60 / 2 ≡ length (flatten (map (map high) w.one)) = counts.0 ∙ sym (length_high w.one) in
        let two : w.head 64 / 2 ≡ length (flatten (map (map high) w.two)) = counts.1 ∙ sym (length_high w.two) in
        λ i. laid (w.head 34) template (changed ((32, 0) ∷ (60, one i) ∷ (64, two i) ∷ (156, times256 (w.head 156)) ∷ []) (head_there s b e i))

    new_payload : encode (narrowed (opened s)) ≡ laid ((opened s).head 34) template (narrowed (opened s)).head ++ (middle ++ all_bytes ((opened s).head 34) 1 (map high samples))
    new_payload =
        let w : Wave = opened s in
        let o : ℕ = w.head 34 in
        parts ∙ ap (λ (x : List ℕ). laid o template (narrowed w).head ++ (middle ++ x)) (sym new_samples)
      where
        parts : encode (narrowed (opened s)) ≡ laid ((opened s).head 34) template (narrowed (opened s)).head ++ (middle ++ (all_bytes ((opened s).head 34) 1 (flatten (map (map high) (opened s).one)) ++ all_bytes ((opened s).head 34) 1 (flatten (map (map high) (opened s).two))))
        parts = unfold encode written flatten narrowed in
            let w : Wave = opened s in
            let o : ℕ = w.head 34 in
            join_parts (laid o template (narrowed w).head) w.text (all_bytes o 8 (flatten w.trig)) (all_bytes o 8 w.ris) (all_bytes o 1 (flatten (map (map high) w.one))) (all_bytes o 1 (flatten (map (map high) w.two)))

    new_long : length (encode (narrowed (opened s))) ≡ 346 + length middle + (opened s).head 60 / 2 + (opened s).head 64 / 2
    new_long =
        let o : ℕ = (opened s).head 34 in
        let d : List ℕ = laid o template (narrowed (opened s)).head in
        let k : length d ≡ 346 = length-laid o template (narrowed (opened s)).head ∙ total-template in
        let n : length (all_bytes o 1 (map high samples)) ≡ length samples = length-all_bytes o 1 (map high samples) ∙ mul-one (length (map high samples)) ∙ length-map samples high in
        ap length new_payload ∙ length-append d (middle ++ all_bytes o 1 (map high samples)) ∙ omega (arith, length-append middle (all_bytes o 1 (map high samples)), samples-long)

    pub word-long : length (narrow_bytes s) ≡ 11 + (346 + length middle + (opened s).head 60 / 2 + (opened s).head 64 / 2)
    unfolding narrow_bytes
    word-long = ap (λ (w : Wave). length (framed (encode w))) (narrow-word (opened s) word) ∙ length-framed (encode (narrowed (opened s))) ∙ ap (λ (n : ℕ). 11 + n) new_long

    pub word-stated : stated s ≡ 346 + length middle + ((opened s).head 60 / 2 + (opened s).head 64 / 2) * 2
    word-stated = omega (arith, stated_is, samples-long)

    join_four : (x y z u : List ℕ) → x ++ y ++ z ++ u ≡ x ++ (y ++ (z ++ u))
    join_four x y z u = simp append_assoc

    pub word-written : word_block s (payload_start s) ((opened s).head 34) (346 + length middle) ((opened s).head 60 / 2) ((opened s).head 64 / 2) (times256 ((opened s).head 156)) ≡ narrow_bytes s
    word-written =
        let o : ℕ = (opened s).head 34 in
        let m : 346 + length middle - 346 ≡ length middle = omega arith in
        (λ i. header (sym new_long i) ++ new_head i ++ (ap (part s (payload_start s + 346)) m ∙ middle_part) i ++ (ap (items true s (payload_start s + (346 + length middle) + o) 2 1) (sym samples-long) ∙ array-part) i)
        ∙ join_four (header (length (encode (narrowed (opened s))))) (laid o template (narrowed (opened s)).head) middle (all_bytes o 1 (map high samples))
        ∙ ap (λ (p : List ℕ). header (length (encode (narrowed (opened s)))) ++ p) (sym new_payload)
        ∙ header-framed (encode (narrowed (opened s)))
        ∙ unfold narrow_bytes in ap (λ (w : Wave). framed (encode w)) (sym (narrow-word (opened s) word))
