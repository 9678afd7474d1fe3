-- A segment written as a sound file: its number is that of a walk over it, then 21, then 13 (`sound-refusal`); where it is written, its samples are a sound
-- (`segment-sound`), and the file is read back to the rate, the width and all of them (`segment-read`). The numbers of reading: `reads`.
use mathlib.Core.Path.{◌≡◌, refl, sym, ap, ap₂, ◌∙◌, subst}
use mathlib.Core.Logic.{◌⊎◌, inl, inr, ◌↔◌}
use Prim.Native.Nat.{ℕ, zero, suc, ◌+◌, ◌*◌, ◌/◌, ◌%◌, ◌^◌, ◌≤◌, ◌<◌}
use native.Mathlib.Omega.{arith}
use mathlib.Core.Bool.{Bool, true, false, cond}
use mathlib.Core.List.{List, [], ◌∷◌, ◌++◌, append_assoc}
use lib.ListN.{length, get_or, length-map}
use lib.Dec.{leb}
use lib.IntN.{ℤ, pos}
use lib.Signed.{mag}
use borrow.Author.Tests.{leb-true, le-leb}
use Rattle.rules.specs.Numbers.{Bytes, EachFits, up_from}
use Rattle.rules.specs.Wave.{Wave, size_of, points}
use Rattle.rules.specs.Rules.{all, first, rules, refusal, opened}
use Rattle.rules.specs.Points.{sample, segment_rules, point_refusal, walk_refusal}
use Rattle.rules.specs.Cut.{or_else}
use Rattle.rules.proofs.Tests.{Each, Held, first_held, held_first, held_left, held_right, numbered_append, first_append}
use Rattle.rules.proofs.Opened.{obeys, rules_numbered, shape_opened, good-opened, row_small}
use Rattle.rules.proofs.Thin.{length-up_from, get_or-up_from}
use Rattle.rules.proofs.Headers.{SameAnswers}
use Rattle.rules.proofs.Asked.{segment-points, sample_typed}
use Rattle.riff.specs.Files.{riff_count, sound_file, count_in, width_in, samples_in, rated, sound_form, sound_read_refusal, Sound}
use Rattle.riff.specs.Segments.{samples, sound_of, sound_rules, sound_write_refusal}
use Rattle.riff.proofs.Files.{ReadAs, wrote_read, count-samples, length_file}

-- ---- reading: 21 for every other file, then 13

pub reads : (f : List ℕ) (room : ℕ) → (sound_read_refusal f room ≡ 0) ↔ (Each (sound_form f) × (length (samples_in f) ≤ room))
unfolding sound_read_refusal
reads f room =
    let rs : List (ℕ × List Bool) = (21, sound_form f) ∷ (13, leb (count_in f / width_in f) room ∷ []) ∷ [] in (
      λ e. let h = first_held rs (omega arith) e in (h.0, omega (arith, count-samples f, leb-true (count_in f / width_in f) room h.1.0.0)),
      λ p. held_first rs (p.0, ((le-leb (count_in f / width_in f) room (omega (arith, count-samples f, p.1)), tt), tt)),
    )

-- ---- writing: as for a walk over the segment, then 21 for the rate, then 13

pub sound-refusal : (s : List ℕ) (a n rate room : ℕ) → sound_write_refusal s a n rate room ≡ or_else (walk_refusal s a n) (first (sound_rules rate (sound_of s a n rate) room))
unfolding sound_write_refusal walk_refusal segment_rules
sound-refusal s a n rate room =
    let h : ℕ → ℕ = (opened s).head in
    let last : List (ℕ × List Bool) = sound_rules rate (sound_of s a n rate) room in
    ap first (sym (append_assoc (rules s) (segment_rules a n h) last))
    ∙ first_append (rules s ++ segment_rules a n h) last (numbered_append (rules s) (segment_rules a n h) (rules_numbered s) (omega arith))

-- so 13 is behind all others, and an output that is too short for any file gives it where nothing else is broken
unfoldable pub before_room : List ℕ → ℕ → ℕ → ℕ → ℕ
before_room s a n rate = or_else (walk_refusal s a n) (cond (all (rated rate)) 0 21)

module _ (s : List ℕ) (a n rate : ℕ) where
  pub sound_rooms : (room : ℕ) → sound_write_refusal s a n rate room ≡ or_else (before_room s a n rate) (cond (leb (length (sound_of s a n rate)) room) 0 13)
  unfolding before_room sound_rules
  sound_rooms room = sound-refusal s a n rate room ∙ go (walk_refusal s a n) (all (rated rate)) (leb (length (sound_of s a n rate)) room)
    where
      go : (k : ℕ) (e t : Bool) → or_else k (cond {A = ℕ} e (cond {A = ℕ} (all (t ∷ [])) 0 13) 21) ≡ or_else (or_else k (cond {A = ℕ} e 0 21)) (cond {A = ℕ} t 0 13)
      go zero true true = refl
      go zero true false = refl
      go zero false t = refl
      go (suc k) e t = refl

-- the samples are those of the points, so many and each
pub count-points : (v : Wave) (a n : ℕ) → length (samples v a n) ≡ points v.head
unfolding samples
count-points v a n = length-map (up_from 0 (points v.head)) (sample v a n) ∙ length-up_from 0 (points v.head)

pub samples_are : (v : Wave) (a n k : ℕ) → k < points v.head → get_or (samples v a n) k (pos 0) ≡ sample v a n k
unfolding samples
samples_are v a n k h = let z : 0 + k ≡ k = omega arith in get_or-up_from (sample v a n) 0 (points v.head) k (pos 0) h ∙ ap (sample v a n) z

-- and the file's length is known from their number and width
pub sound-length : (s : List ℕ) (a n rate : ℕ) → (let c = points (opened s).head * size_of (opened s).head in length (sound_of s a n rate) ≡ 44 + c + c % 2)
unfolding sound_of
sound-length s a n rate =
    let w : ℕ = size_of (opened s).head in
    length_file w (samples (opened s) a n) rate ∙ ap (λ (k : ℕ). 44 + k * w + k * w % 2) (count-points (opened s) a n)

-- ---- a segment that is written

module _ (s : List ℕ) (b : Bytes s) (a n rate room : ℕ) (z : sound_write_refusal s a n rate room ≡ 0) where
  abbrev last : List (ℕ × List Bool)
  last = sound_rules rate (sound_of s a n rate) room

  held : Held (rules s ++ (segment_rules a n (opened s).head ++ last))
  unfolding sound_write_refusal segment_rules sound_rules
  held =
      let h : ℕ → ℕ = (opened s).head in
      first_held (rules s ++ (segment_rules a n h ++ last)) (numbered_append (rules s) (segment_rules a n h ++ last) (rules_numbered s) (omega arith)) z

  pub accepted : refusal s ≡ 0
  accepted = (obeys s).1 (held_left (rules s) (segment_rules a n (opened s).head ++ last) held)

  pub points_asked : (k : ℕ) → k < points (opened s).head → point_refusal s a n k ≡ 0
  unfolding sound_write_refusal sound_rules
  points_asked = segment-points s a n last (omega arith) z

  own : Held last
  own = held_right (segment_rules a n (opened s).head) last (held_right (rules s) (segment_rules a n (opened s).head ++ last) held)

  pub room_enough : length (sound_of s a n rate) ≤ room
  unfolding sound_rules
  room_enough = leb-true (length (sound_of s a n rate)) room own.1.0.0

  pub rate-taken : (1 ≤ rate) × (rate ≤ 2147483647)
  unfolding sound_rules
  rate-taken = (leb-true 1 rate own.0.0, leb-true rate 2147483647 own.0.1.0)

  pub width : (size_of (opened s).head ≡ 1) ⊎ (size_of (opened s).head ≡ 2)
  width = go ((opened s).head 32) (good-opened s b accepted).kind
    where
      go : (k : ℕ) → k ≤ 1 → (k + 1 ≡ 1) ⊎ (k + 1 ≡ 2)
      go zero h = inl refl
      go (suc zero) h = inr refl
      go (suc (suc k)) h = absurd (omega arith)

  pub samples-fit : EachFits (size_of (opened s).head) (samples (opened s) a n)
  samples-fit q h =
      let l : q < points (opened s).head = subst (λ (k : ℕ). q < k) (count-points (opened s) a n) h in
      subst (λ (x : ℤ). mag x < 256 ^ size_of (opened s).head / 2) (sym (samples_are (opened s) a n q l)) (sample_typed s b a n q (points_asked q l))

  pub segment-sound : Sound rate (size_of (opened s).head) (samples (opened s) a n)
  segment-sound =
      let w : ℕ = size_of (opened s).head in
      let c = count-points (opened s) a n in
      record {
        least = rate-taken.0;
        most = rate-taken.1;
        width = width;
        fit = samples-fit;
        some = omega (arith, c, (shape_opened s b accepted).some);
        small = subst (λ (k : ℕ). riff_count (k * w) ≤ 4294967295) (sym c) (omega (arith, row_small s b accepted));
      }

  -- the file is read back to the rate, the width and the samples
  pub segment-read : ReadAs (sound_of s a n rate) rate (size_of (opened s).head) (samples (opened s) a n)
  unfolding sound_of
  segment-read = wrote_read rate (size_of (opened s).head) (samples (opened s) a n) segment-sound

-- the same payload under two accepted headers: the same file, and the same number
module _ (s t : List ℕ) (e : SameAnswers s t) (a n rate : ℕ) where
  pub same-sound : sound_of t a n rate ≡ sound_of s a n rate
  unfolding sound_of
  same-sound = ap (λ (v : Wave). sound_file rate (size_of v.head) (samples v a n)) e.same-wave

  pub same-refusal : (room : ℕ) → sound_write_refusal t a n rate room ≡ sound_write_refusal s a n rate room
  same-refusal room = sound-refusal t a n rate room ∙ ap₂ {C = ℕ} (λ m f. or_else m (first (sound_rules rate f room))) (e.same_walk a n) same-sound ∙ sym (sound-refusal s a n rate room)
