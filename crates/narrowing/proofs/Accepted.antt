-- What a narrowing's number is (`narrow-number`, `narrow-room`) and says (`narrow-says`, `says-narrow`), that the narrowed block is accepted and read as the
-- narrowed wave (`narrow_accepted`), and that it is at most six bytes longer than its block (`room_enough`).
use mathlib.Core.Path.{◌≡◌, refl, sym, ap, ◌∙◌, subst}
use mathlib.Core.Logic.{◌⊎◌, inl, inr, ⊎_elim}
use Prim.Native.Nat.{ℕ, zero, suc, ◌+◌, ◌*◌, ◌^◌, ◌≤◌, ◌<◌}
use native.Mathlib.Nat.{le_of_eq, mul-one}
use native.Mathlib.Omega.{arith}
use mathlib.Core.Bool.{Bool, true, false, cond, ◌||◌}
use mathlib.Core.List.{List, [], ◌∷◌, ◌++◌, map, flatten}
use lib.ListN.{length}
use lib.Dec.{leb, eqb}
use lib.Ieee.Scale.{finite}
use borrow.Author.Tests.{leb-true, le-leb, eqb-true, eq-eqb}
use Rattle.rules.specs.Numbers.{Bytes, Below, total, up_from}
use Rattle.rules.specs.Template.{template, width_at}
use Rattle.rules.specs.Wave.{Wave, size_of, lengths_of, encode, framed}
use Rattle.rules.specs.Rules.{first, named, timed, payload, inner, rules, refusal, opened}
use Rattle.rules.specs.Cut.{or_else}
use Rattle.rules.proofs.Tests.{or_says, says_or, first_append, first_held, first_without, held_first, held_append, held_left, held_right, numbered_append, or_alone, or_else_without}
use Rattle.rules.proofs.Facts.{Tiled, Counted}
use Rattle.rules.proofs.Rows.{Shape}
use Rattle.rules.proofs.Waves.{Fits}
use Rattle.rules.proofs.Keeps.{Room, instead-fit}
use Rattle.rules.proofs.Accepts.{Good, accepted, below-encode, length-encode}
use Rattle.rules.proofs.Opened.{obeys, rules_numbered, sized-opened, start-opened, payload_there, length-payload, shape_opened, fits-opened, good-opened, cover}
use Rattle.rules.proofs.Frames.{length-framed, below-framed}
use Rattle.rules.proofs.Headers.{SameAnswers}
use Rattle.narrowing.specs.Narrow.{high, widened, comm_type, gain, narrow_changes, narrowed, narrow_by, narrow, narrow_bytes, gained, narrow_refusal}
use Rattle.narrowing.proofs.Highs.{lengths_high, length_high, below-high}
use Rattle.narrowing.proofs.Gains.{times256-long, gain-finite}

-- ---- what 19 says, and a narrowing's number

-- a BYTE block, or 256 times the gain is finite
abbrev pub Gained : (ℕ → ℕ) → Type 0
Gained h = (comm_type h ≡ 0) ⊎ (finite (widened (gain h)) ≡ true)

abbrev last_rules : List ℕ → ℕ → List (ℕ × List Bool)
last_rules s n = (19, gained (opened s).head) ∷ (13, leb (length (narrow_bytes s)) n ∷ []) ∷ []

-- the number of the rules before 13
abbrev pub before_room : List ℕ → ℕ
before_room s = or_else (refusal s) (cond (eqb (comm_type (opened s).head) 0 || finite (widened (gain (opened s).head))) 0 19)

module _ (s : List ℕ) (n : ℕ) where
  pub narrow-number : narrow_refusal s n ≡ or_else (refusal s) (cond (eqb (comm_type (opened s).head) 0 || finite (widened (gain (opened s).head))) (cond (leb (length (narrow_bytes s)) n) 0 13) 19)
  unfolding narrow_refusal gained refusal
  narrow-number =
      let h : ℕ → ℕ = (opened s).head in
      first_append (rules s) (last_rules s n) (rules_numbered s) ∙ ap (or_else (refusal s)) (two (eqb (comm_type h) 0 || finite (widened (gain h))) (leb (length (narrow_bytes s)) n))
    where
      two : (g r : Bool) → first ((19, g ∷ []) ∷ (13, r ∷ []) ∷ []) ≡ cond g (cond r 0 13) 19
      two true true = refl
      two true false = refl
      two false r = refl

  -- that of the rules before 13, and then 13
  pub narrow-room : narrow_refusal s n ≡ or_else (before_room s) (cond (leb (length (narrow_bytes s)) n) 0 13)
  narrow-room = narrow-number ∙ go (refusal s) (eqb (comm_type (opened s).head) 0 || finite (widened (gain (opened s).head))) (cond (leb (length (narrow_bytes s)) n) 0 13)
    where
      go : (k : ℕ) (g : Bool) (r : ℕ) → or_else k (cond g r 19) ≡ or_else (or_else k (cond g 0 19)) r
      go zero true r = refl
      go zero false r = refl
      go (suc k) g r = refl

  -- the block is accepted, 19 is not given, and the output has room
  pub record NarrowTaken : Type 0 where
    pub block : refusal s ≡ 0
    pub gains : Gained (opened s).head
    pub room : length (narrow_bytes s) ≤ n

  pub narrow-says : narrow_refusal s n ≡ 0 → NarrowTaken
  unfolding narrow_refusal gained
  narrow-says e =
      let h : ℕ → ℕ = (opened s).head in
      let q = first_held (rules s ++ last_rules s n) (numbered_append (rules s) (last_rules s n) (rules_numbered s) (omega arith)) e in
      let r = held_right (rules s) (last_rules s n) q in
      record {
        block = (obeys s).1 (held_left (rules s) (last_rules s n) q);
        gains = or_says (eqb (comm_type h) 0) (finite (widened (gain h))) (eqb-true (comm_type h) 0) (λ f. f) r.0.0;
        room = leb-true (length (narrow_bytes s)) n r.1.0.0;
      }

  pub says-narrow : NarrowTaken → narrow_refusal s n ≡ 0
  unfolding narrow_refusal gained
  says-narrow t =
      let h : ℕ → ℕ = (opened s).head in
      held_first (rules s ++ last_rules s n)
      (held_append (rules s) (last_rules s n) ((obeys s).0 t.block)
      ((says_or (eqb (comm_type h) 0) (finite (widened (gain h))) (eq-eqb (comm_type h) 0) (λ f. f) t.gains, tt), ((le-leb (length (narrow_bytes s)) n t.room, tt), tt)))

-- ---- by COMM_TYPE

pub narrow_byte : (w : Wave) → comm_type w.head ≡ 0 → narrow w ≡ w
unfolding narrow
narrow_byte w e = ap (λ (t : ℕ). narrow_by t w) e

pub narrow-word : (w : Wave) → comm_type w.head ≡ 1 → narrow w ≡ narrowed w
unfolding narrow
narrow-word w e = ap (λ (t : ℕ). narrow_by t w) e

-- ---- a WORD wave narrowed is what a wave has to be

module _ (w : Wave) (sh : Shape w) where
  shape_narrowed : Shape (narrowed w)
  unfolding narrowed
  shape_narrowed = record {
    some = sh.some;
    whole = sh.whole;
    one = lengths_high w.one ∙ sh.one;
    two = record { wide = sh.two.wide; full = sh.two.full; rows = lengths_high w.two ∙ sh.two.rows };
    trig = sh.trig;
  }

  module _ (f : Fits w) (word : comm_type w.head ≡ 1) where
    one_twice : w.head 60 ≡ length (flatten w.one) * 2
    one_twice = f.one-length ∙ ap (λ (t : ℕ). length (flatten w.one) * (t + 1)) word

    two_twice : w.head 64 ≡ length (flatten w.two) * 2
    two_twice = f.two-length ∙ ap (λ (t : ℕ). length (flatten w.two) * (t + 1)) word

    room : Room (narrow_changes w.head (map (map high) w.one) (map (map high) w.two))
    unfolding template width_at
    room = (omega arith, (omega (arith, length_high w.one, one_twice, f.fit 60), (omega (arith, length_high w.two, two_twice, f.fit 64), (times256-long (gain w.head), tt))))

    fits-narrowed : Fits (narrowed w)
    unfolding narrowed
    fits-narrowed = record {
      fit = λ k. instead-fit (narrow_changes w.head (map (map high) w.one) (map (map high) w.two)) k (w.head k) room (f.fit k);
      order = f.order;
      head-length = f.head-length;
      none = f.none;
      text-length = f.text-length;
      trig-length = f.trig-length;
      ris-length = f.ris-length;
      one-length = sym (mul-one (length (flatten (map (map high) w.one))));
      two-length = sym (mul-one (length (flatten (map (map high) w.two))));
      text-below = f.text-below;
      trig-below = f.trig-below;
      ris-below = f.ris-below;
      one_below = below-high w.one (subst (λ (t : ℕ). Below (256 ^ (t + 1)) (flatten w.one)) word f.one_below);
      two-below = below-high w.two (subst (λ (t : ℕ). Below (256 ^ (t + 1)) (flatten w.two)) word f.two-below);
    }

    -- the arrays are half as long
    pub halved : ((narrowed w).head 60 * 2 ≡ w.head 60) × ((narrowed w).head 64 * 2 ≡ w.head 64)
    unfolding narrowed
    halved = (ap (λ (k : ℕ). k * 2) (length_high w.one) ∙ sym one_twice, ap (λ (k : ℕ). k * 2) (length_high w.two) ∙ sym two_twice)

    module _ (n : ℕ) (g : Good n w) (fin : finite (widened (gain w.head)) ≡ true) where
      tile_narrowed : Tiled (length (encode (narrowed w))) (narrowed w).head
      tile_narrowed = go g.tile halved (sym (length-encode (narrowed w) shape_narrowed fits-narrowed))
        where
          go : Tiled n w.head → ((narrowed w).head 60 * 2 ≡ w.head 60) × ((narrowed w).head 64 * 2 ≡ w.head 64) → total (lengths_of (narrowed w).head) ≡ length (encode (narrowed w))
              → Tiled (length (encode (narrowed w))) (narrowed w).head
          go t m l = unfold narrowed in
              let long = t.long in
              record {
                descriptor = t.descriptor;
                none = t.none;
                long = (long.0, (long.1.0, (long.1.1.0, (long.1.1.1.0, (long.1.1.1.1.0, (long.1.1.1.1.1.0, (omega (arith, m.0, long.1.1.1.1.1.1.0), (omega (arith, m.1, long.1.1.1.1.1.1.1.0), long.1.1.1.1.1.1.1.1))))))));
                sum = l;
              }

      counts-narrowed : Counted (narrowed w).head
      counts-narrowed = go g.counts halved
        where
          go : Counted w.head → ((narrowed w).head 60 * 2 ≡ w.head 60) × ((narrowed w).head 64 * 2 ≡ w.head 64) → Counted (narrowed w).head
          go c m = unfold narrowed in
              let one2 : w.head 60 ≡ w.head 116 * 2 = c.one ∙ ap (λ (t : ℕ). w.head 116 * (t + 1)) word in
              record {
                some = c.some;
                count_long = c.count_long;
                subarrays_long = c.subarrays_long;
                whole = c.whole;
                one = omega (arith, m.0);
                two = ⊎_elim (λ (e : w.head 64 ≡ 0). inl (omega (arith, m.1))) (λ (e : w.head 64 ≡ w.head 116 * size_of w.head).
                    inr (let two2 : w.head 64 ≡ w.head 116 * 2 = e ∙ ap (λ (t : ℕ). w.head 116 * (t + 1)) word in omega (arith, m.1))) c.two;
                trig = c.trig;
                ris = c.ris;
                ris-alone = c.ris-alone;
                index-long = c.index-long;
                index-alone = c.index-alone;
              }

      good-narrowed : Good (length (encode (narrowed w))) (narrowed w)
      unfolding narrowed named timed up_from
      good-narrowed =
          let m = g.floats in
          record {
            name = g.name;
            kind = omega arith;
            tile = tile_narrowed;
            counts = counts-narrowed;
            places = record { first-long = g.places.first-long; sparse = g.places.sparse; last = g.places.last };
            floats = record { gain = gain-finite (gain w.head) m.gain fin; offset = m.offset; interval = m.interval; horizontal = m.horizontal; trig = m.trig; ris = m.ris };
            times = g.times;
          }

-- ---- the narrowed block

-- a wave whose bytes are accepted under a header
record Sound (w : Wave) : Type 0 where
  shape : Shape w
  fits : Fits w
  good : Good (length (encode w)) w
  most : length (encode w) ≤ 16777216

module _ (s : List ℕ) (b : Bytes s) (e : refusal s ≡ 0) where
  bound : length (payload s) ≤ 16777216
  bound = omega (arith, length-payload s b e, (sized-opened s b e).most)

  sound_byte : Sound (opened s)
  sound_byte = record {
    shape = shape_opened s b e;
    fits = fits-opened s b e;
    good = subst (λ (p : List ℕ). Good (length p) (opened s)) (sym (cover s b e)) (good-opened s b e);
    most = subst (λ (p : List ℕ). length p ≤ 16777216) (sym (cover s b e)) bound;
  }

  module _ (word : comm_type (opened s).head ≡ 1) where
    -- the bytes that there are less are those of the two arrays that are written
    pub shorter : length (encode (narrowed (opened s))) + ((narrowed (opened s)).head 60 + (narrowed (opened s)).head 64) ≡ length (payload s)
    shorter =
        go (halved w (shape_opened s b e) (fits-opened s b e) word) (good-opened s b e).tile.sum
        (length-encode (narrowed w) (shape_narrowed w (shape_opened s b e)) (fits-narrowed w (shape_opened s b e) (fits-opened s b e) word))
      where
        w : Wave
        w = opened s

        go : ((narrowed w).head 60 * 2 ≡ w.head 60) × ((narrowed w).head 64 * 2 ≡ w.head 64) → total (lengths_of w.head) ≡ length (payload s)
            → length (encode (narrowed w)) ≡ total (lengths_of (narrowed w).head) → length (encode (narrowed w)) + ((narrowed w).head 60 + (narrowed w).head 64) ≡ length (payload s)
        go m t l = unfold narrowed in omega arith

    sound-word : finite (widened (gain (opened s).head)) ≡ true → Sound (narrowed (opened s))
    sound-word fin = record {
      shape = shape_narrowed (opened s) (shape_opened s b e);
      fits = fits-narrowed (opened s) (shape_opened s b e) (fits-opened s b e) word;
      good = good-narrowed (opened s) (shape_opened s b e) (fits-opened s b e) word (length (payload s)) (good-opened s b e) fin;
      most = omega (arith, shorter, bound);
    }

  sound : Gained (opened s).head → Sound (narrow (opened s))
  unfolding narrow
  sound q = go (comm_type (opened s).head) refl (good-opened s b e).kind q
    where
      go : (t : ℕ) → comm_type (opened s).head ≡ t → comm_type (opened s).head ≤ 1 → Gained (opened s).head → Sound (narrow_by t (opened s))
      go zero k l q = sound_byte
      go (suc zero) k l (inl z) = absurd (omega arith)
      go (suc zero) k l (inr fin) = sound-word k fin
      go (suc (suc t)) k l q = absurd (omega arith)

  -- accepted, and read as the narrowed wave
  pub narrow-read : Gained (opened s).head → (refusal (narrow_bytes s) ≡ 0) × (opened (narrow_bytes s) ≡ narrow (opened s))
  unfolding narrow_bytes
  narrow-read q =
      let z : Sound (narrow (opened s)) = sound q in
      accepted (narrow (opened s)) z.shape z.fits z.good (omega (arith, z.good.tile.descriptor, z.good.tile.sum)) z.most

  pub narrow-bytes : Bytes (narrow_bytes s)
  unfolding narrow_bytes narrow
  narrow-bytes = let t : ℕ = comm_type (opened s).head in below-framed (encode (narrow_by t (opened s))) (below-encode (narrow_by t (opened s)) (go t refl (good-opened s b e).kind))
    where
      go : (t : ℕ) → comm_type (opened s).head ≡ t → comm_type (opened s).head ≤ 1 → Fits (narrow_by t (opened s))
      go zero k l = fits-opened s b e
      go (suc zero) k l = fits-narrowed (opened s) (shape_opened s b e) (fits-opened s b e) k
      go (suc (suc t)) k l = absurd (omega arith)

  -- its payload is no longer than the block's, and its header at most six bytes longer
  payload_shorter : length (encode (narrow (opened s))) ≤ length (payload s)
  unfolding narrow
  payload_shorter = go (comm_type (opened s).head) refl (good-opened s b e).kind
    where
      go : (t : ℕ) → comm_type (opened s).head ≡ t → comm_type (opened s).head ≤ 1 → length (encode (narrow_by t (opened s))) ≤ length (payload s)
      go zero k l = le_of_eq (ap length (cover s b e))
      go (suc zero) k l = omega (arith, shorter k)
      go (suc (suc t)) k l = absurd (omega arith)

  narrow-length : length (narrow_bytes s) ≤ 11 + length (payload s)
  unfolding narrow_bytes
  narrow-length = omega (arith, length-framed (encode (narrow (opened s))), payload_shorter)

  narrow_short : length (narrow_bytes s) ≤ length s + 6
  narrow_short = omega (arith, narrow-length, length-payload s b e, payload_there s b e, start-opened s b e)

  -- its length fits 32 bits
  pub length-fits : length (narrow_bytes s) < 4294967296
  length-fits = omega (arith, narrow-length, bound)

  -- a BYTE block is rewritten with a `#9` header and no new line
  pub byte_rewritten : comm_type (opened s).head ≡ 0 → narrow_bytes s ≡ framed (payload s)
  unfolding narrow_bytes narrow
  byte_rewritten z = ap (λ (t : ℕ). framed (encode (narrow_by t (opened s)))) z ∙ ap framed (cover s b e)

-- the same payload under two accepted headers is narrowed to the same bytes, or refused by the same number
pub same-narrow : (s t : List ℕ) → SameAnswers s t → (n : ℕ) → (narrow_refusal t n ≡ narrow_refusal s n) × (narrow_bytes t ≡ narrow_bytes s)
unfolding narrow_bytes
same-narrow s t e n = (
  narrow-number t n
      ∙ (λ i. or_else (e.same_number i) (cond (eqb (comm_type (e.same-wave i).head) 0 || finite (widened (gain (e.same-wave i).head))) (cond (leb (length (framed (encode (narrow (e.same-wave i))))) n) 0 13) 19))
      ∙ sym (narrow-number s n),
  ap (λ (w : Wave). framed (encode (narrow w))) e.same-wave,
)

-- the rules before it do not give 13
before_13 : (s : List ℕ) → before_room s ≡ 13 → ⊥
unfolding refusal rules inner
before_13 s =
    or_else_without 13 (refusal s) (cond (eqb (comm_type (opened s).head) 0 || finite (widened (gain (opened s).head))) 0 19)
    (first_without 13 (rules s) (omega arith) (tt, (tt, (tt, (tt, (tt, (tt, (tt, (tt, (tt, tt))))))))))
    (last (eqb (comm_type (opened s).head) 0 || finite (widened (gain (opened s).head))))
  where
    last : (t : Bool) → ◌≡◌ {A = ℕ} (cond t 0 19) 13 → ⊥
    last true e = omega (arith, e)
    last false e = omega (arith, e)

-- six bytes more than the block's are room enough: the number is that of the rules before 13, and never 13
pub room_enough : (s : List ℕ) → Bytes s → (n : ℕ) → length s + 6 ≤ n → (narrow_refusal s n ≡ before_room s) × (narrow_refusal s n ≡ 13 → ⊥)
room_enough s b n h = let e : narrow_refusal s n ≡ before_room s = narrow-room s n ∙ go (refusal s) refl in (e, λ z. before_13 s (sym e ∙ z))
  where
    go : (p : ℕ) → refusal s ≡ p → or_else (before_room s) (cond (leb (length (narrow_bytes s)) n) 0 13) ≡ before_room s
    go zero e = ap (λ (t : Bool). or_else (before_room s) (cond t 0 13)) (le-leb (length (narrow_bytes s)) n (omega (arith, narrow_short s b e))) ∙ or_alone (before_room s)
    go (suc p) e = rw e

pub narrow_accepted : (s : List ℕ) → Bytes s → (n : ℕ) → narrow_refusal s n ≡ 0 → (refusal (narrow_bytes s) ≡ 0) × (opened (narrow_bytes s) ≡ narrow (opened s))
narrow_accepted s b n e = let t : NarrowTaken s n = narrow-says s n e in narrow-read s b t.block t.gains
