-- Parts that belong together are sound by the first's order and length (`placeable`), and rows by its layout are the tables of the joined block (`table-rows`).
use mathlib.Core.Path.{◌≡◌, refl, sym, ap, ap₂, ◌∙◌, subst}
use mathlib.Core.Logic.{◌⊎◌, inl, inr}
use Prim.Native.Nat.{ℕ, ◌+◌, ◌*◌, ◌/◌, ◌≤◌, ◌<◌}
use native.Mathlib.Omega.{arith}
use mathlib.Core.Bool.{true, false}
use mathlib.Core.List.{List, [], ◌∷◌, map, map-map}
use lib.ListN.{length, get_or, take, drop}
use lib.Dec.{eqb}
use lib.Ieee.{of_bits, of_fields}
use Rattle.rules.specs.Numbers.{Bytes, number, total, up_from, starts_from}
use Rattle.rules.specs.Template.{template, width_at, head_at}
use Rattle.rules.specs.Wave.{order_of, segments, trig_length, lengths_of, starts_of, wave_of, decode}
use Rattle.rules.specs.Rules.{payload_start, stated, payload, refusal, opened, finite64}
use Rattle.rules.proofs.Every.{every_at, every_row}
use Rattle.rules.proofs.Rows.{Rows, total-rows}
use Rattle.rules.proofs.Samples.{cell}
use Rattle.rules.proofs.Waves.{part}
use Rattle.rules.proofs.Slices.{field_is, part_there, trig-read}
use Rattle.rules.proofs.Parts.{part_end}
use Rattle.rules.proofs.Opened.{sized-opened, start-opened, payload_there, length-payload, ruled_opened, fits-opened, shape_opened, good-opened, head_there}
use Rattle.joining.specs.Join.{parts_in, part_at, by_index, common}
use Rattle.joining.proofs.Lists.{Every, every_map, every_both, every_get_or, map-up_from}
use Rattle.joining.proofs.Parts.{Ends, parts-bytes, parts-end}
use Rattle.joining.proofs.Index.{every_at_index}
use Rattle.joining.proofs.Says.{Together}
use Rattle.joining.proofs.Alike.{heads_alike}
use Rattle.joining.proofs.Placing.{stretch}
use Rattle.parts.specs.Parts.{Sound, Placeable, row_of}

-- ---- one good part

module _ (p : List ℕ) (b : Bytes p) (e : refusal p ≡ 0) where
  -- COMM_ORDER, by its byte, and a long of the descriptor
  pub long_there : (o k : ℕ) → o ≡ order_of (opened p).head → width_at template k ≡ 4 → number o (take 4 (drop (payload_start p + k) p)) ≡ (opened p).head k
  unfolding opened decode wave_of
  long_there o k q w =
      field_is o 4 (payload_start p) p k w ∙ ap (λ (x : ℕ). head_at x (payload_start p) p k) q
      ∙ ap (λ (h : ℕ → ℕ). h k) (head_there p b e)

  index_there : (o : ℕ) → o ≡ order_of (opened p).head → number o (take 4 (drop (payload_start p + 140) p)) ≡ (opened p).head 140
  unfolding template width_at
  index_there o q = long_there o 140 q refl

  pub stretch_there : (i : ℕ) → i < 10 → stretch i p ≡ row_of (get_or (starts_of (opened p).head) i 0) (get_or (lengths_of (opened p).head) i 0) p
  unfolding opened decode wave_of part
  stretch_there i l = part_there p (ruled_opened p b e) (payload_there p b e) i l

  pub stretch_ends : (i : ℕ) → i < 10 → get_or (starts_of (opened p).head) i 0 + get_or (lengths_of (opened p).head) i 0 ≤ stated p
  stretch_ends i l = omega (arith, part_end (length (payload p)) (opened p).head (good-opened p b e).tile i l, length-payload p b e)

  -- TRIGGER_TIME of the one segment, where TRIGTIME is there
  module _ (alone : segments (opened p).head ≡ 1) (there : 0 < trig_length (opened p).head) where
    pairs : Rows 1 2 (opened p).trig
    pairs = go (shape_opened p b e).trig.full
      where
        rows : (w : ℕ) → (shape_opened p b e).trig.wide ≡ w → Rows 1 w (opened p).trig
        rows w q = subst (λ (g : ℕ). Rows g w (opened p).trig) alone (subst (λ (x : ℕ). Rows (segments (opened p).head) x (opened p).trig) q (shape_opened p b e).trig.rows)

        go : ((shape_opened p b e).trig.wide ≡ 2) ⊎ ((shape_opened p b e).trig.wide ≡ 0) → Rows 1 2 (opened p).trig
        go (inl q) = rows 2 q
        go (inr q) = absurd (omega (arith, total-rows 1 0 (opened p).trig (rows 0 q), (fits-opened p b e).trig-length))

    pub trig-long : trig_length (opened p).head ≡ 16
    trig-long = omega (arith, total-rows 1 2 (opened p).trig pairs, (fits-opened p b e).trig-length)

    pub time_there : get_or (get_or (opened p).trig 0 []) 0 0 ≡ number (order_of (opened p).head) (row_of (get_or (starts_of (opened p).head) 3 0) 8 p)
    unfolding opened decode wave_of
    time_there =
        let h : ℕ → ℕ = (opened p).head in
        let from : ℕ = payload_start p + get_or (starts_of h) 3 0 in
        let x : from + (0 * 2 + 0) * 8 ≡ from = omega arith in
        cell (order_of h) 8 1 2 (trig_length h / 8) from (opened p).trig p pairs (trig-read p (ruled_opened p b e) (payload_there p b e)) 0 0 (omega arith) (omega arith)
        ∙ ap (λ (n : ℕ). number (order_of h) (take 8 (drop n p))) x

    pub time-finite : finite64 (get_or (get_or (opened p).trig 0 []) 0 0) ≡ true
    unfolding finite64 of_bits of_fields
    time-finite = every_at finite64 (get_or (opened p).trig 0 []) 0 0 (every_row finite64 (opened p).trig 0 (good-opened p b e).floats.trig) refl

-- ---- the layout of all

lengths_alike : (f g : ℕ → ℕ) → ((k : ℕ) → eqb k 140 ≡ false → f k ≡ g k) → lengths_of f ≡ lengths_of g
lengths_alike f g h = λ v. h 36 refl v ∷ h 40 refl v ∷ h 44 refl v ∷ h 48 refl v ∷ h 52 refl v ∷ h 56 refl v ∷ h 60 refl v ∷ h 64 refl v ∷ h 68 refl v ∷ h 72 refl v ∷ []

-- a part of those that belong together, beside the first of the slice
pub record Fellow (q p : List ℕ) : Type 0 where
  pub bytes : Bytes p
  pub good : refusal p ≡ 0
  pub ends : Ends p
  pub alike : common q ≡ common p

module _ (s : List ℕ) (b : Bytes s) (j : Together (parts_in s)) where
  -- the first part of the slice
  abbrev pub first_part : List ℕ
  first_part = get_or (parts_in s) 0 []

  pub fellows : Every (Fellow first_part) (parts_in s)
  fellows =
      every_both (λ p. Bytes p × (refusal p ≡ 0)) (λ p. Ends p × (common first_part ≡ common p)) (Fellow first_part) (λ p x y. record { bytes = x.0; good = x.1; ends = y.0; alike = y.1 }) (parts_in s)
      (every_both Bytes (λ p. refusal p ≡ 0) (λ p. Bytes p × (refusal p ≡ 0)) (λ p x y. (x, y)) (parts_in s) (parts-bytes s b) j.good)
      (every_both Ends (λ p. common first_part ≡ common p) (λ p. Ends p × (common first_part ≡ common p)) (λ p x y. (x, y)) (parts_in s) (parts-end s j.good) j.alike)

  own : Fellow first_part first_part
  own = every_get_or (Fellow first_part) (parts_in s) 0 [] j.some fellows

  pub first-bytes : Bytes first_part
  first-bytes = own.bytes

  pub first_good : refusal first_part ≡ 0
  first_good = own.good

  pub first_ends : Ends first_part
  first_ends = own.ends

  module _ (p : List ℕ) (f : Fellow first_part p) where
    pub heads : (k : ℕ) → eqb k 140 ≡ false → (opened p).head k ≡ (opened first_part).head k
    heads = heads_alike p first_part (sym f.alike) (fits-opened p f.bytes f.good) (fits-opened first_part own.bytes own.good)

    lengths : lengths_of (opened p).head ≡ lengths_of (opened first_part).head
    lengths = lengths_alike (opened p).head (opened first_part).head heads

    pub starts : starts_of (opened p).head ≡ starts_of (opened first_part).head
    unfolding starts_of
    starts = ap (starts_from 0) lengths

    stated_is : (r : List ℕ) → Bytes r → refusal r ≡ 0 → stated r ≡ total (lengths_of (opened r).head)
    stated_is r br er = sym (length-payload r br er) ∙ sym (good-opened r br er).tile.sum

    sound : Sound (order_of (opened first_part).head) (stated first_part) p
    sound =
        let start = start-opened p f.bytes f.good in
        let l : stated p ≡ stated first_part = stated_is p f.bytes f.good ∙ ap total lengths ∙ sym (stated_is first_part own.bytes own.good) in
        record {
          digit = (omega (arith, start.0), omega (arith, start.1));
          whole = omega (arith, f.ends);
          index = index_there p f.bytes f.good (order_of (opened first_part).head) (sym (heads 34 refl));
        }

    row_is : (i : ℕ) → i < 10 → row_of (get_or (starts_of (opened first_part).head) i 0) (get_or (lengths_of (opened first_part).head) i 0) p ≡ stretch i p
    row_is i l = sym (stretch_there p f.bytes f.good i l ∙ ap₂ {C = List ℕ} (λ x y. row_of (get_or x i 0) (get_or y i 0) p) starts lengths)

  pub placeable : Placeable (order_of (opened first_part).head) (stated first_part) s
  placeable = record { once = j.once; sound = every_map sound (parts_in s) fellows; wide = (sized-opened first_part first-bytes first_good).least }

  pub table-rows : (i : ℕ) → i < 10 → map (row_of (get_or (starts_of (opened first_part).head) i 0) (get_or (lengths_of (opened first_part).head) i 0)) (by_index (parts_in s)) ≡ map (stretch i) (by_index (parts_in s))
  unfolding by_index
  table-rows i l =
      let row : List ℕ → List ℕ = row_of (get_or (starts_of (opened first_part).head) i 0) (get_or (lengths_of (opened first_part).head) i 0) in
      map-map row (λ k. part_at k (parts_in s)) (up_from 1 (length (parts_in s)))
      ∙ map-up_from (λ k. row (part_at k (parts_in s))) (λ k. stretch i (part_at k (parts_in s))) 1 (length (parts_in s)) (λ k x y.
      every_at_index (λ p. row p ≡ stretch i p) k (parts_in s) (j.once k x y) (every_map (λ p f. row_is p f i l) (parts_in s) fellows))
      ∙ sym (map-map (stretch i) (λ k. part_at k (parts_in s)) (up_from 1 (length (parts_in s))))
