-- Cutting segment k out of an accepted join's block is cutting the part whose index is k (`cut-joined`).
use mathlib.Core.Path.{◌≡◌, refl, sym, ap, ap₂, ◌∙◌}
use mathlib.Core.Logic.{◌⊎◌, inl, inr}
use Prim.Native.Nat.{ℕ, zero, suc, ◌+◌, ◌*◌, ◌≤◌, ◌<◌, max}
use native.Mathlib.Omega.{arith}
use mathlib.Core.Bool.{Bool}
use mathlib.Core.List.{List, [], ◌∷◌, ◌++◌, map, flatten}
use lib.ListN.{length}
use lib.Seq.{take_all}
use lib.Dec.{leb, ltb}
use borrow.Author.Tests.{le-leb}
use Rattle.rules.specs.Numbers.{Bytes}
use Rattle.rules.specs.Wave.{Wave, size_of, segments, points, sparsing, ris_length, encode, framed}
use Rattle.rules.specs.Rules.{first, last_place, rules, refusal, opened}
use Rattle.rules.specs.Cut.{Setup, step, only, kept, instead, changed, changes, or_else, cut, cut_bytes, cut_rules, cut_refusal}
use Rattle.rules.proofs.Tests.{first_append}
use Rattle.rules.proofs.Rows.{Rows}
use Rattle.rules.proofs.Opened.{rules_numbered}
use Rattle.joining.specs.Join.{part_at, parts_in, join_changes, joined, joined_bytes, join_refusal}
use Rattle.joining.proofs.Lists.{Every, every_map, every_get_or, only_one, no_elements}
use Rattle.rules.proofs.Fields.{instead-out, instead-same}
use Rattle.joining.proofs.Parts.{parts-bytes}
use Rattle.joining.proofs.Index.{Within, every_at_index, index_at}
use Rattle.joining.proofs.Says.{Joins, join_says}
use Rattle.joining.proofs.Joined.{Part, nth, lead, two_wide, trig_wide, one_row, two_row, trig_row, size-alike, points-alike, points-joined}
use Rattle.joining.proofs.Reading.{waves_of, length_waves, wave-at, all-parts, some_waves, joined-read}
use Rattle.joining.proofs.Segments.{rows-count, part-nth, many_joined, ris-joined}

-- ---- the wave

-- the setup c for segment n alone
abbrev pub segment_by : Setup → ℕ → Setup
segment_by c n = record { sp = c.sp; np = c.np; fp = c.fp; sn = n }

pub only-first : (k : ℕ) (t : List (List ℕ)) → Rows 1 k t → only 1 t ≡ t
only-first k t r = take_all 1 t (omega (arith, rows-count 1 k t r))

module _ (ws : List Wave) (some : 1 ≤ length ws) (ps : Every (Part (lead ws)) ws) (i : ℕ) (l : i < length ws)
    (ris : (ris_length (lead ws).head ≡ 0) ⊎ (length ws ≡ 1)) (index : (nth ws i).head 140 ≡ suc i) where
  -- the table that part i gives
  own : (f : Wave → List (List ℕ)) (k : ℕ) → Every (λ w. Rows 1 k (f w)) ws → only (suc i) (flatten (map f ws)) ≡ only 1 (f (nth ws i))
  own f k h = only_one f ws (opened []) i (every_map (λ w r. rows-count 1 k (f w) r) ws h) l ∙ sym (only-first k (f (nth ws i)) (every_get_or (λ w. Rows 1 k (f w)) ws i (opened []) l h))

  ris_own : (lead ws).ris ≡ (nth ws i).ris
  ris_own = go ris
    where
      none : (w : Wave) → Part (lead ws) w → ris_length (lead ws).head ≡ 0 → w.ris ≡ []
      none w p e = no_elements w.ris (omega (arith, p.fits.ris-length, p.head 52 refl))

      go : (ris_length (lead ws).head ≡ 0) ⊎ (length ws ≡ 1) → (lead ws).ris ≡ (nth ws i).ris
      go (inl e) = none (lead ws) (part-nth ws some ps 0 some) e ∙ sym (none (nth ws i) (part-nth ws some ps i l) e)
      go (inr e) = let z : 0 ≡ i = omega arith in ap (λ (n : ℕ). (nth ws n).ris) z

  pub cut-segment : (o : ℕ) (c : Setup) → cut o (segment_by c (suc i)) (joined ws) ≡ cut o (segment_by c 1) (nth ws i)
  unfolding cut joined kept
  cut-segment o c =
      let q : Wave = lead ws in
      let w : Wave = nth ws i in
      let p : Part q w = part-nth ws some ps i l in
      let t : only (suc i) (joined ws).trig ≡ only 1 w.trig = own (λ (v : Wave). v.trig) (trig_wide q) (every_map (trig_row q) ws ps) in
      let x : map (kept c) (only (suc i) (joined ws).one) ≡ map (kept c) (only 1 w.one) = ap (map (kept c)) (own (λ (v : Wave). v.one) (points q.head) (every_map (one_row q) ws ps)) in
      let y : map (kept c) (only (suc i) (joined ws).two) ≡ map (kept c) (only 1 w.two) = ap (map (kept c)) (own (λ (v : Wave). v.two) (two_wide q) (every_map (two_row q) ws ps)) in
      let z : size_of q.head ≡ size_of w.head = sym (size-alike q w p) in
      let f : q.head 132 + max 1 (q.head 136) * c.fp ≡ w.head 132 + max 1 (w.head 136) * c.fp = ap₂ {C = ℕ} (λ a b. a + max 1 b * c.fp) (sym (p.head 132 refl)) (sym (p.head 136 refl)) in
      let s : max 1 (q.head 136) * step c ≡ max 1 (w.head 136) * step c = ap (λ (b : ℕ). max 1 b * step c) (sym (p.head 136 refl)) in
      let n : suc i ≡ or_else (w.head 140) 1 = ap (λ (b : ℕ). or_else b 1) (sym index) in
      let js : List (ℕ × ℕ) = join_changes (length ws) q.head (joined ws).trig (joined ws).one (joined ws).two in
      let ds : List (ℕ × ℕ) = changes o (segment_by c 1) w.head (only 1 w.trig) (map (kept c) (only 1 w.one)) (map (kept c) (only 1 w.two)) in
      let e : changes o (segment_by c (suc i)) (joined ws).head (only (suc i) (joined ws).trig) (map (kept c) (only (suc i) (joined ws).one)) (map (kept c) (only (suc i) (joined ws).two)) ≡ ds =
      λ v. (34, o)
      ∷ (48, length (flatten (t v)) * 8)
      ∷ (60, length (flatten (x v)) * z v)
      ∷ (64, length (flatten (y v)) * z v)
      ∷ (116, length (flatten (x v)))
      ∷ (132, f v)
      ∷ (136, s v)
      ∷ (140, n v)
      ∷ (144, 1)
      ∷ [] in
      λ v. record {
        head = λ k.
            (ap (λ (es : List (ℕ × ℕ)). instead es k (changed js q.head k)) e ∙ instead-same ds k (changed js q.head k) (w.head k) (λ u.
            instead-out js k (q.head k) (u.1.0, (u.1.1.0, (u.1.1.1.0, (u.1.1.1.1.0, (u.1.1.1.1.1.1.1.0, (u.1.1.1.1.1.1.1.1.0, tt))))))
            ∙ sym (p.head k u.1.1.1.1.1.1.1.0))) v;
        text = sym p.text v;
        trig = t v;
        ris = ris_own v;
        one = x v;
        two = y v;
      }

-- ---- the blocks

-- a cut with SN k of the block t is the cut with SN 1 of the block p: the same number, and the same bytes
pub record CutIs (t : List ℕ) (k : ℕ) (p : List ℕ) : Type 0 where
  pub same_number : (o : ℕ) (c : Setup) (room : ℕ) → cut_refusal o (segment_by c k) t room ≡ cut_refusal o (segment_by c 1) p room
  pub same_bytes : (o : ℕ) (c : Setup) → cut_bytes o (segment_by c k) t ≡ cut_bytes o (segment_by c 1) p

accepted_cut : (o : ℕ) (c : Setup) (s : List ℕ) (room : ℕ) → refusal s ≡ 0
    → cut_refusal o c s room ≡ first (cut_rules o c (opened s).head ++ ((13, leb (length (cut_bytes o c s)) room ∷ []) ∷ []))
unfolding cut_refusal refusal
accepted_cut o c s room e =
    let last : List (ℕ × List Bool) = cut_rules o c (opened s).head ++ ((13, leb (length (cut_bytes o c s)) room ∷ []) ∷ []) in
    first_append (rules s) last (rules_numbered s) ∙ ap (λ (m : ℕ). or_else m (first last)) e

module _ (ps : List (List ℕ)) (b : Every Bytes ps) (j : Joins ps) where
  cut-nth : (i : ℕ) → i < length ps → CutIs (joined_bytes ps) (suc i) (part_at (suc i) ps)
  cut-nth i l = record { same_number = number; same_bytes = bytes }
    where
      ws : List Wave
      ws = waves_of ps

      t : List ℕ
      t = joined_bytes ps

      p : List ℕ
      p = part_at (suc i) ps

      some : 1 ≤ length ws
      some = some_waves ps b j.together

      all : Every (Part (lead ws)) ws
      all = all-parts ps b j.together

      m : i < length ws
      m = omega (arith, length_waves ps)

      read : opened t ≡ joined ws
      read = joined-read ps b j

      part : nth ws i ≡ opened p
      part = wave-at ps i l

      good : refusal p ≡ 0
      good = every_at_index (λ (x : List ℕ). refusal x ≡ 0) (suc i) ps (j.together.once (suc i) (omega arith) (omega arith)) j.together.good

      index : (nth ws i).head 140 ≡ suc i
      index = ap (λ (w : Wave). w.head 140) part ∙ index_at (suc i) ps (j.together.once (suc i) (omega arith) (omega arith))

      bytes : (o : ℕ) (c : Setup) → cut_bytes o (segment_by c (suc i)) t ≡ cut_bytes o (segment_by c 1) p
      bytes o c = unfold cut_bytes in
          ap (λ (w : Wave). framed (encode (cut o (segment_by c (suc i)) w))) read
          ∙ ap (λ (w : Wave). framed (encode w)) (cut-segment ws some all i m (ris-joined ps b j) index o c ∙ ap (cut o (segment_by c 1)) part)

      number : (o : ℕ) (c : Setup) (room : ℕ) → cut_refusal o (segment_by c (suc i)) t room ≡ cut_refusal o (segment_by c 1) p room
      number o c room = accepted_cut o (segment_by c (suc i)) t room j.block ∙ middle ∙ sym (accepted_cut o (segment_by c 1) p room good)
        where
          q : Part (lead ws) (nth ws i)
          q = part-nth ws some all i m

          here : leb (suc i) (segments (opened t).head) ≡ leb 1 (segments (opened p).head)
          here =
              le-leb (suc i) (segments (opened t).head) (omega (arith, ap (λ (w : Wave). segments w.head) read ∙ many_joined ps b j))
              ∙ sym (le-leb 1 (segments (opened p).head) (omega arith))

          long : points (opened t).head ≡ points (opened p).head
          long = ap (λ (w : Wave). points w.head) read ∙ points-joined ws some all ∙ sym (points-alike (lead ws) (nth ws i) q) ∙ ap (λ (w : Wave). points w.head) part

          thin : sparsing (opened t).head ≡ sparsing (opened p).head
          thin = ap (λ (w : Wave). sparsing w.head) read ∙ unfold joined in ap (max 1) (sym (q.head 136 refl)) ∙ ap (λ (w : Wave). sparsing w.head) part

          middle : first (cut_rules o (segment_by c (suc i)) (opened t).head ++ ((13, leb (length (cut_bytes o (segment_by c (suc i)) t)) room ∷ []) ∷ []))
              ≡ first (cut_rules o (segment_by c 1) (opened p).head ++ ((13, leb (length (cut_bytes o (segment_by c 1) p)) room ∷ []) ∷ []))
          middle = unfold cut_rules in
              λ v. first ((9, leb o 1 ∷ []) ∷ (10, here v ∷ []) ∷ (11, ltb c.fp (long v) ∷ []) ∷ (12, leb (thin v * step c) last_place ∷ [])
              ∷ (13, leb (length (bytes o c v)) room ∷ []) ∷ [])

  pub cut_at : (k : ℕ) → Within 1 (length ps) k → CutIs (joined_bytes ps) k (part_at k ps)
  cut_at zero h = absurd (omega arith)
  cut_at (suc i) h = cut-nth i (omega arith)

pub cut-joined : (s : List ℕ) → Bytes s → (room : ℕ) → join_refusal s room ≡ 0 → (k : ℕ) → Within 1 (length (parts_in s)) k → CutIs (joined_bytes (parts_in s)) k (part_at k (parts_in s))
cut-joined s b room e = cut_at (parts_in s) (parts-bytes s b) (join_says s room e).0
