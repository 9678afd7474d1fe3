-- One cut by itself: with an SP of 0 as 1, and the c that it answered as NP, it keeps the same points and writes the same bytes (`stands-alone`).
use mathlib.Core.Path.{◌≡◌, refl, sym, ap, ap₂, ◌∙◌, subst}
use mathlib.Core.Logic.{◌⊎◌, inl, inr, ⊎_elim}
use Prim.Native.Nat.{ℕ, ◌+◌, ◌*◌, ◌≤◌, ◌<◌}
use native.Mathlib.Omega.{arith}
use mathlib.Core.List.{List, [], ◌∷◌, map, flatten}
use lib.ListN.{length}
use Rattle.rules.specs.Numbers.{Bytes, up_from}
use Rattle.rules.specs.Wave.{Wave, size_of, segments, points, sparsing, first_point, segment_index, subarray_count, encode, framed}
use Rattle.rules.specs.Rules.{opened}
use Rattle.rules.specs.Cut.{Setup, step, thinned, limited, only, kept, count, changed, or_else, one_if, cut, cut_bytes, cut_refusal}
use Rattle.rules.proofs.Rows.{Rows, Shape, map_rows, only-rows}
use Rattle.rules.proofs.Thin.{prefix_limited, limited_prefix, count_pos, count_kept}
use Rattle.rules.proofs.Cuts.{Taken, kept_nil}
use Rattle.rules.proofs.Opened.{shape_opened}
use Rattle.rules.proofs.Demands.{Allowed, CutTaken, cut-says, OneCut, cut_stands}
use Rattle.chains.specs.Chain.{as_one, uncut}
use Rattle.chains.proofs.Groups.{uncut-one}

-- the setup s of a cut that answered c, by itself
abbrev itself : Setup → ℕ → Setup
itself s c = record { sp = step s; np = c; fp = s.fp; sn = s.sn }

step_itself : (s : Setup) (c : ℕ) → step (itself s c) ≡ step s
step_itself s c = omega arith

kept_itself : {A : Type 0} (s : Setup) (c : ℕ) (xs : List A) → 0 < c → length (kept s xs) ≡ c → kept (itself s c) xs ≡ kept s xs
unfolding kept
kept_itself {A} s c xs h l =
    ap₂ {C = List A} (λ n k. limited n (thinned k s.fp xs)) (sym l) (step_itself s c)
    ∙ limited_prefix (kept s xs) (thinned (step s) s.fp xs) (omega arith) (prefix_limited s.np (thinned (step s) s.fp xs))

module _ (s : Setup) (m : ℕ) (h : s.fp < m) where
  row_itself : (r : List ℕ) → (length r ≡ m) ⊎ (length r ≡ 0) → kept (itself s (count s m)) r ≡ kept s r
  row_itself r (inl e) = kept_itself s (count s m) r (count_pos s m h) (count_kept s r ∙ ap (count s) e)
  row_itself [] (inr e) = kept_nil (itself s (count s m)) ∙ sym (kept_nil s)
  row_itself (x ∷ r) (inr e) = absurd (omega arith)

  table_itself : (g k : ℕ) (t : List (List ℕ)) → (k ≡ m) ⊎ (k ≡ 0) → Rows g k t → s.sn ≤ g → map (kept (itself s (count s m))) (only s.sn t) ≡ map (kept s) (only s.sn t)
  table_itself g k t d e l =
      map_rows (kept (itself s (count s m))) (kept s) (one_if s.sn g) k (only s.sn t) (only-rows s.sn g k t l e)
      (λ r q. row_itself r (⊎_elim (λ z. inl (q ∙ z)) (λ z. inr (q ∙ z)) d))

  count_itself : count (itself s (count s m)) m ≡ count s m
  unfolding count
  count_itself = ap length (kept_itself s (count s m) (up_from 0 m) (count_pos s m h) refl)

cut_itself : (o : ℕ) (s : Setup) (w : Wave) → Shape w → Taken s w.head → cut o (itself s (count s (points w.head))) w ≡ cut o s w
unfolding cut
cut_itself o s w sh ta =
    let h : ℕ → ℕ = w.head in
    let m : ℕ = points h in
    let trig : List (List ℕ) = only s.sn w.trig in
    let e1 = table_itself s m ta.point (segments h) m w.one (inl refl) sh.one ta.segment in
    let e2 = table_itself s m ta.point (segments h) sh.two.wide w.two sh.two.full sh.two.rows ta.segment in
    λ i. record {
      head = changed
          ((34, o)
          ∷ (48, length (flatten trig) * 8)
          ∷ (60, length (flatten (e1 i)) * size_of h)
          ∷ (64, length (flatten (e2 i)) * size_of h)
          ∷ (116, length (flatten (e1 i)))
          ∷ (132, first_point h + sparsing h * s.fp)
          ∷ (136, sparsing h * step_itself s (count s m) i)
          ∷ (140, or_else (segment_index h) s.sn)
          ∷ (144, one_if s.sn (subarray_count h))
          ∷ [])
          h;
      text = w.text;
      trig = trig;
      ris = w.ris;
      one = e1 i;
      two = e2 i;
    }

-- an accepted cut c, which answers m
module _ (s : List ℕ) (b : Bytes s) (o : ℕ) (c : Setup) (n : ℕ) (e : cut_refusal o c s n ≡ 0) where
  abbrev m : ℕ
  m = count c (points (opened s).head)

  t : CutTaken s o c n
  t = cut-says s o c n e

  same_bytes : cut_bytes o (itself c m) s ≡ cut_bytes o c s
  unfolding cut_bytes
  same_bytes = ap (λ (w : Wave). framed (encode w)) (cut_itself o c (opened s) (shape_opened s b t.block) t.allows.taken)

  same_count : count (itself c m) (points (opened s).head) ≡ m
  same_count = count_itself c (points (opened s).head) t.allows.taken.point

  allowed : Allowed o (itself c m) (opened s).head
  allowed = record {
    order = t.allows.order;
    taken = record { segment = t.allows.taken.segment; point = t.allows.taken.point };
    sparse = subst (λ (k : ℕ). sparsing (opened s).head * k ≤ 268435455) (sym (step_itself c m)) t.allows.sparse;
  }

  itself_stands : OneCut s o (itself c m) (cut_bytes o c s) m
  itself_stands = cut_stands s b t.block o (itself c m) allowed (cut_bytes o c s) same_bytes same_count

  -- by itself it is the cut with nothing cut before it
  pub stands-alone : OneCut s o (as_one uncut (c, m)).0 (cut_bytes o c s) m
  stands-alone = subst (λ (d : Setup × ℕ). OneCut s o d.0 (cut_bytes o c s) m) (sym (uncut-one (c, m))) itself_stands
