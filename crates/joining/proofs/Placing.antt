-- For the writer: the joined payload is the first part's descriptor with its fields changed, the user text, and the parts' own bytes by index (`payload-joined`).
use mathlib.Core.Path.{◌≡◌, refl, sym, ap, ap₂, ◌∙◌}
use Prim.Native.Nat.{ℕ, ◌+◌, ◌-◌}
use native.Mathlib.Omega.{arith}
use mathlib.Core.List.{List, [], ◌∷◌, ◌++◌, map, flatten, map-map, append_assoc, append-nil}
use lib.ListN.{length, get_or}
use Rattle.rules.specs.Numbers.{Bytes, all_bytes, bytes, up_from}
use Rattle.rules.specs.Template.{template, laid}
use Rattle.rules.specs.Wave.{Wave, order_of, size_of, parts, wave_of, decode, written, encode}
use Rattle.rules.specs.Rules.{payload, refusal, opened}
use Rattle.rules.proofs.Waves.{written-decode}
use Rattle.rules.proofs.Opened.{ruled_opened}
use Rattle.joining.specs.Join.{part_at, by_index, joined}
use Rattle.joining.proofs.Lists.{Every, map_every, every_mapped, Every-upFrom, flatten_append}
use Rattle.joining.proofs.Index.{Within, every_at_index}
use Rattle.joining.proofs.Says.{Together}
use Rattle.joining.proofs.Joined.{lead, size-alike}
use Rattle.joining.proofs.Reading.{waves_of, wave-at, part_of}

-- ---- the bytes that the parts give

-- what a block holds of the j-th of the ten lengths
abbrev pub stretch : ℕ → List ℕ → List ℕ
stretch j p = get_or (parts (opened p).head (payload p)) j []

module _ (p : List ℕ) (b : Bytes p) (e : refusal p ≡ 0) where
  stretches : (j : ℕ) → get_or (written (opened p)) j [] ≡ stretch j p
  unfolding opened decode wave_of
  stretches j = ap (λ (ps : List (List ℕ)). get_or ps j []) (written-decode (payload p) (ruled_opened p b e))

  trig_stretch : all_bytes (order_of (opened p).head) 8 (flatten (opened p).trig) ≡ stretch 3 p
  unfolding written
  trig_stretch = stretches 3

  ris_stretch : all_bytes (order_of (opened p).head) 8 (opened p).ris ≡ stretch 4 p
  unfolding written
  ris_stretch = stretches 4

  one_stretch : all_bytes (order_of (opened p).head) (size_of (opened p).head) (flatten (opened p).one) ≡ stretch 6 p
  unfolding written
  one_stretch = stretches 6

  two_stretch : all_bytes (order_of (opened p).head) (size_of (opened p).head) (flatten (opened p).two) ≡ stretch 7 p
  unfolding written
  two_stretch = stretches 7

-- the bytes of tables laid one after another
bytes_append : (o w : ℕ) (xs ys : List ℕ) → all_bytes o w (xs ++ ys) ≡ all_bytes o w xs ++ all_bytes o w ys
unfolding flatten
bytes_append o w [] ys = refl
bytes_append o w (x ∷ xs) ys = ap {B = List ℕ} (λ r. bytes o w x ++ r) (bytes_append o w xs ys) ∙ sym (append_assoc (bytes o w x) (all_bytes o w xs) (all_bytes o w ys))

bytes_tables : (o w : ℕ) (f : Wave → List (List ℕ)) (ws : List Wave) → all_bytes o w (flatten (flatten (map f ws))) ≡ flatten (map (λ v. all_bytes o w (flatten (f v))) ws)
unfolding flatten
bytes_tables o w f [] = refl
bytes_tables o w f (v ∷ ws) =
    ap (all_bytes o w) (flatten_append (f v) (flatten (map f ws))) ∙ bytes_append o w (flatten (f v)) (flatten (flatten (map f ws)))
    ∙ ap {B = List ℕ} (λ r. all_bytes o w (flatten (f v)) ++ r) (bytes_tables o w f ws)

module _ (ps : List (List ℕ)) (b : Every Bytes ps) (j : Together ps) where
  -- a table's bytes are the parts' own
  own_bytes : (w n : ℕ) (f : Wave → List (List ℕ)) → ((k : ℕ) → Within 1 (length ps) k → all_bytes (order_of (opened (part_at 1 ps)).head) w (flatten (f (opened (part_at k ps)))) ≡ stretch n (part_at k ps))
      → all_bytes (order_of (opened (part_at 1 ps)).head) w (flatten (flatten (map f (waves_of ps)))) ≡ flatten (map (stretch n) (by_index ps))
  own_bytes w n f h =
      let o : ℕ = order_of (opened (part_at 1 ps)).head in
      bytes_tables o w f (waves_of ps)
      ∙ ap (flatten {A = ℕ}) (map-map (λ v. all_bytes o w (flatten (f v))) opened (by_index ps)
      ∙ map_every (λ p. all_bytes o w (flatten (f (opened p)))) (stretch n) (by_index ps) (unfold by_index in
      every_mapped (λ p. all_bytes o w (flatten (f (opened p))) ≡ stretch n p) (λ k. part_at k ps) (up_from 1 (length ps))
      (Every-upFrom (λ k. all_bytes o w (flatten (f (opened (part_at k ps)))) ≡ stretch n (part_at k ps)) 1 (length ps) (λ k l m. h k (l, m)))))

  module _ (k : ℕ) (w : Within 1 (length ps) k) where
    at-bytes : Bytes (part_at k ps)
    at-bytes = every_at_index Bytes k ps (j.once k w.0 w.1) b

    at-good : refusal (part_at k ps) ≡ 0
    at-good = every_at_index (λ (p : List ℕ). refusal p ≡ 0) k ps (j.once k w.0 w.1) j.good

    order_same : order_of (opened (part_at 1 ps)).head ≡ order_of (opened (part_at k ps)).head
    order_same = sym ((part_of ps b j k w.0 w.1).head 34 refl)

    size_same : size_of (opened (part_at 1 ps)).head ≡ size_of (opened (part_at k ps)).head
    size_same = sym (size-alike (opened (part_at 1 ps)) (opened (part_at k ps)) (part_of ps b j k w.0 w.1))

  pub payload-joined : encode (joined (waves_of ps)) ≡
      laid (order_of (opened (part_at 1 ps)).head) template (joined (waves_of ps)).head
      ++ ((opened (part_at 1 ps)).text
      ++ (flatten (map (stretch 3) (by_index ps))
      ++ (stretch 4 (part_at 1 ps)
      ++ (flatten (map (stretch 6) (by_index ps)) ++ flatten (map (stretch 7) (by_index ps))))))
  unfolding encode written flatten joined
  payload-joined =
      let q : Wave = opened (part_at 1 ps) in
      let o : ℕ = order_of q.head in
      let z : ℕ = size_of q.head in
      let f : Within 1 (length ps) 1 = (omega arith, omega (arith, j.some)) in
      let e : lead (waves_of ps) ≡ q = wave-at ps 0 j.some in
      let t : all_bytes o 8 (flatten (flatten (map (λ (v : Wave). v.trig) (waves_of ps)))) ≡ flatten (map (stretch 3) (by_index ps)) =
      own_bytes 8 3 (λ (v : Wave). v.trig) (λ k w. ap (λ (r : ℕ). all_bytes r 8 (flatten (opened (part_at k ps)).trig)) (order_same k w) ∙ trig_stretch (part_at k ps) (at-bytes k w) (at-good k w)) in
      let r : all_bytes o 8 q.ris ≡ stretch 4 (part_at 1 ps) = ris_stretch (part_at 1 ps) (at-bytes 1 f) (at-good 1 f) in
      let x : all_bytes o z (flatten (flatten (map (λ (v : Wave). v.one) (waves_of ps)))) ≡ flatten (map (stretch 6) (by_index ps)) =
      own_bytes z 6 (λ (v : Wave). v.one) (λ k w. ap₂ {C = List ℕ} (λ r y. all_bytes r y (flatten (opened (part_at k ps)).one)) (order_same k w) (size_same k w) ∙ one_stretch (part_at k ps) (at-bytes k w) (at-good k w)) in
      let y : all_bytes o z (flatten (flatten (map (λ (v : Wave). v.two) (waves_of ps)))) ≡ flatten (map (stretch 7) (by_index ps)) =
      own_bytes z 7 (λ (v : Wave). v.two) (λ k w. ap₂ {C = List ℕ} (λ r y. all_bytes r y (flatten (opened (part_at k ps)).two)) (order_same k w) (size_same k w) ∙ two_stretch (part_at k ps) (at-bytes k w) (at-good k w)) in
      ap (λ (v : Wave).
      laid (order_of v.head) template (joined (waves_of ps)).head
      ++ (v.text
      ++ (all_bytes (order_of v.head) 8 (flatten (flatten (map (λ (u : Wave). u.trig) (waves_of ps))))
      ++ (all_bytes (order_of v.head) 8 v.ris
      ++ (all_bytes (order_of v.head) (size_of v.head) (flatten (flatten (map (λ (u : Wave). u.one) (waves_of ps))))
      ++ (all_bytes (order_of v.head) (size_of v.head) (flatten (flatten (map (λ (u : Wave). u.two) (waves_of ps)))) ++ [])))))) e
      ∙ λ i. laid o template (joined (waves_of ps)).head ++ (q.text ++ (t i ++ (r i ++ (x i ++ (append-nil (all_bytes o z (flatten (flatten (map (λ (v : Wave). v.two) (waves_of ps))))) ∙ y) i))))
