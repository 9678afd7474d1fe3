-- The front and the tables make the joined block (`whole`).
use mathlib.Core.Path.{◌≡◌, refl, sym, ap, ap₂, ◌∙◌}
use mathlib.Core.Logic.{◌⊎◌, inl, inr}
use Prim.Native.Nat.{ℕ, suc, ◌*◌, ◌/◌, ◌-◌, ◌≤◌, max}
use native.Mathlib.Omega.{arith}
use mathlib.Core.List.{List, [], ◌++◌, map, flatten, append_assoc, append-nil}
use lib.ListN.{length, get_or, length-append}
use Rattle.rules.specs.Numbers.{Bytes, up_from}
use Rattle.rules.specs.Template.{template, laid}
use Rattle.rules.specs.Wave.{Wave, order_of, size_of, points, framed}
use Rattle.rules.specs.Rules.{opened}
use Rattle.rules.specs.Cut.{changed}
use Rattle.rules.proofs.Rows.{total-rows}
use Rattle.copies.specs.Copies.{header}
use Rattle.heads.specs.Heads.{changes_by}
use Rattle.joining.specs.Join.{part_at, by_index, joined, joined_bytes, common, join_changes}
use Rattle.joining.proofs.Lists.{Every, no_elements}
use Rattle.rules.proofs.Fields.{Out, instead-out, agree}
use Rattle.joining.proofs.Index.{every_at_index}
use Rattle.joining.proofs.Says.{Together}
use Rattle.joining.proofs.Alike.{texts_alike}
use Rattle.joining.proofs.Joined.{Part, lead, trig_wide, two_wide, part-lead, one_row, two_row, trig_row, rows-one, rows-two, rows-trig}
use Rattle.joining.proofs.Reading.{waves_of, length_waves, wave-at, all-parts, some_waves}
use Rattle.joining.proofs.Breaks.{times, leads, joined_length, length-block}
use Rattle.joining.proofs.Placing.{stretch, payload-joined}
use Rattle.fronts.specs.Fronts.{changes_for}

-- seven lists, in two groups and in none
regroup : (a b c d e f g : List ℕ) → a ++ b ++ c ++ (d ++ e ++ f ++ g) ≡ a ++ (b ++ (c ++ (d ++ (e ++ (f ++ g)))))
regroup a b c d e f g =
    append_assoc (a ++ b) c (d ++ e ++ f ++ g) ∙ append_assoc a b (c ++ (d ++ e ++ f ++ g))
    ∙ ap (λ (r : List ℕ). a ++ (b ++ (c ++ r))) (append_assoc (d ++ e) f g ∙ append_assoc d e (f ++ g))

module _ (ps : List (List ℕ)) (b : Every Bytes ps) (j : Together ps) where
  abbrev lead-head : ℕ → ℕ
  lead-head = (opened (get_or ps 0 [])).head

  some : 1 ≤ length (waves_of ps)
  some = some_waves ps b j

  all : Every (Part (lead (waves_of ps))) (waves_of ps)
  all = all-parts ps b j

  own : Part (lead (waves_of ps)) (lead (waves_of ps))
  own = part-lead (waves_of ps) some all

  trig-size : length ps * lead-head 48 ≡ length (flatten (joined (waves_of ps)).trig) * 8
  trig-size =
      let w : Wave = lead (waves_of ps) in
      sym (times (waves_of ps) some all (joined (waves_of ps)).trig w.trig (length (waves_of ps)) (trig_wide w) 8 (w.head 48) (rows-trig (waves_of ps) some all) (trig_row w w own) own.fits.trig-length
      ∙ ap₂ {C = ℕ} (λ x y. x * y) (length_waves ps) (leads ps b j 48 refl))

  one_size : length ps * lead-head 60 ≡ length (flatten (joined (waves_of ps)).one) * size_of (lead (waves_of ps)).head
  one_size =
      let w : Wave = lead (waves_of ps) in
      sym (times (waves_of ps) some all (joined (waves_of ps)).one w.one (length (waves_of ps)) (points w.head) (size_of w.head) (w.head 60) (rows-one (waves_of ps) some all) (one_row w w own) own.fits.one-length
      ∙ ap₂ {C = ℕ} (λ x y. x * y) (length_waves ps) (leads ps b j 60 refl))

  two_size : length ps * lead-head 64 ≡ length (flatten (joined (waves_of ps)).two) * size_of (lead (waves_of ps)).head
  two_size =
      let w : Wave = lead (waves_of ps) in
      sym (times (waves_of ps) some all (joined (waves_of ps)).two w.two (length (waves_of ps)) (two_wide w) (size_of w.head) (w.head 64) (rows-two (waves_of ps) some all) (two_row w w own) own.fits.two-length
      ∙ ap₂ {C = ℕ} (λ x y. x * y) (length_waves ps) (leads ps b j 64 refl))

  count-size : length ps * points lead-head ≡ length (flatten (joined (waves_of ps)).one)
  count-size =
      let w : Wave = lead (waves_of ps) in
      sym (total-rows (length (waves_of ps)) (points w.head) (joined (waves_of ps)).one (rows-one (waves_of ps) some all)
      ∙ ap₂ {C = ℕ} (λ x y. x * y) (length_waves ps) (ap₂ {C = ℕ} (λ x y. x / max 1 y) (leads ps b j 116 refl) (leads ps b j 144 refl)))

  fields-joined : (k : ℕ) → changed (changes_by (lead-head 34) (changes_for (length ps) lead-head)) lead-head k ≡ (joined (waves_of ps)).head k
  fields-joined k = go trig-size one_size two_size count-size
    where
      go : length ps * lead-head 48 ≡ length (flatten (joined (waves_of ps)).trig) * 8 → length ps * lead-head 60 ≡ length (flatten (joined (waves_of ps)).one) * size_of (lead (waves_of ps)).head
          → length ps * lead-head 64 ≡ length (flatten (joined (waves_of ps)).two) * size_of (lead (waves_of ps)).head → length ps * points lead-head ≡ length (flatten (joined (waves_of ps)).one)
          → changed (changes_by (lead-head 34) (changes_for (length ps) lead-head)) lead-head k ≡ (joined (waves_of ps)).head k
      go t x y c = unfold joined in
          let cs : List (ℕ × ℕ) = changes_by (lead-head 34) (changes_for (length ps) lead-head) in
          agree (changed cs lead-head) (joined (waves_of ps)).head cs
          (sym (leads ps b j 34 refl), (t, (x, (y, (c, (sym (leads ps b j 132 refl), (sym (leads ps b j 136 refl), (refl, (sym (length_waves ps), tt)))))))))
          k (λ (o : Out k cs).
          instead-out cs k (lead-head k) o ∙ sym (leads ps b j k o.1.1.1.1.1.1.1.0)
          ∙ sym (instead-out (join_changes (length (waves_of ps)) (lead (waves_of ps)).head (joined (waves_of ps)).trig (joined (waves_of ps)).one (joined (waves_of ps)).two) k ((lead (waves_of ps)).head k)
          (o.1.0, (o.1.1.0, (o.1.1.1.0, (o.1.1.1.1.0, (o.1.1.1.1.1.1.1.0, (o.1.1.1.1.1.1.1.1.0, tt))))))))

  head-joined : laid (lead-head 34) template (changed (changes_by (lead-head 34) (changes_for (length ps) lead-head)) lead-head) ≡ laid (order_of (opened (part_at 1 ps)).head) template (joined (waves_of ps)).head
  head-joined =
      let o : lead-head 34 ≡ order_of (opened (part_at 1 ps)).head = sym (leads ps b j 34 refl) ∙ ap (λ (w : Wave). w.head 34) (wave-at ps 0 j.some) in
      λ i. laid (o i) template (λ k. fields-joined k i)

  text-joined : (opened (get_or ps 0 [])).text ≡ (opened (part_at 1 ps)).text
  text-joined =
      texts_alike (get_or ps 0 []) (part_at 1 ps) (every_at_index (λ r. common (get_or ps 0 []) ≡ common r) 1 ps (j.once 1 (omega arith) (omega (arith, j.some))) j.alike)

  -- RISTIME of all is that of the part with index 1, where there is one part or no RISTIME
  ris-first : (m : ℕ) → length ps ≡ suc m → (f : List ℕ → List ℕ) → flatten (map f (by_index ps)) ≡ f (part_at 1 ps) ++ flatten (map f (map (λ k. part_at k ps) (up_from 2 m)))
  unfolding by_index up_from flatten
  ris-first m e f = ap (λ (n : ℕ). flatten (map f (map (λ k. part_at k ps) (up_from 1 n)))) e

  ris-joined : (length (flatten (map (stretch 4) (by_index ps))) ≡ length ps * lead-head 52) → (lead-head 52 ≡ 0) ⊎ (length ps ≡ 1) → flatten (map (stretch 4) (by_index ps)) ≡ stretch 4 (part_at 1 ps)
  unfolding up_from flatten
  ris-joined l (inl z) =
      let m : ℕ = length ps - 1 in
      let e : length ps ≡ suc m = omega (arith, j.some) in
      let r : List ℕ = flatten (map (stretch 4) (map (λ k. part_at k ps) (up_from 2 m))) in
      let q : flatten (map (stretch 4) (by_index ps)) ≡ stretch 4 (part_at 1 ps) ++ r = ris-first m e (stretch 4) in
      let n : length (stretch 4 (part_at 1 ps) ++ r) ≡ 0 = sym (ap length q) ∙ l ∙ ap (λ (x : ℕ). length ps * x) z ∙ omega arith in
      q ∙ ap {B = List ℕ} (λ x. stretch 4 (part_at 1 ps) ++ x) (no_elements r (omega (arith, length-append (stretch 4 (part_at 1 ps)) r))) ∙ append-nil (stretch 4 (part_at 1 ps))
  ris-joined l (inr z) = ris-first 0 z (stretch 4) ∙ append-nil (stretch 4 (part_at 1 ps))

  pub whole : (total : ℕ) → total ≡ joined_length (length ps) lead-head → (length (flatten (map (stretch 4) (by_index ps))) ≡ length ps * lead-head 52) → (lead-head 52 ≡ 0) ⊎ (length ps ≡ 1)
      → header total ++ laid (lead-head 34) template (changed (changes_by (lead-head 34) (changes_for (length ps) lead-head)) lead-head) ++ (opened (get_or ps 0 [])).text
      ++ (flatten (map (stretch 3) (by_index ps)) ++ flatten (map (stretch 4) (by_index ps)) ++ flatten (map (stretch 6) (by_index ps)) ++ flatten (map (stretch 7) (by_index ps)))
      ≡ joined_bytes ps
  unfolding joined_bytes framed header
  whole total t l r =
      let t3 : List ℕ = flatten (map (stretch 3) (by_index ps)) in
      let t6 : List ℕ = flatten (map (stretch 6) (by_index ps)) in
      let t7 : List ℕ = flatten (map (stretch 7) (by_index ps)) in
      regroup (header total) (laid (lead-head 34) template (changed (changes_by (lead-head 34) (changes_for (length ps) lead-head)) lead-head)) (opened (get_or ps 0 [])).text t3 (flatten (map (stretch 4) (by_index ps))) t6 t7
      ∙ (λ i. header total ++ (head-joined i ++ (text-joined i ++ (t3 ++ (ris-joined l r i ++ (t6 ++ t7))))))
      ∙ ap₂ {C = List ℕ} (λ n x. header n ++ x) (t ∙ sym (length-block ps b j)) (sym (payload-joined ps b j))
