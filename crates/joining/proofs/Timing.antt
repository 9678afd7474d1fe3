-- The trigger times of a joined wave are those of its parts by index (`times_joined`); without TRIGTIME they are in order (`times_none`).
use mathlib.Core.Path.{◌≡◌, refl, sym, ap, ◌∙◌}
use Prim.Native.Nat.{ℕ, suc}
use native.Mathlib.Omega.{arith}
use mathlib.Core.Bool.{true, not, ◌&&◌}
use mathlib.Core.List.{List, [], ◌∷◌, ◌++◌, map, flatten, map-map}
use lib.ListN.{length, get_or}
use lib.Ieee.{binary64, of_bits, of_fields, lt}
use Rattle.rules.specs.Numbers.{Bytes}
use Rattle.rules.specs.Wave.{Wave, trig_length}
use Rattle.rules.specs.Rules.{trigger_times, ascending, opened}
use Rattle.rules.proofs.Rows.{Rows}
use Rattle.joining.specs.Join.{by_index, joined}
use Rattle.joining.proofs.Lists.{Every, every_map}
use Rattle.joining.proofs.Says.{Together}
use Rattle.joining.proofs.Joined.{lead, trig_wide, trig_row}
use Rattle.joining.proofs.Reading.{waves_of, all-parts}

-- the TRIGGER_TIME of a wave of one segment, and those of some parts by index
abbrev pub wave_time : Wave → ℕ
wave_time w = get_or (get_or w.trig 0 []) 0 0

abbrev pub times_of : List (List ℕ) → List ℕ
times_of ps = map (λ p. wave_time (opened p)) (by_index ps)

times_rows : (k : ℕ) (ws : List Wave) → Every (λ w. Rows 1 k w.trig) ws → trigger_times (flatten (map (λ (v : Wave). v.trig) ws)) ≡ map wave_time ws
unfolding flatten
times_rows k [] h = refl
times_rows k (w ∷ ws) h = go w.trig h.0 (times_rows k ws h.1)
  where
    go : (t : List (List ℕ)) → Rows 1 k t → trigger_times (flatten (map (λ (v : Wave). v.trig) ws)) ≡ map wave_time ws → trigger_times (t ++ flatten (map (λ (v : Wave). v.trig) ws)) ≡ get_or (get_or t 0 []) 0 0 ∷ map wave_time ws
    go [] e r = absurd (let z : 0 ≡ 1 = ap (length {A = ℕ}) e in omega arith)
    go (s ∷ []) e r = ap {B = List ℕ} (λ x. get_or s 0 0 ∷ x) r
    go (s ∷ t ∷ u) e r = absurd (let z : suc (suc (length (map length u))) ≡ 1 = ap (length {A = ℕ}) e in omega arith)

zeros_ascend : {A : Type 0} (f : A → ℕ) (xs : List A) → Every (λ x. f x ≡ 0) xs → ascending (map f xs) ≡ true
unfolding lt of_bits of_fields
zeros_ascend f [] h = refl
zeros_ascend f (x ∷ []) h = refl
zeros_ascend f (x ∷ y ∷ xs) h =
    λ i. not (lt (of_bits binary64 (h.1.0 i)) (of_bits binary64 (h.0 i))) && zeros_ascend f (y ∷ xs) h.1 i

no_time : (t : List (List ℕ)) → length (flatten t) ≡ 0 → get_or (get_or t 0 []) 0 0 ≡ 0
unfolding flatten
no_time [] e = refl
no_time ([] ∷ rs) e = refl
no_time ((x ∷ r) ∷ rs) e = absurd (omega arith)

module _ (ps : List (List ℕ)) (b : Every Bytes ps) (j : Together ps) where
  pub times_joined : trigger_times (joined (waves_of ps)).trig ≡ times_of ps
  unfolding joined
  times_joined =
      times_rows (trig_wide (lead (waves_of ps))) (waves_of ps) (every_map (trig_row (lead (waves_of ps))) (waves_of ps) (all-parts ps b j)) ∙ map-map wave_time opened (by_index ps)

  pub times_none : trig_length (lead (waves_of ps)).head ≡ 0 → ascending (times_of ps) ≡ true
  times_none z =
      ap ascending (sym (map-map wave_time opened (by_index ps)))
      ∙ zeros_ascend wave_time (waves_of ps) (every_map (λ w p. no_time w.trig (omega (arith, p.fits.trig-length, p.head 48 refl))) (waves_of ps) (all-parts ps b j))
