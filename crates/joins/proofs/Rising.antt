-- Whether the joined block keeps the rules, by what the code asks: its length, RISTIME, and the trigger times by index (`block-if`, `block-only`).
use mathlib.Core.Path.{◌≡◌, refl, sym, ap, ap₂, ◌∙◌, subst}
use mathlib.Core.Logic.{◌⊎◌, inl, inr, ⊎_elim, ◌↔◌}
use Prim.Native.Nat.{ℕ, ◌-◌, ◌≤◌, ◌<◌}
use native.Mathlib.Omega.{arith}
use mathlib.Core.Bool.{Bool, true, false, false≢true}
use mathlib.Core.List.{List, []}
use lib.ListN.{length, get_or, length-map}
use Rattle.rules.specs.Numbers.{Bytes}
use Rattle.rules.specs.Wave.{order_of, segments, trig_length, ris_length, starts_of}
use Rattle.rules.specs.Rules.{refusal, opened, ascending, finite64}
use Rattle.joining.specs.Join.{parts_in, by_index, joined_bytes}
use Rattle.joining.proofs.Lists.{Every, every_map, every_both, every_get_or, map_every}
use Rattle.joining.proofs.Parts.{parts-bytes}
use Rattle.joining.proofs.Index.{length-by_index, every_by_index}
use Rattle.joining.proofs.Timing.{wave_time, times_of, times_none}
use Rattle.joining.proofs.Breaks.{joined_length, leads, block-good}
use Rattle.parts.proofs.Tables.{Fellow, fellows, first-bytes, first_good, heads, starts, trig-long, time_there, time-finite}
use Rattle.arrivals.specs.Arrivals.{part_time, times_at, Timed}
use Rattle.arrivals.proofs.Windows.{one_rises}
use Rattle.fronts.specs.declared.Lead.{Lead}
use Rattle.joins.specs.Steps.{Gathered, start_by, total_by}
use Rattle.joins.proofs.Tabled.{can_place, row_ends}

module _ (s : List ℕ) (b : Bytes s) (lead : Lead) (n end : ℕ) (g : Gathered s lead n end) where
  abbrev first_part : List ℕ
  first_part = get_or (parts_in s) 0 []

  pub total-joined : total_by lead n ≡ joined_length (length (parts_in s)) (opened first_part).head
  total-joined = ap (λ (x : Lead). total_by x n) g.leads ∙ ap (λ (m : ℕ). joined_length m (opened first_part).head) g.count

  ris_is : get_or lead.lengths 4 0 ≡ ris_length (opened first_part).head
  ris_is = ap (λ (x : Lead). get_or x.lengths 4 0) g.leads

  trig_is : get_or lead.lengths 3 0 ≡ trig_length (opened first_part).head
  trig_is = ap (λ (x : Lead). get_or x.lengths 3 0) g.leads

  -- the times, where TRIGTIME is there
  module _ (there : 0 < get_or lead.lengths 3 0) where
    -- a part's time, as it is read by the first's layout
    read : (p : List ℕ) → Fellow first_part p × (segments (opened p).head ≡ 1) → (part_time lead.order (start_by lead 3) p ≡ wave_time (opened p)) × (finite64 (wave_time (opened p)) ≡ true)
    unfolding starts_of
    read p f =
        let t : 0 < trig_length (opened p).head = subst (λ (x : ℕ). 0 < x) (trig_is ∙ sym (heads s b g.together p f.0 48 refl)) there in
        let order : lead.order ≡ order_of (opened p).head = ap (λ (x : Lead). x.order) g.leads ∙ sym (heads s b g.together p f.0 34 refl) in
        let from : start_by lead 3 ≡ get_or (starts_of (opened p).head) 3 0 = ap (λ (x : Lead). start_by x 3) g.leads ∙ sym (ap (λ (l : List ℕ). get_or l 3 0) (starts s b g.together p f.0)) in (
          ap₂ {C = ℕ} (λ x y. part_time x y p) order from ∙ sym (time_there p f.0.bytes f.0.good f.1 t),
          time-finite p f.0.bytes f.0.good f.1 t,
        )

    reads : Every (λ p. (part_time lead.order (start_by lead 3) p ≡ wave_time (opened p)) × (finite64 (wave_time (opened p)) ≡ true)) (parts_in s)
    reads =
        every_both (Fellow first_part) (λ p. segments (opened p).head ≡ 1) (λ p. (part_time lead.order (start_by lead 3) p ≡ wave_time (opened p)) × (finite64 (wave_time (opened p)) ≡ true))
        (λ p x y. read p (x, y)) (parts_in s) (fellows s b g.together) g.together.alone

    pub times_are : times_at lead.order (start_by lead 3) s ≡ times_of (parts_in s)
    times_are =
        map_every (part_time lead.order (start_by lead 3)) (λ p. wave_time (opened p)) (by_index (parts_in s))
        (every_by_index (λ p. part_time lead.order (start_by lead 3) p ≡ wave_time (opened p)) (parts_in s) g.together.once (every_map (λ p x. x.0) (parts_in s) reads))

    pub timed : 8 ≤ get_or lead.lengths 3 0 → Timed lead.order (end - lead.start) (start_by lead 3) s
    timed l = record {
      placeable = can_place s b lead n end g;
      inside = omega (arith, row_ends s b lead n end g 3 (omega arith));
      finite = every_map (λ p x. ap finite64 x.0 ∙ x.1) (parts_in s) reads;
    }

  -- an entry has sixteen bytes
  pub trig-wide : 0 < get_or lead.lengths 3 0 → 8 ≤ get_or lead.lengths 3 0
  trig-wide there =
      let alone : segments (opened first_part).head ≡ 1 = every_get_or (λ p. segments (opened p).head ≡ 1) (parts_in s) 0 [] g.together.some g.together.alone in
      let t : 0 < trig_length (opened first_part).head = subst (λ (x : ℕ). 0 < x) trig_is there in
      omega (arith, trig_is, trig-long first_part (first-bytes s b g.together) (first_good s b g.together) alone t)

  -- ---- both ways

  module _ (total : ℕ) (t : total ≡ total_by lead n) where
    good : total ≤ 16777216 → (get_or lead.lengths 4 0 ≡ 0) ⊎ (n ≡ 1) → ascending (times_of (parts_in s)) ≡ true → refusal (joined_bytes (parts_in s)) ≡ 0
    good hi ris times =
        (block-good (parts_in s) (parts-bytes s b) g.together).1
        (omega (arith, t, total-joined), ⊎_elim (λ (z : get_or lead.lengths 4 0 ≡ 0). inl (sym ris_is ∙ z)) (λ (z : n ≡ 1). inr (sym g.count ∙ z)) ris, times)

    needs : refusal (joined_bytes (parts_in s)) ≡ 0 → (total ≤ 16777216) × ((get_or lead.lengths 4 0 ≡ 0) ⊎ (n ≡ 1)) × (ascending (times_of (parts_in s)) ≡ true)
    needs e =
        let k = (block-good (parts_in s) (parts-bytes s b) g.together).0 e in
        (omega (arith, t, total-joined, k.0), ⊎_elim (λ (z : ris_length (opened first_part).head ≡ 0). inl (ris_is ∙ z)) (λ (z : length (parts_in s) ≡ 1). inr (g.count ∙ z)) k.1, k.2)

    pub too_long : 16777216 < total → (false ≡ true) ↔ (refusal (joined_bytes (parts_in s)) ≡ 0)
    too_long h = (λ e. absurd (false≢true e), λ e. absurd (omega (arith, h, (needs e).0)))

    pub one-part : total ≤ 16777216 → n < 2 → (true ≡ true) ↔ (refusal (joined_bytes (parts_in s)) ≡ 0)
    one-part hi few =
        let one : n ≡ 1 = omega (arith, g.count, g.together.some) in
        (λ e. good hi (inr one) (one_rises (times_of (parts_in s)) (omega (arith, length-map (by_index (parts_in s)) (λ p. wave_time (opened p)), length-by_index (parts_in s), g.count))), λ e. refl)

    pub many_ris : 2 ≤ n → 0 < get_or lead.lengths 4 0 → (false ≡ true) ↔ (refusal (joined_bytes (parts_in s)) ≡ 0)
    many_ris many some = (λ e. absurd (false≢true e), λ e. absurd (⊎_elim (λ (z : get_or lead.lengths 4 0 ≡ 0). omega (arith, z, some)) (λ (z : n ≡ 1). omega (arith, z, many)) (needs e).1))

    pub no_times : total ≤ 16777216 → get_or lead.lengths 4 0 ≤ 0 → get_or lead.lengths 3 0 < 1 → (true ≡ true) ↔ (refusal (joined_bytes (parts_in s)) ≡ 0)
    no_times hi ris none =
        let z : trig_length (opened first_part).head ≡ 0 = omega (arith, trig_is, none) in
        (λ e. good hi (inl (omega (arith, ris))) (times_none (parts_in s) (parts-bytes s b) g.together (leads (parts_in s) (parts-bytes s b) g.together 48 refl ∙ z)), λ e. refl)

    pub by_times : total ≤ 16777216 → get_or lead.lengths 4 0 ≤ 0 → (there : 1 ≤ get_or lead.lengths 3 0) → (r : Bool) → r ≡ ascending (times_at lead.order (start_by lead 3) s) → (r ≡ true) ↔ (refusal (joined_bytes (parts_in s)) ≡ 0)
    by_times hi ris there r e =
        let q : r ≡ ascending (times_of (parts_in s)) = e ∙ ap ascending (times_are there) in
        (λ y. good hi (inl (omega (arith, ris))) (sym q ∙ y), λ y. q ∙ (needs y).2)
