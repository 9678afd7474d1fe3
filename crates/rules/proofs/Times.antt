-- In an accepted block no TRIGGER_TIME is less than any before it: `times_opened`. Rule 20 compares neighbours; the order of finite floats goes on
-- from one to the next (`not_less_on` in `Order`).
use mathlib.Core.Path.{◌≡◌, refl, sym, ap, ◌∙◌, subst}
use Prim.Native.Nat.{ℕ, zero, suc, ◌+◌, ◌-◌, ◌<◌}
use native.Mathlib.Omega.{arith}
use mathlib.Core.Bool.{true, false}
use mathlib.Core.List.{List, []}
use lib.ListN.{length, get_or, get_or-map}
use lib.Dec.{T}
use lib.Ieee.{binary64, of_bits, of_fields, lt}
use lib.Ieee.Scale.{finite}
use Rattle.rules.specs.Numbers.{Bytes}
use Rattle.rules.specs.Rules.{finite64, trigger_times, ascending, timed, refusal, opened}
use Rattle.rules.proofs.Facts.{ascending-says}
use Rattle.rules.proofs.Every.{every_at, every_row}
use Rattle.rules.proofs.Opened.{good-opened}
use Rattle.rules.proofs.Order.{not_less_on}

-- ---- the times

module _ (ts : List ℕ) (f : (i : ℕ) → finite64 (get_or ts i 0) ≡ true) (e : ascending ts ≡ true) where
  sound : (i : ℕ) → T (finite (of_bits binary64 (get_or ts i 0)))
  unfolding finite64
  sound i = subst T (sym (f i)) tt

  -- the time k + 1 places behind the i-th
  far : (i k : ℕ) → i + suc k < length ts → lt (of_bits binary64 (get_or ts (i + suc k) 0)) (of_bits binary64 (get_or ts i 0)) ≡ false
  far i zero h = let n : i + 1 ≡ suc i = omega arith in ap (λ (j : ℕ). lt (of_bits binary64 (get_or ts j 0)) (of_bits binary64 (get_or ts i 0))) n ∙ ascending-says ts e i (omega arith)
  far i (suc k) h =
      let n : suc (i + suc k) ≡ i + suc (suc k) = omega arith in
      not_less_on (of_bits binary64 (get_or ts i 0)) (of_bits binary64 (get_or ts (i + suc k) 0)) (of_bits binary64 (get_or ts (i + suc (suc k)) 0)) (sound i) (sound (i + suc k)) (sound (i + suc (suc k)))
      (far i k (omega arith))
      (ap (λ (j : ℕ). lt (of_bits binary64 (get_or ts j 0)) (of_bits binary64 (get_or ts (i + suc k) 0))) (sym n) ∙ ascending-says ts e (i + suc k) (omega arith))

module _ (s : List ℕ) (b : Bytes s) (z : refusal s ≡ 0) where
  time-finite : (i : ℕ) → finite64 (get_or (trigger_times (opened s).trig) i 0) ≡ true
  unfolding finite64 of_bits of_fields
  time-finite i =
      ap finite64 (get_or-map (λ (r : List ℕ). get_or r 0 0) (opened s).trig i [])
      ∙ every_at finite64 (get_or (opened s).trig i []) 0 0 (every_row finite64 (opened s).trig i (good-opened s b z).floats.trig) refl

  pub times_opened : (i j : ℕ) → i < j → j < length (trigger_times (opened s).trig) → lt (of_bits binary64 (get_or (trigger_times (opened s).trig) j 0)) (of_bits binary64 (get_or (trigger_times (opened s).trig) i 0)) ≡ false
  unfolding timed
  times_opened i j h l =
      let ts = trigger_times (opened s).trig in
      let k : i + suc (j - suc i) ≡ j = omega arith in
      ap (λ (n : ℕ). lt (of_bits binary64 (get_or ts n 0)) (of_bits binary64 (get_or ts i 0))) (sym k) ∙ far ts time-finite (good-opened s b z).times.0 i (j - suc i) (omega arith)
