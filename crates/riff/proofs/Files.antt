-- A file that was written is read as it was meant (`wrote_read`), and a file that is accepted is what the writer writes for what was read (`read_wrote`):
-- both together, `exactly`. Two sample lists of one width never share a file at one rate (`injective`).
use mathlib.Core.Path.{◌≡◌, refl, sym, ap, ap₂, ◌∙◌, subst}
use mathlib.Core.Logic.{◌⊎◌, ⊎_elim, ◌↔◌}
use Prim.Native.Nat.{ℕ, zero, suc, ◌+◌, ◌*◌, ◌/◌, ◌%◌, ◌^◌, ◌≤◌, ◌<◌}
use native.Mathlib.Nat.{zero-mul, mul-pos, mul-div_left, mul-mod_left, div-add-mod'}
use native.Mathlib.Omega.{arith}
use mathlib.Core.List.{List, [], ◌∷◌, ◌++◌, map, flatten}
use lib.ListN.{length, get_or, take, drop, length-append, length-drop, length-map, replicate, length-replicate, take-append-drop}
use lib.Seq.{take_at, drop_at, drop-drop, length-take-le}
use lib.IntN.{ℤ}
use Rattle.rules.specs.Numbers.{Bytes, digits, number, bytes, numbers, all_bytes, EachFits}
use Rattle.rules.proofs.Tests.{Each}
use Rattle.rules.proofs.Numbers.{below-take, below-drop, number-bytes, numbers-all_bytes, all_bytes-numbers, length-all_bytes, numbers-below}
use Rattle.rules.proofs.Waves.{length-numbers}
use Rattle.rules.proofs.Slices.{numbers-take}
use Rattle.riff.specs.Files.{coded, heard, pad, riff_count, sound_head, sound_data, sound_file, rate_in, width_in, count_in, samples_in, sound_form, Sound}
use Rattle.riff.proofs.Coding.{below-coded, heard_codes, heard-fits, codes_heard}
use Rattle.riff.proofs.Forms.{HasForm, one-two, form_says, says_form}

-- ---- the 44 bytes

module _ (rate w n : ℕ) where
  pub length-head : length (sound_head rate w n) ≡ 44
  unfolding sound_head flatten bytes digits
  length-head = refl

  module _ (rest : List ℕ) where
    head-rate : rate < 256 ^ 4 → rate_in (sound_head rate w n ++ rest) ≡ rate
    unfolding rate_in sound_head flatten bytes digits
    head-rate h = number-bytes 1 4 rate h

    head-width : w < 256 ^ 2 → width_in (sound_head rate w n ++ rest) ≡ w
    unfolding width_in sound_head flatten bytes digits
    head-width h = number-bytes 1 2 w h

    head-count : n < 256 ^ 4 → count_in (sound_head rate w n ++ rest) ≡ n
    unfolding count_in sound_head flatten bytes digits
    head-count h = number-bytes 1 4 n h

-- ---- a file that was written

module _ (w : ℕ) (xs : List ℤ) where
  pub length-data : length (sound_data w xs) ≡ length xs * w
  unfolding sound_data
  length-data = length-all_bytes 1 w (map (coded w) xs) ∙ ap (λ (n : ℕ). n * w) (length-map xs (coded w))

  pub length_file : (rate : ℕ) → length (sound_file rate w xs) ≡ 44 + length xs * w + length xs * w % 2
  unfolding sound_file
  length_file rate =
      let n : ℕ = length (sound_data w xs) in
      let l : length (sound_file rate w xs) ≡ 44 + n + n % 2 =
      omega (arith, length-append (sound_head rate w n) (sound_data w xs ++ pad n), length-append (sound_data w xs) (pad n), length-head rate w n, length-replicate {A = ℕ} (n % 2) 0) in
      l ∙ ap (λ (k : ℕ). 44 + k + k % 2) length-data

  -- behind the head stand the data, and behind them the pad
  file_head : (rate : ℕ) → take 44 (sound_file rate w xs) ≡ sound_head rate w (length (sound_data w xs))
  unfolding sound_file
  file_head rate = let n : ℕ = length (sound_data w xs) in take_at (sound_head rate w n) (sound_data w xs ++ pad n) 44 (length-head rate w n)

  file_rest : (rate : ℕ) → drop 44 (sound_file rate w xs) ≡ sound_data w xs ++ pad (length (sound_data w xs))
  unfolding sound_file
  file_rest rate = let n : ℕ = length (sound_data w xs) in drop_at (sound_head rate w n) (sound_data w xs ++ pad n) 44 (length-head rate w n)

  file_pad : (rate : ℕ) → drop (44 + length (sound_data w xs)) (sound_file rate w xs) ≡ pad (length (sound_data w xs))
  file_pad rate =
      let n : ℕ = length (sound_data w xs) in
      sym (drop-drop n 44 (sound_file rate w xs)) ∙ ap (drop n) (file_rest rate) ∙ drop_at (sound_data w xs) (pad n) n refl

module _ (w : ℕ) (v : (w ≡ 1) ⊎ (w ≡ 2)) where
  wide : 0 < w
  wide = ⊎_elim (λ (e : w ≡ 1). omega arith) (λ (e : w ≡ 2). omega arith) v

  narrow : w ≤ 2
  narrow = ⊎_elim (λ (e : w ≡ 1). omega arith) (λ (e : w ≡ 2). omega arith) v

  -- the samples of some data, whatever stands behind them
  data-heard : (xs : List ℤ) (rest : List ℕ) → EachFits w xs → map (heard w) (numbers 1 w (length (sound_data w xs) / w) (sound_data w xs ++ rest)) ≡ xs
  unfolding sound_data
  data-heard xs rest h =
      let cs : List ℕ = map (coded w) xs in
      let d : List ℕ = sound_data w xs in
      let l : length d ≡ length cs * w = length-all_bytes 1 w cs in
      let k : length d / w ≡ length cs = ap (λ (n : ℕ). n / w) l ∙ mul-div_left (length cs) wide in
      ap (λ (n : ℕ). map (heard w) (numbers 1 w n (d ++ rest))) k
      ∙ ap (map (heard w)) (sym (numbers-take 1 w (length cs) (length d) (d ++ rest) (omega arith)))
      ∙ ap (λ (u : List ℕ). map (heard w) (numbers 1 w (length cs) u)) (take_at d rest (length d) refl)
      ∙ ap (map (heard w)) (numbers-all_bytes 1 w cs (below-coded w v xs h))
      ∙ heard_codes w v xs h

-- what a file is read as
pub record ReadAs (f : List ℕ) (rate w : ℕ) (xs : List ℤ) : Type 0 where
  pub form : Each (sound_form f)
  pub its_rate : rate_in f ≡ rate
  pub its_width : width_in f ≡ w
  pub its_samples : samples_in f ≡ xs

module _ (rate w : ℕ) (xs : List ℤ) (s : Sound rate w xs) where
  file : List ℕ
  file = sound_file rate w xs

  count : ℕ
  count = length (sound_data w xs)

  few : riff_count count ≤ 4294967295
  unfolding count
  few = let l : length (sound_data w xs) ≡ length xs * w = length-data w xs in subst (λ (k : ℕ). riff_count k ≤ 4294967295) (sym l) s.small

  rate_there : rate_in file ≡ rate
  unfolding file count sound_file
  rate_there = head-rate rate w count (sound_data w xs ++ pad count) (omega (arith, s.most))

  width_there : width_in file ≡ w
  unfolding file count sound_file
  width_there = head-width rate w count (sound_data w xs ++ pad count) (omega (arith, narrow w s.width))

  count_there : count_in file ≡ count
  unfolding file count sound_file
  count_there = head-count rate w count (sound_data w xs ++ pad count) (omega (arith, few))

  samples_there : samples_in file ≡ xs
  unfolding samples_in file count
  samples_there =
      ap₂ {C = List ℤ} (λ v c. map (heard v) (numbers 1 v (c / v) (drop 44 file))) width_there count_there
      ∙ ap (λ (r : List ℕ). map (heard w) (numbers 1 w (count / w) r)) (file_rest w xs rate)
      ∙ data-heard w s.width xs (pad count) s.fit

  formed : HasForm file rate w count
  unfolding file count
  formed =
      let l : length (sound_data w xs) ≡ length xs * w = length-data w xs in
      record {
        whole = length_file w xs rate ∙ ap (λ (k : ℕ). 44 + k + k % 2) (sym l);
        head = file_head w xs rate;
        padded = file_pad w xs rate;
        small = omega (arith, few);
        wide = wide w s.width;
        narrow = narrow w s.width;
        divided = ap (λ (k : ℕ). k % w) l ∙ mul-mod_left (length xs) w;
        some = omega (arith, l, mul-pos s.some (wide w s.width));
        least = s.least;
        most = s.most;
      }

  pub wrote_read : ReadAs (sound_file rate w xs) rate w xs
  unfolding file count
  wrote_read = record {
    form = says_form file (subst (λ (k : ℕ). HasForm file k (width_in file) (count_in file)) (sym rate_there) (subst (λ (k : ℕ). HasForm file rate k (count_in file)) (sym width_there) (subst (λ (k : ℕ). HasForm file rate w k) (sym count_there) formed)));
    its_rate = rate_there;
    its_width = width_there;
    its_samples = samples_there;
  }

-- ---- a file that is accepted

pub count-samples : (f : List ℕ) → length (samples_in f) ≡ count_in f / width_in f
unfolding samples_in
count-samples f =
    let w : ℕ = width_in f in
    let k : ℕ = count_in f / w in
    length-map (numbers 1 w k (drop 44 f)) (heard w) ∙ length-numbers 1 w k (drop 44 f)

module _ (f : List ℕ) (b : Bytes f) (h : Each (sound_form f)) where
  abbrev says : HasForm f (rate_in f) (width_in f) (count_in f)
  says = form_says f h

  either-width : (width_in f ≡ 1) ⊎ (width_in f ≡ 2)
  either-width = one-two (width_in f) says.wide says.narrow

  -- the width divides the data count
  divided : count_in f / width_in f * width_in f ≡ count_in f
  divided = omega (arith, div-add-mod' (count_in f) (width_in f), says.divided)

  read-data : sound_data (width_in f) (samples_in f) ≡ take (count_in f) (drop 44 f)
  unfolding sound_data samples_in
  read-data =
      let w : ℕ = width_in f in
      let k : ℕ = count_in f / w in
      let d : List ℕ = take (count_in f) (drop 44 f) in
      let l : length d ≡ count_in f = length-take-le (count_in f) (drop 44 f) (omega (arith, length-drop 44 f, says.whole)) in
      ap (all_bytes 1 w) (codes_heard w either-width (numbers 1 w k (drop 44 f)) (numbers-below 1 w k (drop 44 f) (below-drop 256 44 f b)))
      ∙ ap (all_bytes 1 w) (sym (numbers-take 1 w k (count_in f) (drop 44 f) (omega (arith, divided))))
      ∙ all_bytes-numbers 1 w k d (below-take 256 (count_in f) (drop 44 f) (below-drop 256 44 f b)) (divided ∙ sym l)

  -- what is read is a sound
  pub read-sound : Sound (rate_in f) (width_in f) (samples_in f)
  read-sound =
      let l : length (samples_in f) * width_in f ≡ count_in f = ap (λ (k : ℕ). k * width_in f) (count-samples f) ∙ divided in
      record {
        least = says.least;
        most = says.most;
        width = either-width;
        fit = unfold samples_in in heard-fits (width_in f) either-width (numbers 1 (width_in f) (count_in f / width_in f) (drop 44 f)) (numbers-below 1 (width_in f) (count_in f / width_in f) (drop 44 f) (below-drop 256 44 f b));
        some = positive (length (samples_in f)) (width_in f) (count_in f) l says.some;
        small = subst (λ (n : ℕ). riff_count n ≤ 4294967295) (sym l) (omega (arith, says.small));
      }
    where
      positive : (k w n : ℕ) → k * w ≡ n → 1 ≤ n → 1 ≤ k
      positive zero w n e p = absurd (omega (arith, zero-mul w))
      positive (suc k) w n e p = omega arith

  -- and the file is what the writer writes for it
  pub read_wrote : sound_file (rate_in f) (width_in f) (samples_in f) ≡ f
  unfolding sound_file
  read_wrote =
      let n : ℕ = count_in f in
      let d : List ℕ = take n (drop 44 f) in
      let l : length (sound_data (width_in f) (samples_in f)) ≡ n = length-data (width_in f) (samples_in f) ∙ ap (λ (k : ℕ). k * width_in f) (count-samples f) ∙ divided in
      ap₂ {C = List ℕ} (λ k x. sound_head (rate_in f) (width_in f) k ++ (x ++ pad k)) l read-data
      ∙ ap₂ {C = List ℕ} (λ x y. x ++ (d ++ y)) (sym says.head) (sym says.padded ∙ sym (drop-drop n 44 f))
      ∙ ap (λ (x : List ℕ). take 44 f ++ x) (take-append-drop n (drop 44 f))
      ∙ take-append-drop 44 f

-- A file is accepted and read as this rate, width and samples exactly where they are a sound and the file is theirs
pub exactly : (f : List ℕ) → Bytes f → (rate w : ℕ) (xs : List ℤ) → ReadAs f rate w xs ↔ (Sound rate w xs × (sound_file rate w xs ≡ f))
exactly f b rate w xs = (
  λ h.
      let same-sound : (P : ℕ → ℕ → List ℤ → Type 0) → P (rate_in f) (width_in f) (samples_in f) → P rate w xs =
      λ P p. subst (λ (ys : List ℤ). P rate w ys) h.its_samples (subst (λ (v : ℕ). P rate v (samples_in f)) h.its_width (subst (λ (r : ℕ). P r (width_in f) (samples_in f)) h.its_rate p)) in
      (same-sound Sound (read-sound f b h.form), same-sound (λ r v ys. sound_file r v ys ≡ f) (read_wrote f b h.form)),
  λ p. subst (λ (g : List ℕ). ReadAs g rate w xs) p.1 (wrote_read rate w xs p.0),
)

-- ---- two sample lists of one width

-- the lowest byte of the data count, and the length with its pad
same_count : (m n : ℕ) → m % 256 ≡ n % 256 → m + m % 2 ≡ n + n % 2 → m ≡ n
same_count m n e l =
    let half : (k : ℕ) → k % 2 ≡ k % 256 % 2 = λ k. omega arith in
    let h : m % 2 ≡ n % 2 = half m ∙ ap (λ (k : ℕ). k % 2) e ∙ sym (half n) in
    omega arith

pub injective : (rate w : ℕ) (xs ys : List ℤ) → (w ≡ 1) ⊎ (w ≡ 2) → EachFits w xs → EachFits w ys → sound_file rate w xs ≡ sound_file rate w ys → xs ≡ ys
injective rate w xs ys v p q e =
    let m : ℕ = length (sound_data w xs) in
    let n : ℕ = length (sound_data w ys) in
    let low : (k : ℕ) → get_or (sound_head rate w k) 40 0 ≡ k % 256 = λ k. unfold sound_head flatten bytes digits in refl in
    let heads : sound_head rate w m ≡ sound_head rate w n = sym (file_head w xs rate) ∙ ap (take 44) e ∙ file_head w ys rate in
    let lows : m % 256 ≡ n % 256 = sym (low m) ∙ ap (λ (l : List ℕ). get_or l 40 0) heads ∙ low n in
    let long : (zs : List ℤ) → length (sound_file rate w zs) ≡ 44 + length (sound_data w zs) + length (sound_data w zs) % 2 = λ zs. length_file w zs rate ∙ ap (λ (k : ℕ). 44 + k + k % 2) (sym (length-data w zs)) in
    let same_length : m ≡ n = same_count m n lows (omega (arith, long xs, long ys, ap length e)) in
    sym (data-heard w v xs (pad m) p)
    ∙ ap₂ {C = List ℤ} (λ k r. map (heard w) (numbers 1 w (k / w) r)) same_length (sym (file_rest w xs rate) ∙ ap (drop 44) e ∙ file_rest w ys rate)
    ∙ data-heard w v ys (pad n) q
