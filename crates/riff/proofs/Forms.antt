-- The tests of a file's form as facts (`HasForm`), by the rate, the width and the data count that stand in it: `form_says`, and back (`says_form`).
use mathlib.Core.Path.{◌≡◌, refl}
use mathlib.Core.Logic.{◌⊎◌, inl, inr, ⊎_elim}
use mathlib.Core.List.{List}
use Prim.Native.Nat.{ℕ, zero, suc, ◌+◌, ◌%◌, ◌≤◌}
use native.Mathlib.Omega.{arith}
use lib.ListN.{length, take, drop}
use borrow.Author.Tests.{leb-true, le-leb, eqb-true, eq-eqb}
use Rattle.rules.proofs.Tests.{Each}
use Rattle.rules.proofs.Facts.{either-says, says-either}
use Rattle.rules.proofs.Numbers.{same_eq, eq_same}
use Rattle.riff.specs.Files.{pad, riff_count, sound_head, rate_in, width_in, count_in, sound_form}

pub record HasForm (f : List ℕ) (rate w c : ℕ) : Type 0 where
  pub whole : length f ≡ 44 + c + c % 2
  pub head : take 44 f ≡ sound_head rate w c
  pub padded : drop (44 + c) f ≡ pad c
  pub small : c ≤ 4294967258
  pub wide : 1 ≤ w
  pub narrow : w ≤ 2
  pub divided : c % w ≡ 0
  pub some : 1 ≤ c
  pub least : 1 ≤ rate
  pub most : rate ≤ 2147483647

pub one-two : (w : ℕ) → 1 ≤ w → w ≤ 2 → (w ≡ 1) ⊎ (w ≡ 2)
one-two zero a b = absurd (omega arith)
one-two (suc zero) a b = inl refl
one-two (suc (suc zero)) a b = inr refl
one-two (suc (suc (suc w))) a b = absurd (omega arith)

module _ (f : List ℕ) where
  abbrev rate : ℕ
  rate = rate_in f

  abbrev w : ℕ
  w = width_in f

  abbrev c : ℕ
  c = count_in f

  pub form_says : Each (sound_form f) → HasForm f (rate_in f) (width_in f) (count_in f)
  unfolding sound_form
  form_says h =
      let v : (w ≡ 1) ⊎ (w ≡ 2) = either-says w 1 2 h.1.1.1.1.0 in
      let s : riff_count c ≤ 4294967295 = leb-true (riff_count c) 4294967295 h.1.1.0 in
      record {
        whole = eqb-true (length f) (44 + c + c % 2) h.0;
        head = same_eq (take 44 f) (sound_head rate w c) h.1.0;
        padded = same_eq (drop (44 + c) f) (pad c) h.1.1.1.0;
        small = omega arith;
        wide = ⊎_elim (λ (q : w ≡ 1). omega arith) (λ (q : w ≡ 2). omega arith) v;
        narrow = ⊎_elim (λ (q : w ≡ 1). omega arith) (λ (q : w ≡ 2). omega arith) v;
        divided = eqb-true (c % w) 0 h.1.1.1.1.1.0;
        some = leb-true 1 c h.1.1.1.1.1.1.0;
        least = leb-true 1 rate h.1.1.1.1.1.1.1.0;
        most = leb-true rate 2147483647 h.1.1.1.1.1.1.1.1.0;
      }

  pub says_form : HasForm f (rate_in f) (width_in f) (count_in f) → Each (sound_form f)
  unfolding sound_form
  says_form m = (
    eq-eqb (length f) (44 + c + c % 2) m.whole,
    (
      eq_same (take 44 f) (sound_head rate w c) m.head,
      (
        le-leb (riff_count c) 4294967295 (omega (arith, m.small)),
        (
          eq_same (drop (44 + c) f) (pad c) m.padded,
          (says-either w 1 2 (one-two w m.wide m.narrow), (eq-eqb (c % w) 0 m.divided, (le-leb 1 c m.some, (le-leb 1 rate m.least, (le-leb rate 2147483647 m.most, tt))))),
        ),
      ),
    ),
  )
