-- The word (`word_by`), and what a line says by it and its pairs (`no_word`, `by_word`).
use mathlib.Core.Path.{◌≡◌, refl, sym, ap, ◌∙◌}
use Prim.Native.Nat.{ℕ, suc, ◌≤◌}
use native.Mathlib.Omega.{arith}
use mathlib.Core.Bool.{Bool, true, false, cond}
use mathlib.Core.List.{List, [], ◌∷◌, ◌++◌}
use mathlib.Core.Option.{Option as Maybe, none, some}
use lib.ListN.{length, take, drop, length-append}
use Rattle.std.specs.Prelude.{Some, None}
use Rattle.rules.specs.Rules.{same}
use Rattle.cuts.specs.Cuts.{setup_of}
use Rattle.lines.specs.Grammar.{Word, Short, Long, letters, Pair, blank, numbers_of}
use Rattle.lines.specs.Reader.{given, once?, pairs_at, word_at, line_by, rest_by, line_in, setup_by, read_setup}
use Rattle.lines.proofs.Reading.{word_sound}
use Rattle.setups.specs.Setups.{reading_of, reading_as, word_as, pairs_as}

pub word_by : (s : List ℕ) (a b : Bool) → same (take 5 s) (letters Short ++ (blank ∷ [])) ≡ a → same (take 15 s) (letters Long ++ (blank ∷ [])) ≡ b → cond a (Some 5) (cond b (Some 15) None) ≡ word_as (word_at s)
unfolding word_at
word_by s a b p q = sym (ap (λ (x : Bool). word_as (cond x (some Short) (given (same (take 15 s) (letters Long ++ (blank ∷ []))) (some Long)))) p ∙ ap (λ (y : Bool). word_as (cond a (some Short) (given y (some Long)))) q ∙ go a b)
  where
    go : (a b : Bool) → word_as (cond a (some Short) (given b (some Long))) ≡ cond a (Some 5) (cond b (Some 15) None)
    go true b = refl
    go false true = refl
    go false false = refl

module _ (t : List ℕ) where
  pub no_word : word_as (word_at t) ≡ None → None ≡ reading_as t
  unfolding reading_as read_setup line_in
  no_word = go (word_at t)
    where
      go : (o : Maybe Word) → word_as o ≡ None → None ≡ reading_of (setup_by (rest_by t o))
      go none e = refl
      go (some w) e = cc

  -- the pairs start at k
  pub by_word : (k : ℕ) → word_as (word_at t) ≡ Some k → (k ≤ length t) × (pairs_as (pairs_at 4 (drop k t)) ≡ reading_as t)
  unfolding reading_as read_setup line_in
  by_word k = go (word_at t) refl
    where
      go : (o : Maybe Word) → word_at t ≡ o → word_as o ≡ Some k → (k ≤ length t) × (pairs_as (pairs_at 4 (drop k t)) ≡ reading_of (setup_by (rest_by t o)))
      go none e s = cc
      go (some w) e s =
          let z : k ≡ suc (length (letters w)) = cc in (
            omega (arith, z, ap length (word_sound t w e), length-append (letters w) (blank ∷ drop (suc (length (letters w))) t)),
            ap (λ (j : ℕ). pairs_as (pairs_at 4 (drop j t))) z ∙ two (pairs_at 4 (drop (suc (length (letters w))) t)),
          )
        where
          three : (ps : List Pair) (b : Bool) → cond b (Some (setup_of (numbers_of ps))) None ≡ reading_of (setup_by (given b (some (record { word = w; pairs = ps }))))
          three ps true = refl
          three ps false = refl

          two : (o : Maybe (List Pair)) → pairs_as o ≡ reading_of (setup_by (line_by w o))
          two none = refl
          two (some ps) = three ps (once? ps)
