-- A join's number (`join_number`), and what an accepted join says of its parts: a record with a name for each fact, from the number (`join_says`) and back to it (`says_join`).
use mathlib.Core.Path.{◌≡◌, refl, sym, ap, ◌∙◌}
use Prim.Native.Nat.{ℕ, zero, suc, ◌≤◌}
use native.Mathlib.Omega.{arith}
use mathlib.Core.Bool.{Bool, true, false, cond, ◌&&◌}
use mathlib.Core.Logic.{◌↔◌}
use mathlib.Core.List.{List, [], ◌∷◌, map, flatten}
use lib.ListN.{length, get_or}
use lib.Dec.{leb, eqb}
use borrow.Author.Tests.{leb-true, eqb-true, le-leb, eq-eqb}
use Rattle.rules.specs.Wave.{segments}
use Rattle.rules.specs.Rules.{all, first, same, rules, refusal, opened}
use Rattle.rules.specs.Cut.{or_else}
use Rattle.rules.proofs.Tests.{Each, Held, Numbered, all_each, each_all, first_held, held_first, held_append, held_left, held_right, numbered_append, first_append}
use Rattle.rules.proofs.Numbers.{same_eq, eq_same}
use Rattle.rules.proofs.Opened.{obeys, rules_numbered}
use Rattle.joining.specs.Join.{indexed, parts_in, joined_bytes, common, joining, join_refusal}
use Rattle.joining.proofs.Lists.{Every, every_map, all_every, every_all, every_up_from, up_from_every}
use Rattle.joining.proofs.Index.{Once}

-- ---- 1 to 8 of each part

parts_numbered : (ps : List (List ℕ)) → Numbered (flatten (map rules ps))
unfolding flatten
parts_numbered [] = tt
parts_numbered (p ∷ ps) = numbered_append (rules p) (flatten (map rules ps)) (rules_numbered p) (parts_numbered ps)

parts_held : (ps : List (List ℕ)) → Held (flatten (map rules ps)) → Every (λ p. refusal p ≡ 0) ps
unfolding flatten
parts_held [] h = tt
parts_held (p ∷ ps) h = ((obeys p).1 (held_left (rules p) (flatten (map rules ps)) h), parts_held ps (held_right (rules p) (flatten (map rules ps)) h))

held_parts : (ps : List (List ℕ)) → Every (λ p. refusal p ≡ 0) ps → Held (flatten (map rules ps))
unfolding flatten
held_parts [] h = tt
held_parts (p ∷ ps) h = held_append (rules p) (flatten (map rules ps)) ((obeys p).0 h.0) (held_parts ps h.1)

-- ---- 16

-- the parts are good and belong together
pub record Together (ps : List (List ℕ)) : Type 0 where
  pub good : Every (λ p. refusal p ≡ 0) ps
  pub some : 1 ≤ length ps
  pub most : length ps ≤ 1000
  pub alone : Every (λ p. segments (opened p).head ≡ 1) ps
  pub once : Once 1 (length ps) ps
  pub alike : Every (λ p. common (get_or ps 0 []) ≡ common p) ps

-- and their joined block is good too
pub record Joins (ps : List (List ℕ)) : Type 0 where
  pub together : Together ps
  pub block : refusal (joined_bytes ps) ≡ 0

module _ (ps : List (List ℕ)) where
  joins_of : Every (λ p. refusal p ≡ 0) ps → Each (joining ps) → Joins ps
  unfolding joining
  joins_of good t = record {
    together = record {
      good = good;
      some = leb-true 1 (length ps) t.0;
      most = leb-true (length ps) 1000 t.1.0;
      alone = every_map (λ p q. eqb-true (segments (opened p).head) 1 q) ps (all_every (λ p. eqb (segments (opened p).head) 1) ps t.1.1.0);
      once = λ k l m. eqb-true (length (indexed k ps)) 1 (every_up_from (λ j. eqb (length (indexed j ps)) 1) 1 (length ps) t.1.1.1.0 k l m);
      alike = every_map (λ p q. same_eq (common (get_or ps 0 [])) (common p) q) ps (all_every (λ p. same (common (get_or ps 0 [])) (common p)) ps t.1.1.1.1.0);
    };
    block = eqb-true (refusal (joined_bytes ps)) 0 t.1.1.1.1.1.0;
  }

  tests_of : Joins ps → Each (joining ps)
  unfolding joining
  tests_of j =
      let g : Together ps = j.together in (
        le-leb 1 (length ps) g.some,
        (
          le-leb (length ps) 1000 g.most,
          (
            every_all (λ p. eqb (segments (opened p).head) 1) ps (every_map (λ p q. eq-eqb (segments (opened p).head) 1 q) ps g.alone),
            (
              up_from_every (λ k. eqb (length (indexed k ps)) 1) 1 (length ps) (λ k l m. eq-eqb (length (indexed k ps)) 1 (g.once k l m)),
              (every_all (λ p. same (common (get_or ps 0 [])) (common p)) ps (every_map (λ p q. eq_same (common (get_or ps 0 [])) (common p) q) ps g.alike), (eq-eqb (refusal (joined_bytes ps)) 0 j.block, tt)),
            ),
          ),
        ),
      )

  -- the tests of 16 hold of good parts exactly where they can be joined
  pub joined_tests : Every (λ p. refusal p ≡ 0) ps → (all (joining ps) ≡ true) ↔ Joins ps
  joined_tests good = (λ e. joins_of good (all_each (joining ps) e), λ j. each_all (joining ps) (tests_of j))

-- ---- the number

-- that of the first bad part, and 0 where none is
unfoldable pub first_bad : List (List ℕ) → ℕ
first_bad ps = first (flatten (map rules ps))

pub first_bad_next : (p : List ℕ) (ps : List (List ℕ)) → first_bad (p ∷ ps) ≡ or_else (refusal p) (first_bad ps)
unfolding first_bad refusal flatten
first_bad_next p ps = first_append (rules p) (flatten (map rules ps)) (rules_numbered p)

pub first_bad_none : (ps : List (List ℕ)) → (first_bad ps ≡ 0) ↔ Every (λ p. refusal p ≡ 0) ps
unfolding first_bad
first_bad_none ps = (λ e. parts_held ps (first_held (flatten (map rules ps)) (parts_numbered ps) e), λ h. held_first (flatten (map rules ps)) (held_parts ps h))

module _ (s : List ℕ) (room : ℕ) where
  -- a join's number: the first bad part's, or 16, or 13
  pub join_number : join_refusal s room ≡ or_else (first_bad (parts_in s)) (cond (all (joining (parts_in s))) (cond (leb (length (joined_bytes (parts_in s))) room) 0 13) 16)
  unfolding join_refusal first_bad
  join_number =
      let ps : List (List ℕ) = parts_in s in
      let last : List (ℕ × List Bool) = (16, joining ps) ∷ (13, leb (length (joined_bytes ps)) room ∷ []) ∷ [] in
      first_append (flatten (map rules ps)) last (parts_numbered ps)
      ∙ ap (λ (t : Bool). or_else (first (flatten (map rules ps))) (cond (all (joining ps)) (cond t 0 13) 16)) (and_end (leb (length (joined_bytes ps)) room))
    where
      and_end : (t : Bool) → t && true ≡ t
      and_end true = refl
      and_end false = refl

  -- 13 stands behind the number that is given without it
  pub join_room : join_refusal s room ≡ or_else (or_else (first_bad (parts_in s)) (cond (all (joining (parts_in s))) 0 16)) (cond (leb (length (joined_bytes (parts_in s))) room) 0 13)
  join_room = join_number ∙ go (first_bad (parts_in s)) (all (joining (parts_in s))) (cond (leb (length (joined_bytes (parts_in s))) room) 0 13)
    where
      go : (n : ℕ) (t : Bool) (r : ℕ) → or_else n (cond t r 16) ≡ or_else (or_else n (cond t 0 16)) r
      go zero true r = refl
      go zero false r = refl
      go (suc n) t r = refl

  pub join_says : join_refusal s room ≡ 0 → Joins (parts_in s) × (length (joined_bytes (parts_in s)) ≤ room)
  join_says e = go (first_bad (parts_in s)) refl (all (joining (parts_in s))) refl (leb (length (joined_bytes (parts_in s))) room) refl (sym join_number ∙ e)
    where
      go : (n : ℕ) → first_bad (parts_in s) ≡ n → (t : Bool) → all (joining (parts_in s)) ≡ t → (u : Bool) → leb (length (joined_bytes (parts_in s))) room ≡ u
          → or_else n (cond t (cond u 0 13) 16) ≡ 0 → Joins (parts_in s) × (length (joined_bytes (parts_in s)) ≤ room)
      go zero a true b true c q = ((joined_tests (parts_in s) ((first_bad_none (parts_in s)).0 a)).0 b, leb-true (length (joined_bytes (parts_in s))) room c)
      go zero a true b false c q = absurd (omega arith)
      go zero a false b u c q = absurd (omega arith)
      go (suc n) a t b u c q = absurd (omega arith)

  pub says_join : Joins (parts_in s) → length (joined_bytes (parts_in s)) ≤ room → join_refusal s room ≡ 0
  says_join j h =
      let good : Every (λ p. refusal p ≡ 0) (parts_in s) = j.together.good in
      join_number
      ∙ λ i. or_else ((first_bad_none (parts_in s)).1 good i) (cond ((joined_tests (parts_in s) good).1 j i) (cond (le-leb (length (joined_bytes (parts_in s))) room h i) 0 13) 16)
