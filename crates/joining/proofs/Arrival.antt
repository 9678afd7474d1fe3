-- Every order of arrival gives the same number, where no part is bad (`any_number`), and the same bytes (`any_order`); so do the parts of an accepted join laid back to back in any other order (`reordered`).
use mathlib.Core.Path.{◌≡◌, refl, sym, ap, ◌∙◌, subst}
use Prim.Native.Nat.{ℕ, ◌+◌, ◌≤◌, ◌<◌}
use native.Mathlib.Omega.{arith}
use mathlib.Core.Bool.{Bool, true, false, cond, false≢true}
use mathlib.Core.Logic.{◌↔◌}
use mathlib.Core.List.Permᴰ
use mathlib.Core.List.{List, [], map, flatten, Permᴰ}
use lib.ListN.{length, get_or}
use lib.Dec.{leb}
use Rattle.rules.specs.Numbers.{up_from}
use Rattle.rules.specs.Wave.{segments, encode, framed}
use Rattle.rules.specs.Rules.{all, refusal, opened}
use Rattle.rules.specs.Cut.{or_else}
use Rattle.joining.specs.Join.{indexed, part_at, parts_in, by_index, joined, joined_bytes, common, joining, join_refusal}
use Rattle.joining.proofs.Lists.{Every, every_map, every_get_or, perm_length, perm_every, map-up_from}
use Rattle.joining.proofs.Parts.{Ends, parts-end, parts-flatten}
use Rattle.joining.proofs.Index.{indexed_perm}
use Rattle.joining.proofs.Says.{Together, Joins, joined_tests, first_bad_none, join_number, join_says}

module _ (ps qs : List (List ℕ)) (d : Permᴰ ps qs) (j : Together ps) where
  same_index : (k : ℕ) → 1 ≤ k → k < 1 + length ps → indexed k ps ≡ indexed k qs
  same_index k l m = indexed_perm k d (j.once k l m)

  by_index_perm : by_index ps ≡ by_index qs
  unfolding by_index part_at
  by_index_perm =
      map-up_from (λ k. part_at k ps) (λ k. part_at k qs) 1 (length ps) (λ k l m. ap (λ (r : List (List ℕ)). get_or r 0 []) (same_index k l m))
      ∙ ap (λ (n : ℕ). map (λ k. part_at k qs) (up_from 1 n)) (perm_length d)

  pub bytes_perm : joined_bytes ps ≡ joined_bytes qs
  unfolding joined_bytes
  bytes_perm = ap (λ (r : List (List ℕ)). framed (encode (joined (map opened r)))) by_index_perm

  pub together_perm : Together qs
  together_perm =
      let c : List ℕ = common (get_or ps 0 []) in
      let alike = perm_every (λ p. c ≡ common p) d j.alike in
      record {
        good = perm_every (λ p. refusal p ≡ 0) d j.good;
        some = omega (arith, perm_length d, j.some);
        most = omega (arith, perm_length d, j.most);
        alone = perm_every (λ p. segments (opened p).head ≡ 1) d j.alone;
        once = λ k l m.
            let h : k < 1 + length ps = omega (arith, perm_length d) in
            sym (ap length (same_index k l h)) ∙ j.once k l h;
        alike = every_map (λ p e. sym (every_get_or (λ p. c ≡ common p) qs 0 [] (omega (arith, perm_length d, j.some)) alike) ∙ e) qs alike;
      }

pub joins_perm : (ps qs : List (List ℕ)) → Permᴰ ps qs → Joins ps → Joins qs
joins_perm ps qs d j = record { together = together_perm ps qs d j.together; block = subst (λ (b : List ℕ). refusal b ≡ 0) (bytes_perm ps qs d j.together) j.block }

module _ (s t : List ℕ) (room : ℕ) (d : Permᴰ (parts_in s) (parts_in t)) where
  -- also where it is refused by 16 or 13
  pub any_number : Every (λ p. refusal p ≡ 0) (parts_in s) → join_refusal s room ≡ join_refusal t room
  any_number good =
      let ps : List (List ℕ) = parts_in s in
      let qs : List (List ℕ) = parts_in t in
      let well : Every (λ p. refusal p ≡ 0) qs = perm_every (λ p. refusal p ≡ 0) d good in
      join_number s room
      ∙ ap (λ (n : ℕ). or_else n (cond (all (joining ps)) (cond (leb (length (joined_bytes ps)) room) 0 13) 16)) ((first_bad_none ps).1 good)
      ∙ go (all (joining ps)) refl (all (joining qs)) refl (joined_tests ps good) (joined_tests qs well)
      ∙ ap (λ (n : ℕ). or_else n (cond (all (joining qs)) (cond (leb (length (joined_bytes qs)) room) 0 13) 16)) (sym ((first_bad_none qs).1 well))
      ∙ sym (join_number t room)
    where
      go : (x : Bool) → all (joining (parts_in s)) ≡ x → (y : Bool) → all (joining (parts_in t)) ≡ y
          → (all (joining (parts_in s)) ≡ true) ↔ Joins (parts_in s) → (all (joining (parts_in t)) ≡ true) ↔ Joins (parts_in t)
          → ◌≡◌ {A = ℕ} (cond x (cond (leb (length (joined_bytes (parts_in s))) room) 0 13) 16) (cond y (cond (leb (length (joined_bytes (parts_in t))) room) 0 13) 16)
      go true e true f js jt = ap {B = ℕ} (λ (b : List ℕ). cond (leb (length b) room) 0 13) (bytes_perm (parts_in s) (parts_in t) d (js.0 e).together)
      go true e false f js jt = absurd (false≢true (sym f ∙ jt.1 (joins_perm (parts_in s) (parts_in t) d (js.0 e))))
      go false e true f js jt = absurd (false≢true (sym e ∙ js.1 (joins_perm (parts_in t) (parts_in s) (Permᴰ.symm d) (jt.0 f))))
      go false e false f js jt = refl

  pub any_order : join_refusal s room ≡ 0 → (join_refusal t room ≡ 0) × (joined_bytes (parts_in s) ≡ joined_bytes (parts_in t))
  any_order e = let j : Joins (parts_in s) = (join_says s room e).0 in (sym (any_number j.together.good) ∙ e, bytes_perm (parts_in s) (parts_in t) d j.together)

pub reordered : (s : List ℕ) (room : ℕ) → join_refusal s room ≡ 0 → (ps : List (List ℕ)) → Permᴰ (parts_in s) ps → (join_refusal (flatten ps) room ≡ 0) × (joined_bytes (parts_in s) ≡ joined_bytes (parts_in (flatten ps)))
reordered s room e ps d =
    let read : parts_in (flatten ps) ≡ ps = parts-flatten ps (perm_every Ends d (parts-end s (join_says s room e).0.together.good)) in
    any_order s (flatten ps) room (subst (Permᴰ (parts_in s)) (sym read) d) e
