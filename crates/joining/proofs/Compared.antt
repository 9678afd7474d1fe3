-- For the code, which compares bytes: two good parts are alike exactly where their descriptors' bytes before and behind SEGMENT_INDEX and their user texts are the same (`alike-bytes`).
use mathlib.Core.Path.{◌≡◌, refl, sym, ap, ap₂, ◌∙◌, subst}
use mathlib.Core.Logic.{⊎_elim, ◌↔◌}
use Prim.Native.Nat.{ℕ, ◌+◌, ◌-◌, ◌≤◌, ◌<◌}
use native.Mathlib.Omega.{arith}
use mathlib.Core.Bool.{Bool, true, false, ◌&&◌, ◌||◌, false≢true}
use mathlib.Core.List.{List, [], ◌∷◌, ◌++◌, append_assoc}
use lib.ListN.{length, get_or, take, drop, length-drop, take-append-drop}
use lib.Seq.{take_at, drop_at, take-take, take-add, drop-drop, take-append-le, drop-append-le, get_or-take, length-take-le}
use lib.Dec.{leb, ltb, eqb}
use borrow.Author.Tests.{eqb-true, leb-true, ltb-true, ltb-false, eq-eqb, ne_eqb}
use Rattle.rules.specs.Numbers.{Bytes, number, bytes, total, up_from}
use Rattle.rules.specs.Template.{template, width_at, fields, laid}
use Rattle.rules.specs.Wave.{wave_of, head_of, decode}
use Rattle.rules.specs.Rules.{every?, payload, refusal, opened}
use Rattle.rules.proofs.Tests.{and_true, or_says}
use Rattle.rules.proofs.Template.{Above, above_template, total-template}
use Rattle.rules.proofs.Numbers.{laid-fields, length-laid, length-bytes}
use Rattle.rules.proofs.Waves.{Ruled, order_of}
use Rattle.rules.proofs.Opened.{fits-opened, ruled_opened}
use Rattle.joining.specs.Join.{common}
use Rattle.joining.proofs.Lists.{every_up_from}
use Rattle.joining.proofs.Alike.{width_past, heads_alike, texts_alike, common-alike}

-- ---- the descriptor laid field by field, in two runs

laid_append : (o : ℕ) (us vs : List ℕ) (h : ℕ → ℕ) → laid o (us ++ vs) h ≡ laid o us h ++ laid o vs (λ k. h (total us + k))
unfolding laid
laid_append o [] vs h = ap (laid o vs) (λ i k. h (zero-plus k i))
  where
    zero-plus : (k : ℕ) → k ≡ 0 + k
    zero-plus k = omega arith
laid_append o (u ∷ us) vs h =
    ap {B = List ℕ} (λ r. bytes o u (h 0) ++ r) (laid_append o us vs (λ k. h (u + k)) ∙ ap {B = List ℕ} (λ r. laid o us (λ k. h (u + k)) ++ r) (ap (laid o vs) (λ i k. h (plus k i))))
    ∙ sym (append_assoc (bytes o u (h 0)) (laid o us (λ k. h (u + k))) (laid o vs (λ k. h (u + total us + k))))
  where
    plus : (k : ℕ) → u + (total us + k) ≡ u + total us + k
    plus k = omega arith

laid_same : (o : ℕ) (ws : List ℕ) (f g : ℕ → ℕ) → Above ws → ((k : ℕ) → k < total ws → f k ≡ g k) → laid o ws f ≡ laid o ws g
unfolding laid
laid_same o [] f g a h = refl
laid_same o (w ∷ ws) f g a h =
    ap₂ {C = List ℕ} (λ x y. bytes o w x ++ y) (h 0 (omega (arith, a.0))) (laid_same o ws (λ k. f (w + k)) (λ k. g (w + k)) a.1 (λ k l. h (w + k) (omega arith)))

-- the fields before SEGMENT_INDEX, and those behind it
front : List ℕ
front = take 85 template

back : List ℕ
back = drop 86 template

runs : template ≡ front ++ (4 ∷ back)
unfolding template front back
runs = refl

total-front : total front ≡ 140
unfolding template front
total-front = refl

above_left : (us vs : List ℕ) → Above (us ++ vs) → Above us
above_left [] vs h = tt
above_left (u ∷ us) vs h = (h.0, above_left us vs h.1)

above_right : (us vs : List ℕ) → Above (us ++ vs) → Above vs
above_right [] vs h = h
above_right (u ∷ us) vs h = above_right us vs h.1

above_runs : Above (front ++ (4 ∷ back))
above_runs = subst Above runs above_template

module _ (o : ℕ) (h : ℕ → ℕ) where
  -- behind the front: SEGMENT_INDEX and the back
  tail_of : ℕ → ℕ
  tail_of k = h (total front + k)

  laid_runs : laid o template h ≡ laid o front h ++ (bytes o 4 (tail_of 0) ++ laid o back (λ k. tail_of (4 + k)))
  unfolding tail_of
  laid_runs = ap (λ (ws : List ℕ). laid o ws h) runs ∙ laid_append o front (4 ∷ back) h ∙ unfold laid in refl

  laid-front : take 140 (laid o template h) ≡ laid o front h
  laid-front = ap (take 140) laid_runs ∙ take_at (laid o front h) (bytes o 4 (tail_of 0) ++ laid o back (λ k. tail_of (4 + k))) 140 (length-laid o front h ∙ total-front)

  laid_back : drop 144 (laid o template h) ≡ laid o back (λ k. tail_of (4 + k))
  laid_back =
      ap (drop 144) laid_runs
      ∙ sym (drop-drop 4 140 (laid o front h ++ (bytes o 4 (tail_of 0) ++ laid o back (λ k. tail_of (4 + k)))))
      ∙ ap (drop 4) (drop_at (laid o front h) (bytes o 4 (tail_of 0) ++ laid o back (λ k. tail_of (4 + k))) 140 (length-laid o front h ∙ total-front))
      ∙ drop_at (bytes o 4 (tail_of 0)) (laid o back (λ k. tail_of (4 + k))) 4 (length-bytes o 4 (tail_of 0))

-- ---- a payload's descriptor

module _ (p : List ℕ) (r : Ruled p) where
  long : 346 ≤ length p
  long = omega (arith, r.tile.descriptor, r.tile.sum)

  written-head : laid (head_of p 34) template (head_of p) ≡ take 346 p
  unfolding head_of
  written-head =
      ap (λ (o : ℕ). laid o template (head_of p)) (order_of p r) ∙ laid-fields (get_or p 34 0) template p above_template r.bytes (omega (arith, total-template, long)) ∙ ap (λ (n : ℕ). take n p) total-template

  front_bytes : take 140 p ≡ laid (head_of p 34) front (head_of p)
  front_bytes = sym (take-take 140 346 p (omega arith)) ∙ ap (take 140) (sym written-head) ∙ laid-front (head_of p 34) (head_of p)

  back_bytes : take 202 (drop 144 p) ≡ laid (head_of p 34) back (λ k. tail_of (head_of p 34) (head_of p) (4 + k))
  back_bytes =
      sym (ap (drop 144) (take-add 144 202 p) ∙ drop_at (take 144 p) (take 202 (drop 144 p)) 144 (length-take-le 144 p (omega (arith, long))))
      ∙ ap (drop 144) (sym written-head) ∙ laid_back (head_of p 34) (head_of p)

-- a field's bytes lie before SEGMENT_INDEX or behind it
apart? : ℕ → Bool
apart? k = eqb k 140 || (eqb (width_at template k) 0 || (leb (k + width_at template k) 140 || leb 144 k && leb (k + width_at template k) 346))

all_apart : every? apart? (up_from 0 346) ≡ true
unfolding apart? up_from template width_at
all_apart = refl

-- bytes inside a part of a list
inside : (w k n : ℕ) (l : List ℕ) → k + w ≤ n → n ≤ length l → take w (drop k (take n l)) ≡ take w (drop k l)
inside w k n l h m =
    let t : length (take n l) ≡ n = length-take-le n l m in
    sym (take-append-le w (drop k (take n l)) (drop n l) (omega (arith, length-drop k (take n l))))
    ∙ ap (take w) (sym (drop-append-le k (take n l) (drop n l) (omega arith)) ∙ ap (drop k) (take-append-drop n l))

module _ (p q : List ℕ) (lp : 346 ≤ length p) (lq : 346 ≤ length q) (f : take 140 p ≡ take 140 q) (g : take 202 (drop 144 p) ≡ take 202 (drop 144 q)) where
  orders : get_or p 34 0 ≡ get_or q 34 0
  orders = sym (get_or-take 140 p 34 0 (omega arith)) ∙ ap (λ (l : List ℕ). get_or l 34 0) f ∙ get_or-take 140 q 34 0 (omega arith)

  before : (w k : ℕ) → k + w ≤ 140 → take w (drop k p) ≡ take w (drop k q)
  before w k h = sym (inside w k 140 p h (omega arith)) ∙ ap (λ (l : List ℕ). take w (drop k l)) f ∙ inside w k 140 q h (omega arith)

  behind : (w k : ℕ) → 144 ≤ k → k + w ≤ 346 → take w (drop k p) ≡ take w (drop k q)
  behind w k l h =
      let e : 144 + (k - 144) ≡ k = omega arith in
      let there : (r : List ℕ) → 346 ≤ length r → take w (drop (k - 144) (take 202 (drop 144 r))) ≡ take w (drop k r) = λ r m.
      inside w (k - 144) 202 (drop 144 r) (omega arith) (omega (arith, length-drop 144 r)) ∙ ap (take w) (drop-drop (k - 144) 144 r) ∙ ap (λ (n : ℕ). take w (drop n r)) e in
      sym (there p lp) ∙ ap (λ (x : List ℕ). take w (drop (k - 144) x)) g ∙ there q lq

  field_bytes : (k : ℕ) → eqb k 140 ≡ false → take (width_at template k) (drop k p) ≡ take (width_at template k) (drop k q)
  field_bytes k n = go (ltb k 346) refl
    where
      w : ℕ
      w = width_at template k

      none : w ≡ 0 → take w (drop k p) ≡ take w (drop k q)
      none e = ap (λ (m : ℕ). take m (drop k p)) e ∙ sym (ap (λ (m : ℕ). take m (drop k q)) e)

      go : (t : Bool) → ltb k 346 ≡ t → take w (drop k p) ≡ take w (drop k q)
      go false e = none (width_past template k (omega (arith, total-template, ltb-false k 346 e)))
      go true e = unfold apart? in
          ⊎_elim (λ (z : k ≡ 140). absurd (false≢true (sym n ∙ eq-eqb k 140 z)))
          (⊎_elim none (⊎_elim (before w k) (λ (z : (144 ≤ k) × (k + w ≤ 346)). behind w k z.0 z.1)))
          (or_says (eqb k 140) (eqb w 0 || (leb (k + w) 140 || leb 144 k && leb (k + w) 346)) (eqb-true k 140)
          (or_says (eqb w 0) (leb (k + w) 140 || leb 144 k && leb (k + w) 346) (eqb-true w 0)
          (or_says (leb (k + w) 140) (leb 144 k && leb (k + w) 346) (leb-true (k + w) 140)
          (λ z. let a = and_true (leb 144 k) (leb (k + w) 346) z in (leb-true 144 k a.0, leb-true (k + w) 346 a.1))))
          (every_up_from apart? 0 346 all_apart k (omega arith) (omega (arith, ltb-true k 346 e))))

  pub heads_same : (k : ℕ) → eqb k 140 ≡ false → head_of p k ≡ head_of q k
  unfolding head_of fields
  heads_same k n = ap₂ {C = ℕ} number orders (field_bytes k n)

-- ---- two parts

pub record SameBytes (p q : List ℕ) : Type 0 where
  pub front : take 140 (payload p) ≡ take 140 (payload q)
  pub back : take 202 (drop 144 (payload p)) ≡ take 202 (drop 144 (payload q))
  pub text : (opened p).text ≡ (opened q).text

pub alike-bytes : (p q : List ℕ) → Bytes p → Bytes q → refusal p ≡ 0 → refusal q ≡ 0 → (common p ≡ common q) ↔ SameBytes p q
unfolding opened decode wave_of tail_of
alike-bytes p q bp bq ep eq = (there, return)
  where
    rp : Ruled (payload p)
    rp = ruled_opened p bp ep

    rq : Ruled (payload q)
    rq = ruled_opened q bq eq

    there : common p ≡ common q → SameBytes p q
    there e =
        let h : (k : ℕ) → eqb k 140 ≡ false → head_of (payload p) k ≡ head_of (payload q) k = heads_alike p q e (fits-opened p bp ep) (fits-opened q bq eq) in
        let o : head_of (payload p) 34 ≡ head_of (payload q) 34 = h 34 refl in
        record {
          front =
              front_bytes (payload p) rp ∙ ap (λ (x : ℕ). laid x front (head_of (payload p))) o
              ∙ laid_same (head_of (payload q) 34) front (head_of (payload p)) (head_of (payload q)) (above_left front (4 ∷ back) above_runs) (λ k l. h k (ne_eqb k 140 (λ z. absurd (omega (arith, total-front)))))
              ∙ sym (front_bytes (payload q) rq);
          back =
              back_bytes (payload p) rp ∙ ap (λ (x : ℕ). laid x back (λ k. head_of (payload p) (total front + (4 + k)))) o
              ∙ laid_same (head_of (payload q) 34) back (λ k. head_of (payload p) (total front + (4 + k))) (λ k. head_of (payload q) (total front + (4 + k))) (above_right front (4 ∷ back) above_runs).1 (λ k l. h (total front + (4 + k)) (ne_eqb (total front + (4 + k)) 140 (λ z. absurd (omega (arith, total-front)))))
              ∙ sym (back_bytes (payload q) rq);
          text = texts_alike p q e;
        }

    return : SameBytes p q → common p ≡ common q
    return s = common-alike p q (heads_same (payload p) (payload q) (long (payload p) rp) (long (payload q) rq) s.front s.back) s.text
