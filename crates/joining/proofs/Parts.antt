-- The parts of a slice: one after another (`parts_next`) they cover it (`parts_cover`), what breaks rule 1 or is cut short is 1 or 2 (`unframed_part`, `cut-part`), a good part ends after its L bytes (`parts-end`), and
-- blocks laid back to back that end so are read as they are (`parts-flatten`).
use mathlib.Core.Path.{◌≡◌, refl, sym, ap, ap₂, ◌∙◌}
use Prim.Native.Nat.{ℕ, zero, suc, ◌+◌, ◌-◌, ◌≤◌, ◌<◌}
use native.Mathlib.Omega.{arith}
use mathlib.Core.Bool.{Bool, true, false, ◌&&◌}
use mathlib.Core.Logic.{⊎_elim}
use mathlib.Core.List.{List, [], ◌∷◌, ◌++◌, map, reverse, flatten}
use lib.ListN.{length, get_or, take, drop, get_or-append, length-append, length-take, length-drop, take-append-drop}
use lib.Seq.{take-append-le, drop-append-le, take_at, drop_at, take_all, length-take-le, get_or-take}
use lib.Dec.{leb, ltb, eqb}
use borrow.Author.Tests.{leb-true, leb-false, le-leb, lt-leb, ltb-true, ltb-false}
use Rattle.rules.specs.Numbers.{Bytes, low}
use Rattle.rules.specs.Rules.{all, every?, digit?, digit_count, payload_start, stated, frame, sized, rules, refusal}
use Rattle.rules.proofs.Tests.{here, later, all_each}
use Rattle.rules.proofs.Facts.{sized-says}
use Rattle.rules.proofs.Numbers.{below-take, below-drop}
use Rattle.rules.proofs.Slices.{part-take}
use Rattle.rules.proofs.Opened.{breaks}
use Rattle.joining.specs.Join.{part_end, parts_up_to, parts_in}
use Rattle.joining.proofs.Lists.{Every}

cover_up_to : (n : ℕ) (s : List ℕ) → length s ≤ n → flatten (parts_up_to n s) ≡ s
unfolding parts_up_to flatten
cover_up_to zero [] l = refl
cover_up_to zero (b ∷ s) l = absurd (omega arith)
cover_up_to (suc n) [] l = refl
cover_up_to (suc n) (b ∷ s) l =
    let e : ℕ = part_end (b ∷ s) in
    ap {B = List ℕ} (λ r. take e (b ∷ s) ++ r) (cover_up_to n (drop e (b ∷ s)) (omega (arith, length-drop e (b ∷ s)))) ∙ take-append-drop e (b ∷ s)

pub parts_cover : (s : List ℕ) → flatten (parts_in s) ≡ s
unfolding parts_in
parts_cover s = cover_up_to (length s) s (omega arith)

-- the first part, and those of what is behind it
any_bound : (m n : ℕ) (s : List ℕ) → length s ≤ m → length s ≤ n → parts_up_to m s ≡ parts_up_to n s
unfolding parts_up_to
any_bound zero zero s l h = refl
any_bound zero (suc n) [] l h = refl
any_bound zero (suc n) (b ∷ s) l h = absurd (omega arith)
any_bound (suc m) zero [] l h = refl
any_bound (suc m) zero (b ∷ s) l h = absurd (omega arith)
any_bound (suc m) (suc n) [] l h = refl
any_bound (suc m) (suc n) (b ∷ s) l h =
    let e : ℕ = part_end (b ∷ s) in
    ap {B = List (List ℕ)} (λ r. take e (b ∷ s) ∷ r) (any_bound m n (drop e (b ∷ s)) (omega (arith, length-drop e (b ∷ s))) (omega (arith, length-drop e (b ∷ s))))

pub parts_none : parts_in [] ≡ []
unfolding parts_in parts_up_to
parts_none = refl

pub parts_next : (s : List ℕ) → 0 < length s → parts_in s ≡ take (part_end s) s ∷ parts_in (drop (part_end s) s)
unfolding parts_in parts_up_to
parts_next [] h = absurd (omega arith)
parts_next (b ∷ s) h =
    let e : ℕ = part_end (b ∷ s) in
    ap {B = List (List ℕ)} (λ r. take e (b ∷ s) ∷ r) (any_bound (length s) (length (drop e (b ∷ s))) (drop e (b ∷ s)) (omega (arith, length-drop e (b ∷ s))) (omega arith))

bytes_up_to : (n : ℕ) (s : List ℕ) → Bytes s → Every Bytes (parts_up_to n s)
unfolding parts_up_to
bytes_up_to zero s b = tt
bytes_up_to (suc n) [] b = tt
bytes_up_to (suc n) (x ∷ s) b =
    let e : ℕ = part_end (x ∷ s) in (below-take 256 e (x ∷ s) b, bytes_up_to n (drop e (x ∷ s)) (below-drop 256 e (x ∷ s) b))

pub parts-bytes : (s : List ℕ) → Bytes s → Every Bytes (parts_in s)
unfolding parts_in
parts-bytes s b = bytes_up_to (length s) s b

-- ---- where a part ends

-- the header's numbers are in its bytes
module _ (p r : List ℕ) where
  start_append : 2 ≤ length p → payload_start (p ++ r) ≡ payload_start p
  start_append h = ap (λ (b : ℕ). 2 + (b - 48)) (get_or-append p r 0 1 (omega arith))

  stated_append : 2 ≤ length p → payload_start p ≤ length p → stated (p ++ r) ≡ stated p
  unfolding stated
  stated_append h l =
      let d : digit_count (p ++ r) ≡ digit_count p = ap (λ (b : ℕ). b - 48) (get_or-append p r 0 1 (omega arith)) in
      ap (λ (x : List ℕ). low 10 (reverse (map (λ (b : ℕ). b - 48) x)))
      (ap₂ {C = List ℕ} (λ n x. take n x) d (drop-append-le 2 p r h) ∙ take-append-le (digit_count p) (drop 2 p) r (omega (arith, length-drop 2 p)))

-- of a slice cut off behind its header
module _ (n : ℕ) (s : List ℕ) (h : 2 ≤ length (take n s)) where
  pub start-take : payload_start (take n s) ≡ payload_start s
  start-take = sym (start_append (take n s) (drop n s) h) ∙ ap payload_start (take-append-drop n s)

  pub stated-take : payload_start s ≤ length (take n s) → stated (take n s) ≡ stated s
  stated-take l = sym (stated_append (take n s) (drop n s) h (omega (arith, start-take))) ∙ ap stated (take-append-drop n s)

-- a test of a length that reaches no further than the cut
long-take : (k n : ℕ) (s : List ℕ) → k ≤ n → leb k (length (take n s)) ≡ leb k (length s)
long-take k n s h = go (leb k (length s)) refl
  where
    go : (t : Bool) → leb k (length s) ≡ t → leb k (length (take n s)) ≡ t
    go true e = le-leb k (length (take n s)) (omega (arith, leb-true k (length s) e, length-take n s))
    go false e = lt-leb k (length (take n s)) (omega (arith, leb-false k (length s) e, length-take n s))

-- rule 1 of a part is that of what is left of the slice
pub frame-part : (s : List ℕ) → frame (take (part_end s) s) ≡ frame s
unfolding frame
frame-part s =
    let e : ℕ = part_end s in
    let b : get_or (take e s) 1 0 ≡ get_or s 1 0 = get_or-take e s 1 0 (omega arith) in
    let a : get_or (take e s) 0 0 ≡ get_or s 0 0 = get_or-take e s 0 0 (omega arith) in
    let d : take (digit_count (take e s)) (drop 2 (take e s)) ≡ take (digit_count s) (drop 2 s) =
    ap (λ (n : ℕ). take (n - 48) (drop 2 (take e s))) b ∙ part-take (digit_count s) 2 e s (omega arith) in
    let l : leb (payload_start (take e s)) (length (take e s)) ≡ leb (payload_start s) (length s) =
    ap (λ (n : ℕ). leb (2 + (n - 48)) (length (take e s))) b ∙ long-take (payload_start s) e s (omega arith) in
    λ i. long-take 2 e s (omega arith) i ∷ eqb (a i) 35 ∷ (leb 49 (b i) && leb (b i) 57) ∷ l i ∷ every? digit? (d i) ∷ []

-- a part whose header breaks rule 1, and one of which fewer bytes are there than its header says
pub unframed_part : (s : List ℕ) → all (frame s) ≡ false → refusal (take (part_end s) s) ≡ 1
unframed_part s e = (breaks (take (part_end s) s) 1 (omega arith)).1 (unfold rules in here (ap all (frame-part s) ∙ e))

short_part : (s : List ℕ) → all (frame s) ≡ true → length s < part_end s → refusal s ≡ 2
short_part s f h = go (all (sized s)) refl
  where
    go : (t : Bool) → all (sized s) ≡ t → refusal s ≡ 2
    go false e = (breaks s 2 (omega arith)).1 (unfold rules in later (all_each (frame s) f) (here e))
    go true e =
        ⊎_elim (λ (q : length s ≡ part_end s). absurd (omega arith)) (λ (q : (length s ≡ part_end s + 1) × (get_or s (part_end s) 0 ≡ 10)). absurd (omega (arith, q.0)))
        (sized-says s (all_each (sized s) e)).whole

pub cut-part : (s : List ℕ) → all (frame s) ≡ true → length s < part_end s → refusal (take (part_end s) s) ≡ 2
cut-part s f h = ap refusal (take_all (part_end s) s (omega arith)) ∙ short_part s f h

-- a block that ends after its L bytes
abbrev pub Ends : List ℕ → Type 0
Ends p = length p ≡ part_end p

good-ends : (s : List ℕ) → refusal (take (part_end s) s) ≡ 0 → Ends (take (part_end s) s)
good-ends s e = go (all (frame s)) refl (ltb (length s) (part_end s)) refl
  where
    go : (f : Bool) → all (frame s) ≡ f → (t : Bool) → ltb (length s) (part_end s) ≡ t → Ends (take (part_end s) s)
    go false f t q = absurd (omega (arith, unframed_part s f))
    go true f true q = absurd (omega (arith, cut-part s f (ltb-true (length s) (part_end s) q)))
    go true f false q =
        let h : part_end s ≤ length s = ltb-false (length s) (part_end s) q in
        let l : length (take (part_end s) s) ≡ part_end s = length-take-le (part_end s) s h in
        omega (arith, start-take (part_end s) s (omega arith), stated-take (part_end s) s (omega arith) (omega arith))

ends_up_to : (n : ℕ) (s : List ℕ) → Every (λ p. refusal p ≡ 0) (parts_up_to n s) → Every Ends (parts_up_to n s)
unfolding parts_up_to
ends_up_to zero s h = tt
ends_up_to (suc n) [] h = tt
ends_up_to (suc n) (b ∷ s) h = (good-ends (b ∷ s) h.0, ends_up_to n (drop (part_end (b ∷ s)) (b ∷ s)) h.1)

pub parts-end : (s : List ℕ) → Every (λ p. refusal p ≡ 0) (parts_in s) → Every Ends (parts_in s)
unfolding parts_in
parts-end s = ends_up_to (length s) s

-- ---- blocks back to back

none_up_to : (n : ℕ) → parts_up_to n [] ≡ []
unfolding parts_up_to
none_up_to zero = refl
none_up_to (suc n) = refl

next_up_to : (n : ℕ) (p r : List ℕ) → Ends p → parts_up_to (suc n) (p ++ r) ≡ p ∷ parts_up_to n r
unfolding parts_up_to
next_up_to n [] r e = absurd (omega arith)
next_up_to n (b ∷ p) r e =
    let q : List ℕ = b ∷ p in
    let m : length q ≡ part_end (q ++ r) = omega (arith, e, start_append q r (omega (arith, e)), stated_append q r (omega (arith, e)) (omega (arith, e))) in
    ap₂ {C = List (List ℕ)} (λ x y. x ∷ parts_up_to n y) (take_at q r (part_end (q ++ r)) m) (drop_at q r (part_end (q ++ r)) m)

flatten_up_to : (n : ℕ) (ps : List (List ℕ)) → Every Ends ps → length (flatten ps) ≤ n → parts_up_to n (flatten ps) ≡ ps
unfolding flatten
flatten_up_to n [] h l = none_up_to n
flatten_up_to zero (p ∷ ps) h l = absurd (omega (arith, length-append p (flatten ps), h.0))
flatten_up_to (suc n) (p ∷ ps) h l =
    next_up_to n p (flatten ps) h.0 ∙ ap {B = List (List ℕ)} (λ x. p ∷ x) (flatten_up_to n ps h.1 (omega (arith, length-append p (flatten ps), h.0)))

pub parts-flatten : (ps : List (List ℕ)) → Every Ends ps → parts_in (flatten ps) ≡ ps
unfolding parts_in
parts-flatten ps h = flatten_up_to (length (flatten ps)) ps h (omega arith)
