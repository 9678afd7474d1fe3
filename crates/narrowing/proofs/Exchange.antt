-- Narrowing and cutting change places: as waves (`cut-narrow`), and as bytes wherever both are accepted, which is the same either way (`exchange`).
-- Narrowing twice is narrowing once (`narrow_twice`).
use mathlib.Core.Path.{◌≡◌, refl, sym, ap, ◌∙◌, subst, fun_ext}
use mathlib.Core.Logic.{◌⊎◌, inl, inr, ◌↔◌}
use Prim.Native.Nat.{ℕ, zero, suc, ◌-◌, ◌≤◌}
use native.Mathlib.Nat.{mul-one}
use mathlib.Core.List.{List, [], ◌∷◌, ◌++◌, map, map-map, flatten}
use lib.ListN.{length}
use Rattle.rules.specs.Numbers.{Bytes}
use Rattle.rules.specs.Wave.{Wave, encode, framed}
use Rattle.rules.specs.Rules.{refusal, opened}
use Rattle.rules.specs.Cut.{Setup, step, thinned, limited, only, kept, changed, changes, cut, cut_bytes, cut_refusal}
use Rattle.rules.proofs.Rows.{map-take, map-only}
use Rattle.rules.proofs.Fields.{instead-out, out_both, agree}
use Rattle.rules.proofs.Demands.{Allowed, cut_accepted, CutTaken, cut-says, says-cut}
use Rattle.narrowing.specs.Narrow.{high, comm_type, narrow_changes, narrowed, narrow_by, narrow, narrow_bytes, narrow_refusal}
use Rattle.narrowing.proofs.Highs.{length_high}
use Rattle.narrowing.proofs.Accepted.{Gained, NarrowTaken, narrow-says, says-narrow, narrow_byte, narrow-read, narrow_accepted}

-- ---- what is kept of a row of high bytes

module _ {A B : Type 0} (f : A → B) where
  thinned-map : (n k : ℕ) (xs : List A) → thinned n k (map f xs) ≡ map f (thinned n k xs)
  unfolding thinned
  thinned-map n k [] = refl
  thinned-map n zero (x ∷ xs) = ap {B = List B} (λ r. f x ∷ r) (thinned-map n (n - 1) xs)
  thinned-map n (suc k) (x ∷ xs) = thinned-map n k xs

  limited-map : (n : ℕ) (xs : List A) → limited n (map f xs) ≡ map f (limited n xs)
  limited-map zero xs = refl
  limited-map (suc n) xs = sym (map-take f (suc n) xs)

  pub kept_map : (s : Setup) (xs : List A) → kept s (map f xs) ≡ map f (kept s xs)
  unfolding kept
  kept_map s xs = ap (limited s.np) (thinned-map (step s) s.fp xs) ∙ limited-map s.np (thinned (step s) s.fp xs)

table-high : (s : Setup) (t : List (List ℕ)) → map (kept s) (only s.sn (map (map high) t)) ≡ map (map high) (map (kept s) (only s.sn t))
table-high s t =
    ap (map (kept s)) (sym (map-only (map high) s.sn t)) ∙ map-map (kept s) (map high) (only s.sn t)
    ∙ ap (λ (f : List ℕ → List ℕ). map f (only s.sn t)) (fun_ext (kept_map high s)) ∙ sym (map-map (map high) (kept s) (only s.sn t))

-- ---- as waves

cut-narrowed : (o : ℕ) (s : Setup) (w : Wave) → cut o s (narrowed w) ≡ narrowed (cut o s w)
unfolding cut narrowed
cut-narrowed o s w =
    let h : ℕ → ℕ = w.head in
    let trig : List (List ℕ) = only s.sn w.trig in
    let one : List (List ℕ) = map (kept s) (only s.sn w.one) in
    let two : List (List ℕ) = map (kept s) (only s.sn w.two) in
    let e1 : map (kept s) (only s.sn (map (map high) w.one)) ≡ map (map high) one = table-high s w.one in
    let e2 : map (kept s) (only s.sn (map (map high) w.two)) ≡ map (map high) two = table-high s w.two in
    let l1 : length (flatten (map (kept s) (only s.sn (map (map high) w.one)))) ≡ length (flatten (map (map high) one)) = ap (λ (t : List (List ℕ)). length (flatten t)) e1 in
    let l2 : length (flatten (map (kept s) (only s.sn (map (map high) w.two)))) ≡ length (flatten (map (map high) two)) = ap (λ (t : List (List ℕ)). length (flatten t)) e2 in
    let ns : List (ℕ × ℕ) = narrow_changes h (map (map high) w.one) (map (map high) w.two) in
    let cs : List (ℕ × ℕ) = changes o s (changed ns h) trig (map (kept s) (only s.sn (map (map high) w.one))) (map (kept s) (only s.sn (map (map high) w.two))) in
    let ds : List (ℕ × ℕ) = changes o s h trig one two in
    let ms : List (ℕ × ℕ) = narrow_changes (changed ds h) (map (map high) one) (map (map high) two) in
    λ i. record {
      head = λ k. agree (changed cs (changed ns h)) (changed ms (changed ds h)) (cs ++ ns)
          (refl, (refl, (mul-one _ ∙ l1, (mul-one _ ∙ l2, (l1 ∙ length_high one, (refl, (refl, (refl, (refl, (refl, (mul-one _ ∙ l1, (mul-one _ ∙ l2, (refl, tt))))))))))))) k
          (λ q.
          let o = out_both k cs ns q in
          instead-out cs k (changed ns h k) o.0 ∙ instead-out ns k (h k) o.1 ∙ sym (instead-out ms k (changed ds h k) o.1 ∙ instead-out ds k (h k) o.0)) i;
      text = w.text;
      trig = trig;
      ris = w.ris;
      one = e1 i;
      two = e2 i;
    }

pub cut-narrow : (o : ℕ) (s : Setup) (w : Wave) → cut o s (narrow w) ≡ narrow (cut o s w)
unfolding narrow
cut-narrow o s w = go (comm_type w.head) ∙ ap (λ (t : ℕ). narrow_by t (cut o s w)) same
  where
    same : comm_type w.head ≡ comm_type (cut o s w).head
    same = unfold cut in refl

    go : (t : ℕ) → cut o s (narrow_by t w) ≡ narrow_by t (cut o s w)
    go zero = refl
    go (suc t) = cut-narrowed o s w

-- ---- which cuts are allowed, and which narrowings, is the same before and after the other

allowed_cut : (o : ℕ) (c : Setup) (w : Wave) → Allowed o c w.head → Allowed o c (narrow w).head
unfolding narrow
allowed_cut o c w a = go (comm_type w.head)
  where
    go : (t : ℕ) → Allowed o c (narrow_by t w).head
    go zero = a
    go (suc t) = unfold narrowed in record { order = a.order; taken = record { segment = a.taken.segment; point = a.taken.point }; sparse = a.sparse }

cut_allowed : (o : ℕ) (c : Setup) (w : Wave) → Allowed o c (narrow w).head → Allowed o c w.head
unfolding narrow
cut_allowed o c w = go (comm_type w.head)
  where
    go : (t : ℕ) → Allowed o c (narrow_by t w).head → Allowed o c w.head
    go zero a = a
    go (suc t) a = unfold narrowed in record { order = a.order; taken = record { segment = a.taken.segment; point = a.taken.point }; sparse = a.sparse }

-- ---- as bytes

-- both calls are accepted, the first with an output of n bytes and the second with one of m
abbrev pub NarrowThenCut : List ℕ → ℕ → Setup → ℕ → ℕ → Type 0
NarrowThenCut s o c n m = (narrow_refusal s n ≡ 0) × (cut_refusal o c (narrow_bytes s) m ≡ 0)

abbrev pub CutThenNarrow : List ℕ → ℕ → Setup → ℕ → ℕ → Type 0
CutThenNarrow s o c n m = (cut_refusal o c s n ≡ 0) × (narrow_refusal (cut_bytes o c s) m ≡ 0)

-- what either comes to, but for the room
record Both (s : List ℕ) (o : ℕ) (c : Setup) : Type 0 where
  block : refusal s ≡ 0
  gains : Gained (opened s).head
  allows : Allowed o c (opened s).head

module _ (s : List ℕ) (b : Bytes s) (o : ℕ) (c : Setup) where
  module _ (x : Both s o c) where
    narrow-first : opened (narrow_bytes s) ≡ narrow (opened s)
    narrow-first = (narrow-read s b x.block x.gains).1

    cut-first : opened (cut_bytes o c s) ≡ cut o c (opened s)
    cut-first = (cut_accepted s b x.block o c x.allows).1

    same_bytes : cut_bytes o c (narrow_bytes s) ≡ narrow_bytes (cut_bytes o c s)
    unfolding cut_bytes narrow_bytes
    same_bytes = ap (λ (w : Wave). framed (encode w)) (ap (cut o c) narrow-first ∙ cut-narrow o c (opened s) ∙ sym (ap narrow cut-first))

    cut_last : (m : ℕ) → length (cut_bytes o c (narrow_bytes s)) ≤ m → cut_refusal o c (narrow_bytes s) m ≡ 0
    cut_last m r =
        says-cut (narrow_bytes s) o c m
        (record { block = (narrow-read s b x.block x.gains).0; allows = subst (λ (w : Wave). Allowed o c w.head) (sym narrow-first) (allowed_cut o c (opened s) x.allows); room = r })

    narrow_last : (m : ℕ) → length (narrow_bytes (cut_bytes o c s)) ≤ m → narrow_refusal (cut_bytes o c s) m ≡ 0
    narrow_last m r =
        says-narrow (cut_bytes o c s) m
        (record { block = (cut_accepted s b x.block o c x.allows).0; gains = subst (λ (w : Wave). Gained w.head) (sym cut-first) (unfold cut in x.gains); room = r })

  from-narrow : (n m : ℕ) → NarrowThenCut s o c n m → Both s o c
  from-narrow n m p =
      let t : NarrowTaken s n = narrow-says s n p.0 in
      record { block = t.block; gains = t.gains; allows = cut_allowed o c (opened s) (subst (λ (w : Wave). Allowed o c w.head) (narrow-read s b t.block t.gains).1 (cut-says (narrow_bytes s) o c m p.1).allows) }

  from_cut : (n m : ℕ) → CutThenNarrow s o c n m → Both s o c
  from_cut n m p =
      let t : CutTaken s o c n = cut-says s o c n p.0 in
      record { block = t.block; gains = unfold cut in subst (λ (w : Wave). Gained w.head) (cut_accepted s b t.block o c t.allows).1 (narrow-says (cut_bytes o c s) m p.1).gains; allows = t.allows }

  -- wherever one of the two is accepted, narrowing and then cutting gives the same bytes as cutting and then narrowing
  pub exchange : (n m : ℕ) → NarrowThenCut s o c n m ⊎ CutThenNarrow s o c n m → cut_bytes o c (narrow_bytes s) ≡ narrow_bytes (cut_bytes o c s)
  exchange n m (inl p) = same_bytes (from-narrow n m p)
  exchange n m (inr p) = same_bytes (from_cut n m p)

  -- and given room for what is written first, one is accepted exactly when the other is
  pub exchange_accepted : (n k m : ℕ) → length (narrow_bytes s) ≤ n → length (cut_bytes o c s) ≤ k → NarrowThenCut s o c n m ↔ CutThenNarrow s o c k m
  exchange_accepted n k m ln lk = (forth, back)
    where
      forth : NarrowThenCut s o c n m → CutThenNarrow s o c k m
      forth p =
          let x : Both s o c = from-narrow n m p in
          (says-cut s o c k (record { block = x.block; allows = x.allows; room = lk }), narrow_last x m (subst (λ (t : List ℕ). length t ≤ m) (same_bytes x) (cut-says (narrow_bytes s) o c m p.1).room))

      back : CutThenNarrow s o c k m → NarrowThenCut s o c n m
      back p =
          let x : Both s o c = from_cut k m p in
          (says-narrow s n (record { block = x.block; gains = x.gains; room = ln }), cut_last x m (subst (λ (t : List ℕ). length t ≤ m) (sym (same_bytes x)) (narrow-says (cut_bytes o c s) m p.1).room))

-- ---- twice

narrow_type : (w : Wave) → comm_type (narrow w).head ≡ 0
unfolding narrow
narrow_type w = go (comm_type w.head) refl
  where
    go : (t : ℕ) → comm_type w.head ≡ t → comm_type (narrow_by t w).head ≡ 0
    go zero e = e
    go (suc t) e = unfold narrowed in refl

-- narrowing what was narrowed is accepted given room, and writes the same bytes
pub narrow_twice : (s : List ℕ) → Bytes s → (n : ℕ) → narrow_refusal s n ≡ 0 → (narrow_refusal (narrow_bytes s) n ≡ 0) × (narrow_bytes (narrow_bytes s) ≡ narrow_bytes s)
narrow_twice s b n e = (says-narrow (narrow_bytes s) n (record { block = (narrow_accepted s b n e).0; gains = inl byte; room = subst (λ (t : List ℕ). length t ≤ n) (sym same) (narrow-says s n e).room }), same)
  where
    read : opened (narrow_bytes s) ≡ narrow (opened s)
    read = (narrow_accepted s b n e).1

    byte : comm_type (opened (narrow_bytes s)).head ≡ 0
    byte = ap (λ (w : Wave). comm_type w.head) read ∙ narrow_type (opened s)

    same : narrow_bytes (narrow_bytes s) ≡ narrow_bytes s
    same = unfold narrow_bytes in ap (λ (w : Wave). framed (encode w)) (ap narrow read ∙ narrow_byte (narrow (opened s)) (narrow_type (opened s)))
