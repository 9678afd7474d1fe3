-- A good part beside the first: what the slice holds of each, and that their bytes are the same exactly where the parts are alike (`alike_if`, `alike-only`).
use mathlib.Core.Path.{◌≡◌, refl, sym, ap, ◌∙◌, subst}
use Prim.Native.Nat.{ℕ, ◌+◌, ◌≤◌, ◌<◌}
use native.Mathlib.Omega.{arith}
use mathlib.Core.Bool.{true, false, ◌&&◌}
use mathlib.Core.List.{List}
use lib.ListN.{length, get_or, take, drop}
use lib.Dec.{eqb}
use Rattle.rules.specs.Numbers.{Bytes, starts_from}
use Rattle.rules.specs.Wave.{starts_of, wave_of, decode}
use Rattle.rules.specs.Rules.{same, payload_start, stated, payload, refusal, opened}
use Rattle.rules.proofs.Tests.{and_true, and_intro}
use Rattle.rules.proofs.Numbers.{same_eq, eq_same}
use Rattle.rules.proofs.Slices.{payload-part}
use Rattle.rules.proofs.Opened.{sized-opened, payload_there, length-payload, good-opened, fits-opened}
use Rattle.copies.specs.Copies.{part}
use Rattle.joining.specs.Join.{common}
use Rattle.joining.proofs.Alike.{heads_alike}
use Rattle.joining.proofs.Compared.{SameBytes, alike-bytes, heads_same}
use Rattle.parts.specs.Parts.{this}
use Rattle.parts.proofs.Standing.{reach, in_slice}
use Rattle.parts.proofs.Tables.{stretch_there, stretch_ends}
use Rattle.parts.proofs.Fields.{descriptor_there}
use Rattle.arrivals.specs.Arrivals.{alike?, Comparable}

-- ---- one good part

module _ (s : List ℕ) (at start : ℕ) (h : at < length s) (b : Bytes (this s at)) (z : refusal (this s at) ≡ 0) (e : start ≡ at + payload_start (this s at)) where
  payload_in : (w k : ℕ) → k + w ≤ stated (this s at) → take w (drop k (payload (this s at))) ≡ part s (start + k) w
  payload_in w k l =
      let p : List ℕ = this s at in
      let m : at + (payload_start p + k) ≡ start + k = omega arith in
      payload-part p (payload_there p b z) w k l ∙ in_slice s at h w (payload_start p + k) (omega (arith, payload_there p b z)) ∙ ap (λ (n : ℕ). part s n w) m

  long : 346 ≤ stated (this s at)
  long = (sized-opened (this s at) b z).least

  front_in : take 140 (payload (this s at)) ≡ part s start 140
  front_in = let m : start + 0 ≡ start = omega arith in payload_in 140 0 (omega (arith, long)) ∙ ap (λ (n : ℕ). part s n 140) m

  back_in : take 202 (drop 144 (payload (this s at))) ≡ part s (start + 144) 202
  back_in = payload_in 202 144 (omega (arith, long))

  text-start : get_or (starts_of (opened (this s at)).head) 1 0 ≡ 346
  unfolding starts_of starts_from
  text-start = let d : (opened (this s at)).head 36 ≡ 346 = (good-opened (this s at) b z).tile.descriptor in omega arith

  text-long : 346 + (opened (this s at)).head 40 ≤ stated (this s at)
  text-long = subst (λ (n : ℕ). n + (opened (this s at)).head 40 ≤ stated (this s at)) text-start (stretch_ends (this s at) b z 1 (omega arith))

  text_in : (opened (this s at)).text ≡ part s (start + 346) ((opened (this s at)).head 40)
  unfolding opened decode wave_of
  text_in =
      let p : List ℕ = this s at in
      let t : ℕ = (opened p).head 40 in
      let m : at + (payload_start p + 346) ≡ start + 346 = omega arith in
      stretch_there p b z 1 (omega arith) ∙ ap (λ (n : ℕ). part p (payload_start p + n) t) text-start
      ∙ in_slice s at h t (payload_start p + 346) (omega (arith, text-long, payload_there p b z)) ∙ ap (λ (n : ℕ). part s n t) m

  pub text-end : start + 346 + (opened (this s at)).head 40 ≤ length s
  text-end = omega (arith, text-long, payload_there (this s at) b z, reach s at h)

-- ---- beside the first

module _ (s : List ℕ) (here lead start text : ℕ) (h : here < length s) (bq : Bytes (this s 0)) (zq : refusal (this s 0) ≡ 0) (bp : Bytes (this s here)) (zp : refusal (this s here) ≡ 0)
    (q : lead ≡ 0 + payload_start (this s 0)) (p : start ≡ here + payload_start (this s here)) (e : text ≡ (opened (this s 0)).head 40) where
  some : 0 < length s
  some = omega arith

  fronts : same (part s lead 140) (part s start 140) ≡ true → take 140 (payload (this s 0)) ≡ take 140 (payload (this s here))
  fronts x = front_in s 0 lead some bq zq q ∙ same_eq (part s lead 140) (part s start 140) x ∙ sym (front_in s here start h bp zp p)

  backs : same (part s (lead + 144) 202) (part s (start + 144) 202) ≡ true → take 202 (drop 144 (payload (this s 0))) ≡ take 202 (drop 144 (payload (this s here)))
  backs y = back_in s 0 lead some bq zq q ∙ same_eq (part s (lead + 144) 202) (part s (start + 144) 202) y ∙ sym (back_in s here start h bp zp p)

  heads_if : same (part s lead 140) (part s start 140) ≡ true → same (part s (lead + 144) 202) (part s (start + 144) 202) ≡ true → (k : ℕ) → eqb k 140 ≡ false → (opened (this s 0)).head k ≡ (opened (this s here)).head k
  unfolding opened decode wave_of
  heads_if x y =
      heads_same (payload (this s 0)) (payload (this s here)) (omega (arith, length-payload (this s 0) bq zq, long s 0 lead some bq zq q)) (omega (arith, length-payload (this s here) bp zp, long s here start h bp zp p)) (fronts x) (backs y)

  pub comparable : Comparable s lead start text
  comparable = record {
    first = subst (λ (t : ℕ). lead + 346 + t ≤ length s) (sym e) (text-end s 0 lead some bq zq q);
    second = descriptor_there s here start h bp zp p;
    behind = λ x y. subst (λ (t : ℕ). start + 346 + t ≤ length s) (sym (e ∙ heads_if x y 40 refl)) (text-end s here start h bp zp p);
  }

  first-text : (opened (this s 0)).text ≡ part s (lead + 346) text
  first-text = text_in s 0 lead some bq zq q ∙ ap (part s (lead + 346)) (sym e)

  pub alike_if : alike? s lead start text ≡ true → common (this s 0) ≡ common (this s here)
  alike_if a =
      let x = and_true (same (part s lead 140) (part s start 140)) (same (part s (lead + 144) 202) (part s (start + 144) 202) && same (part s (lead + 346) text) (part s (start + 346) text)) a in
      let y = and_true (same (part s (lead + 144) 202) (part s (start + 144) 202)) (same (part s (lead + 346) text) (part s (start + 346) text)) x.1 in
      (alike-bytes (this s 0) (this s here) bq bp zq zp).1 (record {
        front = fronts x.0;
        back = backs y.0;
        text = first-text ∙ same_eq (part s (lead + 346) text) (part s (start + 346) text) y.1 ∙ ap (part s (start + 346)) (e ∙ heads_if x.0 y.0 40 refl) ∙ sym (text_in s here start h bp zp p);
      })

  pub alike-only : common (this s 0) ≡ common (this s here) → alike? s lead start text ≡ true
  alike-only c =
      let d : SameBytes (this s 0) (this s here) = (alike-bytes (this s 0) (this s here) bq bp zq zp).0 c in
      let l : (opened (this s here)).head 40 ≡ text = sym (e ∙ heads_alike (this s 0) (this s here) c (fits-opened (this s 0) bq zq) (fits-opened (this s here) bp zp) 40 refl) in
      and_intro (same (part s lead 140) (part s start 140)) (same (part s (lead + 144) 202) (part s (start + 144) 202) && same (part s (lead + 346) text) (part s (start + 346) text))
      (eq_same (part s lead 140) (part s start 140) (sym (front_in s 0 lead some bq zq q) ∙ d.front ∙ front_in s here start h bp zp p))
      (and_intro (same (part s (lead + 144) 202) (part s (start + 144) 202)) (same (part s (lead + 346) text) (part s (start + 346) text))
      (eq_same (part s (lead + 144) 202) (part s (start + 144) 202) (sym (back_in s 0 lead some bq zq q) ∙ d.back ∙ back_in s here start h bp zp p))
      (eq_same (part s (lead + 346) text) (part s (start + 346) text) (sym first-text ∙ d.text ∙ text_in s here start h bp zp p ∙ ap (part s (start + 346)) l)))
