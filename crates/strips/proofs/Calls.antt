-- What the calls answer: the samples where they stand are the segment's (`drawn_strip`); refused calls (`refused`, `kept`) and one that is not (`drawn_is`, `left_is`), and the number read back (`drawn_number`). Last, by the
-- contract: one answer for one input (`strip_determined`), and for the same payload under another accepted header (`call_same`).
use mathlib.Core.Path.{◌≡◌, refl, sym, ap, ap₂, ◌∙◌}
use mathlib.Core.List.{List}
use Prim.Native.Nat.{ℕ, zero, suc, ◌+◌, ◌≤◌, ◌<◌}
use native.Mathlib.Omega.{arith}
use lib.IntN.{ℤ}
use lib.ListN.{length}
use Rattle.rules.specs.Numbers.{Bytes, unless_refused}
use contract.Lifetimes.{Lfts}
use denote.Ref.{Bor, MutBor, at_last as holding}
use Rattle.rules.specs.Wave.{Wave, points, starts_of}
use Rattle.rules.specs.Rules.{first, opened}
use Rattle.rules.specs.Cut.{or_else}
use Rattle.rules.specs.Points.{sample}
use Rattle.rules.proofs.Tests.{left_alone}
use Rattle.rules.proofs.Headers.{SameAnswers}
use Rattle.fills.specs.Fills.{Holds, sample_at, over}
use Rattle.block.specs.declared.Opened.{Opened}
use Rattle.block.proofs.Answers.{number_is}
use Rattle.points.specs.Steps.{samples_by, Lent}
use Rattle.points.proofs.Refusals.{points_are}
use Rattle.points.proofs.Values.{is, sample_is, kind_small}
use Rattle.points.proofs.Fillings.{each, put_room}
use Rattle.strips.specs.Strips.{Strip, strip, strip_of, strip_rules, strip_refusal}
use Rattle.strips.specs.declared.Drawn.{Drawn}
use Rattle.strips.specs.Answers.{refused_strip, drawn_by, drawn_as, leasts_left, greatests_left, Drawable}
use Rattle.strips.proofs.Refusals.{strip-refusal}
use Rattle.strips.proofs.Strips.{accepted, points_asked, some-columns, most-columns, points-most, strip-same}
use Rattle.strips.proofs.strip.Reads as strip-reads

-- ---- a strip that is not refused

module _ (s : List ℕ) (b : Bytes s) (o : Opened) (a n w low high : ℕ) (d : Drawable s o a n w low high) where
  some-points : 0 < points (opened s).head
  some-points = omega (arith, some-columns s a n w low high d.accepts, most-columns s a n w low high d.accepts)

  pub lent : Lent s o a n 0
  lent = record { opens = d.opens; answers = points_asked s a n w low high d.accepts 0 some-points }

  pub same_points : o.points ≡ points (opened s).head
  same_points = points_are s o d.opens (number_is s o d.opens ∙ accepted s a n w low high d.accepts)

  -- there are from one to M columns, and M has 24 bits
  pub counts : (1 ≤ w) × (w ≤ o.points) × (o.points ≤ 16777216)
  counts = (some-columns s a n w low high d.accepts, omega (arith, same_points, most-columns s a n w low high d.accepts), omega (arith, same_points, points-most s a n w low high d.accepts b))

  module _ (from : ℕ) (e : from ≡ samples_by o a n) where
    pub holds : Holds s from o.points (o.kind + 1)
    holds = record { narrow = (omega arith, omega (arith, kind_small s b o a n 0 lent)); inside = put_room s b o a n lent (o.kind + 1) from refl e }

    abbrev there : ℕ → ℤ
    there = sample_at o.order (o.kind + 1) s from

    sample_there : (k : ℕ) → k < o.points → sample_at o.order (o.kind + 1) s from k ≡ sample (opened s) a n k
    unfolding starts_of
    sample_there k h =
        let l = each s b o a n lent k h in
        ap (λ (x : ℕ). sample_at o.order (o.kind + 1) s x k) e ∙ ap (λ (x : Opened). sample_at x.order (x.kind + 1) s (samples_by x a n) k) (is s b o a n k l) ∙ sample_is s b o a n k l

    -- the samples where they stand are the segment's
    pub drawn_strip : strip (o.kind + 1) (sample_at o.order (o.kind + 1) s from) o.points w ≡ strip_of (opened s) a n w
    unfolding strip_of
    drawn_strip =
        strip-same there (sample (opened s) a n) o.points sample_there (o.kind + 1) w counts.0
        ∙ ap₂ {C = Strip} (λ z m. strip z (sample (opened s) a n) m w) (ap (λ (x : Opened). x.kind + 1) (is s b o a n 0 lent)) same_points

-- ---- what is answered and left

-- of a refused call
module _ (s : List ℕ) (a n w low high m : ℕ) (e : m ≡ strip_refusal s a n w low high) (h : m ≡ 0 → ⊥) where
  pub refused : refused_strip m ≡ drawn_as s a n w low high
  unfolding drawn_as
  refused = go m h ∙ ap (λ (k : ℕ). drawn_by k (strip_of (opened s) a n w)) e
    where
      go : (m : ℕ) → (m ≡ 0 → ⊥) → refused_strip m ≡ drawn_by m (strip_of (opened s) a n w)
      go zero h = absurd (h refl)
      go (suc m) h = refl

  pub kept : (xs out : List ℤ) → out ≡ unless_refused (strip_refusal s a n w low high) (over out 0 xs) out
  kept xs out = left_alone m (over out 0 xs) out h ∙ ap (λ (k : ℕ). unless_refused k (over out 0 xs) out) e

-- of one that is not
module _ (s : List ℕ) (a n w low high : ℕ) (e : strip_refusal s a n w low high ≡ 0) where
  pub drawn_is : drawn_by 0 (strip_of (opened s) a n w) ≡ drawn_as s a n w low high
  unfolding drawn_as
  drawn_is = ap (λ (k : ℕ). drawn_by k (strip_of (opened s) a n w)) (sym e)

  pub left_is : (xs out : List ℤ) → over out 0 xs ≡ unless_refused (strip_refusal s a n w low high) (over out 0 xs) out
  left_is xs out = ap (λ (k : ℕ). unless_refused k (over out 0 xs) out) (sym e)

-- what a call answered, read back: its number, and where that is 0 the strip and what it left
pub drawn_number : (s : List ℕ) (a n w low high : ℕ) → (drawn_as s a n w low high).refusal ≡ strip_refusal s a n w low high
unfolding drawn_as
drawn_number s a n w low high = go (strip_refusal s a n w low high)
  where
    go : (m : ℕ) → (drawn_by m (strip_of (opened s) a n w)).refusal ≡ m
    go zero = refl
    go (suc m) = refl

-- ---- the calls by their contracts

-- What the caller of `strip` learns, as the checker has it from the `ensures`: lent a block of the bytes s and two slices that hold these numbers, the call answered
-- d and left these in the two. `record b { now = s }` is the slice b with s in it
abbrev pub StripCall : List ℕ → ℕ → ℕ → ℕ → List ℤ → List ℤ → Drawn → List ℤ → List ℤ → Type 0
StripCall s a n w least greatest d low high =
    (κs : Lfts 3) × (b : Bor (List ℕ)) × (l : MutBor (List ℤ)) × (g : MutBor (List ℤ))
    × strip-reads.Learnt κs (record b { now = s }, (a, (n, (w, (holding l least, (holding g greatest, tt)))))) d (record b { now = s }, (a, (n, (w, (holding l low, (holding g high, tt))))))

pub strip_determined : (s : List ℕ) (a n w : ℕ) (least greatest : List ℤ) (d e : Drawn) (x y u v : List ℤ) → StripCall s a n w least greatest d x u → StripCall s a n w least greatest e y v → (d ≡ e) × (x ≡ y) × (u ≡ v)
strip_determined s a n w least greatest d e x y u v p q = (p.4.0 ∙ sym q.4.0, p.4.1.0 ∙ sym q.4.1.0, p.4.1.1 ∙ sym q.4.1.1)

-- the same payload under two accepted headers: the same number, and so the same answer and the same left
pub same-refusal : (s t : List ℕ) → SameAnswers s t → (a n w low high : ℕ) → strip_refusal t a n w low high ≡ strip_refusal s a n w low high
same-refusal s t e a n w low high =
    strip-refusal t a n w low high ∙ ap₂ {C = ℕ} (λ m v. or_else m (first (strip_rules w low high v.head))) (e.same_walk a n) e.same-wave ∙ sym (strip-refusal s a n w low high)

pub call_same : (s t : List ℕ) → SameAnswers s t → (a n w : ℕ) (least greatest : List ℤ) (d e : Drawn) (x y u v : List ℤ) → StripCall s a n w least greatest d x u → StripCall t a n w least greatest e y v → (e ≡ d) × (y ≡ x) × (v ≡ u)
unfolding drawn_as leasts_left greatests_left
call_same s t h a n w least greatest d e x y u v p q =
    let r = same-refusal s t h a n w (length least) (length greatest) in
    let z : strip_of (opened t) a n w ≡ strip_of (opened s) a n w = ap (λ (o : Wave). strip_of o a n w) h.same-wave in (
      q.4.0 ∙ (λ i. drawn_by (r i) (z i)) ∙ sym p.4.0,
      q.4.1.0 ∙ (λ i. unless_refused (r i) (over least 0 (z i).leasts) least) ∙ sym p.4.1.0,
      q.4.1.1 ∙ (λ i. unless_refused (r i) (over greatest 0 (z i).greatests) greatest) ∙ sym p.4.1.1,
    )
