-- The same payload under any two headers that keep rules 1 and 2 is the same wave, and every call answers the same (`header_free`); the payload of an
-- accepted block may stand under every header whose d digits hold L (`header-taken`).
use mathlib.Core.Path.{◌≡◌, sym, ap, ◌∙◌}
use Prim.Native.Nat.{ℕ, ◌^◌, ◌≤◌, ◌<◌}
use native.Mathlib.Omega.{arith}
use mathlib.Core.Bool.{Bool}
use mathlib.Core.List.{List, [], ◌∷◌, ◌++◌}
use lib.ListN.{length}
use lib.Dec.{leb}
use Rattle.rules.specs.Numbers.{Bytes}
use Rattle.rules.specs.Wave.{Wave, points, decode, encode, framed}
use Rattle.rules.specs.Rules.{first, stated, payload, frame, sized, inner, rules, refusal, opened}
use Rattle.rules.specs.Points.{value, mark, time, point_rules, point_refusal, segment_rules, walk_refusal, fill_refusal}
use Rattle.rules.specs.Cut.{Setup, cut, cut_rules, cut_bytes, cut_refusal}
use Rattle.rules.proofs.Tests.{Each, each_all, first_alike}
use Rattle.rules.proofs.Facts.{says-sized}
use Rattle.rules.proofs.Frames.{headed, payload_headed, frame_headed, sized_headed}
use Rattle.rules.proofs.Opened.{obeys, sized-opened, length-payload}

-- the header is accepted: rules 1 and 2 are kept
abbrev pub HeaderKept : List ℕ → Type 0
HeaderKept s = Each (frame s) × Each (sized s)

pub header-kept : (s : List ℕ) → refusal s ≡ 0 → HeaderKept s
unfolding rules
header-kept s e = let h = (obeys s).0 e in (h.0, h.1.0)

-- t is the same wave as s, and each call answers for it what it answers for s: the number, a point's value, time and mark, and the bytes of a cut
pub record SameAnswers (s t : List ℕ) : Type 0 where
  pub same-wave : opened t ≡ opened s
  pub same_number : refusal t ≡ refusal s
  pub same_point : (a n k : ℕ)
      → (point_refusal t a n k ≡ point_refusal s a n k) × (value (opened t) a n k ≡ value (opened s) a n k) × (time (opened t) n k ≡ time (opened s) n k) × (mark (opened t) a n k ≡ mark (opened s) a n k)
  pub same_walk : (a n : ℕ) → walk_refusal t a n ≡ walk_refusal s a n
  pub same_fill : (a n room : ℕ) → fill_refusal t a n room ≡ fill_refusal s a n room
  pub same-cut : (o : ℕ) (c : Setup) (room : ℕ) → (cut_refusal o c t room ≡ cut_refusal o c s room) × (cut_bytes o c t ≡ cut_bytes o c s)

module _ (s t : List ℕ) (hs : HeaderKept s) (ht : HeaderKept t) (e : payload t ≡ payload s) where
  wave-same : opened t ≡ opened s
  unfolding opened
  wave-same = ap decode e

  -- whatever rules follow
  number_same : (qs : List (ℕ × List Bool)) → first (rules t ++ qs) ≡ first (rules s ++ qs)
  unfolding rules
  number_same qs =
      first_alike 1 (each_all (frame t) ht.0 ∙ sym (each_all (frame s) hs.0))
      (λ _. first_alike 2 (each_all (sized t) ht.1 ∙ sym (each_all (sized s) hs.1)) (λ _. ap (λ (p : List ℕ). first (inner p (decode p) ++ qs)) e))

  -- rules that are said of the wave
  number_same_of : (q : Wave → List (ℕ × List Bool)) → first (rules t ++ q (opened t)) ≡ first (rules s ++ q (opened s))
  number_same_of q = number_same (q (opened t)) ∙ ap (λ (w : Wave). first (rules s ++ q w)) wave-same

  pub header_free : SameAnswers s t
  header_free = record {
    same-wave = wave-same;
    same_number = unfold refusal rules inner in number_same [];
    same_point = λ a n k. (unfold point_refusal in number_same_of (λ w. point_rules a n k w.head), ap (λ (w : Wave). value w a n k) wave-same, ap (λ (w : Wave). time w n k) wave-same, ap (λ (w : Wave). mark w a n k) wave-same);
    same_walk = λ a n. unfold walk_refusal in number_same_of (λ w. segment_rules a n w.head);
    same_fill = λ a n room. unfold fill_refusal in number_same_of (λ w. segment_rules a n w.head ++ ((13, leb (points w.head) room ∷ []) ∷ []));
    same-cut = λ o c room. (
      unfold cut_refusal cut_bytes in number_same_of (λ w. cut_rules o c w.head ++ ((13, leb (length (framed (encode (cut o c w)))) room ∷ []) ∷ [])),
      unfold cut_bytes in ap (λ (w : Wave). framed (encode (cut o c w))) wave-same,
    );
  }

pub header-taken : (s : List ℕ) → Bytes s → refusal s ≡ 0 → (d : ℕ) → 1 ≤ d → d ≤ 9 → stated s < 10 ^ d → SameAnswers s (headed d (payload s))
header-taken s b e d lo hi h =
    let p : List ℕ = payload s in
    let l : length p < 10 ^ d = omega (arith, length-payload s b e) in
    let z = sized-opened s b e in
    header_free s (headed d p) (header-kept s e)
    (frame_headed d p l lo hi, says-sized (headed d p) (sized_headed d p l (omega (arith, length-payload s b e, z.least)) (omega (arith, length-payload s b e, z.most))))
    (payload_headed d p l)
