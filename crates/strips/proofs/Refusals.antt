-- The number of a strip: the block's (`strip-block`), else 9 or 10 (`strip-segment`), else 11 and 13 (`strip_eleven`, `strip_thirteen`), else none
-- (`strip_none`). So 9 and 10 are those of a walk (`strip-refusal`), 13 is behind all others (`strip_rooms`), and is given where there is no room (`strip_nowhere`).
use mathlib.Core.Path.{◌≡◌, refl, sym, ap, ◌∙◌}
use mathlib.Core.Bool.{Bool, true, false, cond, not, ◌&&◌}
use mathlib.Core.List.{List, [], ◌∷◌, ◌++◌, append_assoc}
use Prim.Native.Nat.{ℕ, zero, suc}
use native.Mathlib.Omega.{arith}
use lib.ListN.{get_or}
use lib.Dec.{leb}
use borrow.Author.Tests.{leb-true, lt-leb}
use Rattle.rules.specs.Wave.{points}
use Rattle.rules.specs.Rules.{all, first, rules, opened}
use Rattle.rules.specs.Cut.{or_else}
use Rattle.rules.specs.Points.{segment_rules, walk_refusal}
use Rattle.rules.proofs.Tests.{and_true, first_append, numbered_append}
use Rattle.rules.proofs.Opened.{rules_numbered}
use Rattle.numbers.proofs.Bools.{joined-all}
use Rattle.block.specs.declared.Opened.{Opened}
use Rattle.block.specs.Opened.{opened_as}
use Rattle.block.proofs.Ladder.{passes, fails}
use Rattle.points.specs.Steps.{segment_rules_by}
use Rattle.points.proofs.Refusals.{points_are, whole, by_block, by_segment, by_last}
use Rattle.strips.specs.Strips.{strip_rules, strip_refusal}

module _ (s : List ℕ) (o : Opened) (e : o ≡ opened_as s) (a n w low high : ℕ) where
  abbrev eleven : List Bool
  eleven = leb 1 w ∷ leb w (points (opened s).head) ∷ []

  abbrev thirteen : List Bool
  thirteen = leb w low ∷ leb w high ∷ []

  abbrev last : List (ℕ × List Bool)
  last = (11, eleven) ∷ (13, thirteen) ∷ []

  strip-whole : whole s o e a n last ≡ strip_refusal s a n w low high
  unfolding strip_refusal strip_rules
  strip-whole = refl

  pub strip-block : (o.refusal ≡ 0 → ⊥) → o.refusal ≡ strip_refusal s a n w low high
  strip-block h = by_block s o e a n last h ∙ strip-whole

  module _ (z : o.refusal ≡ 0) (c : ℕ) (ec : c ≡ first (segment_rules_by a n (get_or o.layout.lengths 7 0) o.segments)) where
    pub strip-segment : (c ≡ 0 → ⊥) → c ≡ strip_refusal s a n w low high
    strip-segment h = by_segment s o e a n last z c ec h ∙ strip-whole

    module _ (h : c ≡ 0) where
      ladder : cond {A = ℕ} (all eleven) (cond {A = ℕ} (all thirteen) 0 13) 11 ≡ strip_refusal s a n w low high
      ladder = by_last s o e a n last z c ec h ∙ strip-whole

      same : (t : Bool) → not (leb 1 w && leb w o.points) ≡ t → not (leb 1 w && leb w (points (opened s).head)) ≡ t
      same t q = ap (λ (m : ℕ). not (leb 1 w && leb w m)) (sym (points_are s o e z)) ∙ q

      pub strip_eleven : not (leb 1 w && leb w o.points) ≡ true → 11 ≡ strip_refusal s a n w low high
      strip_eleven q = sym (ap (λ (t : Bool). cond {A = ℕ} t (cond {A = ℕ} (all thirteen) 0 13) 11) (fails (joined-all eleven) (same true q))) ∙ ladder

      module _ (k : not (leb 1 w && leb w o.points) ≡ false) where
        then : cond {A = ℕ} (all thirteen) 0 13 ≡ strip_refusal s a n w low high
        then = sym (ap (λ (t : Bool). cond {A = ℕ} t (cond {A = ℕ} (all thirteen) 0 13) 11) (passes (joined-all eleven) (same false k))) ∙ ladder

        pub strip_thirteen : not (leb w low && leb w high) ≡ true → 13 ≡ strip_refusal s a n w low high
        strip_thirteen q = sym (ap (λ (t : Bool). cond {A = ℕ} t 0 13) (fails (joined-all thirteen) q)) ∙ then

        pub strip_none : not (leb w low && leb w high) ≡ false → 0 ≡ strip_refusal s a n w low high
        strip_none q = sym (ap (λ (t : Bool). cond {A = ℕ} t 0 13) (passes (joined-all thirteen) q)) ∙ then

-- 9 and 10 of a strip are those of a walk; then 11, and 13
pub strip-refusal : (s : List ℕ) (a n w low high : ℕ) → strip_refusal s a n w low high ≡ or_else (walk_refusal s a n) (first (strip_rules w low high (opened s).head))
unfolding strip_refusal walk_refusal segment_rules
strip-refusal s a n w low high =
    let h : ℕ → ℕ = (opened s).head in
    ap first (sym (append_assoc (rules s) (segment_rules a n h) (strip_rules w low high h)))
    ∙ first_append (rules s ++ segment_rules a n h) (strip_rules w low high h) (numbered_append (rules s) (segment_rules a n h) (rules_numbered s) (omega arith))

-- the number of the rules before 13
unfoldable pub before_room : List ℕ → ℕ → ℕ → ℕ → ℕ
before_room s a n w = or_else (walk_refusal s a n) (cond (all (leb 1 w ∷ leb w (points (opened s).head) ∷ [])) 0 11)

module _ (s : List ℕ) (a n w : ℕ) where
  abbrev between : Bool
  between = all (leb 1 w ∷ leb w (points (opened s).head) ∷ [])

  pub strip_rooms : (low high : ℕ) → strip_refusal s a n w low high ≡ or_else (before_room s a n w) (cond (all (leb w low ∷ leb w high ∷ [])) 0 13)
  unfolding before_room strip_rules
  strip_rooms low high = strip-refusal s a n w low high ∙ go (walk_refusal s a n) between (all (leb w low ∷ leb w high ∷ []))
    where
      go : (k : ℕ) (e t : Bool) → or_else k (cond {A = ℕ} e (cond {A = ℕ} t 0 13) 11) ≡ or_else (or_else k (cond {A = ℕ} e 0 11)) (cond {A = ℕ} t 0 13)
      go zero true t = refl
      go zero false t = refl
      go (suc k) e t = refl

  pub strip_nowhere : (high : ℕ) → strip_refusal s a n w 0 high ≡ or_else (before_room s a n w) 13
  unfolding before_room
  strip_nowhere high = strip_rooms 0 high ∙ (unfold before_room in go (walk_refusal s a n) between refl)
    where
      go : (k : ℕ) (e : Bool) → between ≡ e → or_else (or_else k (cond {A = ℕ} e 0 11)) (cond {A = ℕ} (all (leb w 0 ∷ leb w high ∷ [])) 0 13) ≡ or_else (or_else k (cond {A = ℕ} e 0 11)) 13
      go (suc k) e q = refl
      go zero false q = refl
      go zero true q = ap (λ (t : Bool). cond {A = ℕ} (t && (leb w high && true)) 0 13) (lt-leb w 0 (leb-true 1 w (and_true (leb 1 w) (leb w (points (opened s).head) && true) q).0))
