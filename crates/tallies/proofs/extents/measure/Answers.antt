-- Each turn takes in the next sample; its height by its two bytes.
use mathlib.Core.Path.{◌≡◌, sym, ap, ◌∙◌}
use mathlib.Core.List.{List, [], ◌∷◌}
use Prim.Native.Nat.{ℕ, ◌+◌, ◌-◌, ◌*◌, ◌≤◌, ◌<◌}
use native.Mathlib.Omega.{arith}
use mathlib.Core.Bool.{Bool}
use lib.IntN.{ℤ, pos, negsuc}
use lib.Signed.{le_z}
use mir.Syntax.{w16}
use mir.Val.{SFits, to_z, of_z}
use mir.ValLaws.{to_z-of_z}
use Rattle.rules.proofs.Numbers.{below-index}
use Rattle.fills.specs.Fills.{sample_at}
use Rattle.fills.proofs.Sampling.{fewer, in_word}
use Rattle.columns.specs.Columns.{lesser, greater, joined, least, greatest, run}
use Rattle.columns.proofs.Extremes.{Picks, picks_lesser, picks_greater, ge_ℤ}
use Rattle.columns.proofs.Runs.{run_none, run-one}
use Rattle.tallies.specs.Tallies.{height, heights}
use Rattle.tallies.proofs.Heights.{Words, height_apart, bytes_next}
use Rattle.tallies.proofs.Picking.{lesser_is, greater_is}
use Rattle.tallies.proofs.Tallying.{first_next, least_of, greatest_of}
use Rattle.tallies.proofs.extents.measure.Goals as goal
use Rattle.tallies.proofs.extents.measure.Goals.{At-loop-k}

pub loop-k-init : goal.loop-k-init
unfolding joined heights
loop-k-init c =
    let a = c.args in
    let none : [] ≡ run (sample_at a.order a.size a.block.now a.from) a.a a.a = sym (run_none (sample_at a.order a.size a.block.now a.from) a.a) in
    (omega arith, omega (arith, c.requires.a_lt_b.0), ap (λ (xs : List ℤ). least (pos 32767 ∷ xs)) none, ap (λ (xs : List ℤ). greatest (negsuc 32767 ∷ xs)) none, ap heights none, omega arith, omega arith)

-- of one sample more, the answer in 16 bits
next : (op : ℤ → ℤ → ℤ) (R : ℤ → ℤ → Bool) → Picks op R → (u : ℤ) (f : ℕ → ℤ) (a k : ℕ) → a ≤ k → (x y r : ℤ) → SFits w16 r → r ≡ op x y → x ≡ joined op (u ∷ run f a k) → y ≡ f k → to_z w16 (of_z w16 r) ≡ joined op (u ∷ run f a (k + 1))
unfolding joined
next op R p u f a k h x y r fits e ex ey = to_z-of_z w16 r fits ∙ e ∙ first_next f k (k + 1) (omega arith) op R p u a h x y ex (ey ∙ ap (joined op) (sym (run-one f k)))

pub sample-z-requires : goal.sample-z-requires
sample-z-requires c = fewer c.requires.holds _ (omega arith)

pub overflow_add-low : goal.overflow_add-low
overflow_add-low c = let l = c.loop-k in omega (arith, l.invariant.5, l.invariant.0, c.loop-k-test.true, c.requires.a_lt_b.1)

pub overflow_add-high : goal.overflow_add-high
overflow_add-high c =
    let l = c.loop-k in
    omega (arith, l.invariant.6, l.invariant.0, c.loop-k-test.true, c.requires.a_lt_b.1, c.abs_diff-h.type_inv)

pub loop-k-preserved : goal.loop-k-preserved
loop-k-preserved c =
    let a = c.args in
    let l = c.loop-k in
    let h : l.k < a.b = c.loop-k-test.true in
    let r = c.sample-z in
    let f : ℕ → ℤ = sample_at a.order a.size a.block.now a.from in
    let z : to_z w16 (of_z w16 r.result) ≡ f l.k = to_z-of_z w16 r.result (record { sfits = r.type_inv }) ∙ c.sample-z.ensures in
    let low = c.min-least in
    let high = c.max-greatest in
    let e : (l.k - a.a) * 255 + 255 ≡ (l.k + 1 - a.a) * 255 = omega (arith, l.invariant.0) in (
      omega (arith, l.invariant.0),
      omega (arith, h),
      next lesser le_z picks_lesser (pos 32767) f a.a l.k l.invariant.0 _ _ low.result (record { sfits = low.type_inv }) (low.ensures.value ∙ lesser_is _ _) l.invariant.2 z,
      next greater ge_ℤ picks_greater (negsuc 32767) f a.a l.k l.invariant.0 _ _ high.result (record { sfits = high.type_inv }) (high.ensures.value ∙ greater_is _ _) l.invariant.3 z,
      bytes_next f a.a l.k l.low l.high c.abs_diff-h.result l.invariant.0 l.invariant.4 (c.abs_diff-h.ensures ∙ height_apart r.result (record { sfits = r.type_inv }) ∙ ap height c.sample-z.ensures),
      omega (arith, l.invariant.5, e),
      omega (arith, l.invariant.6, e, c.abs_diff-h.type_inv),
    )

-- both sums fit 16 bits
few : (c : At-loop-k) → (c.loop-k.low < 65536) × (c.loop-k.high < 65536)
few c = let l = c.loop-k.invariant in let p = c.requires.a_lt_b in (omega (arith, l.5, l.1, p), omega (arith, l.6, l.1, p))

pub overflow_cast-result : goal.overflow_cast-result
overflow_cast-result c = omega (arith, (few (goal.at.overflow_cast-result c).At-loop-k).1)

pub overflow_mul-result : goal.overflow_mul-result
overflow_mul-result c = omega (arith, (few (goal.at.overflow_mul-result c).At-loop-k).1)

pub overflow_cast-result-2 : goal.overflow_cast-result-2
overflow_cast-result-2 c = omega (arith, (few (goal.at.overflow_cast-result-2 c).At-loop-k).0)

pub overflow_add-result : goal.overflow_add-result
overflow_add-result c = omega (arith, few (goal.at.overflow_add-result c).At-loop-k)

pub returns : goal.returns
returns c =
    let a = c.args in
    let l = c.loop-k in
    let f : ℕ → ℤ = sample_at a.order a.size a.block.now a.from in
    let e : l.k ≡ a.b = omega (arith, l.invariant.1, c.loop-k-test.false) in
    let w : Words f = λ j. in_word a.order a.size a.block.now a.from j (below-index 256 a.block.now (λ i h. (c.type_inv.block i).fits)) c.requires.holds.narrow in
    λ i. record {
      least = (l.invariant.2 ∙ ap (λ (j : ℕ). least (pos 32767 ∷ run f a.a j)) e ∙ least_of f w a.a a.b c.requires.a_lt_b.0) i;
      greatest = (l.invariant.3 ∙ ap (λ (j : ℕ). greatest (negsuc 32767 ∷ run f a.a j)) e ∙ greatest_of f w a.a a.b c.requires.a_lt_b.0) i;
      heights = (l.invariant.4 ∙ ap (λ (j : ℕ). heights (run f a.a j)) e) i;
    }
