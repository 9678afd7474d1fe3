-- What is answered for the one cut of two, by the tests of its refusal: none (`sp_above`, `fp_above`), or its setup (`one-setup`). And by the answer, its
-- number (`combined-number`) and its setup (`combined-setup`).
use mathlib.Core.Path.{◌≡◌, refl, sym, ap, ◌∙◌}
use mathlib.Core.Bool.{Bool, true, false, cond, ◌&&◌}
use Prim.Native.Nat.{ℕ, ◌+◌, ◌*◌, ◌≤◌, ◌<◌}
use native.Mathlib.Omega.{arith}
use lib.Dec.{leb}
use borrow.Author.Tests.{le-leb, lt-leb}
use Rattle.std.specs.Prelude.{Option, Some, None}
use Rattle.rules.specs.Cut.{Setup, step, or_else, combined, combined_refusal}
use Rattle.cuts.specs.declared.Setup.{Setup as Own}
use Rattle.cuts.specs.Cuts.{number_of, setup_in, combination, combined_as}

-- the case by the two tests: that of SP's product, and that of FP
abbrev case : Bool → Bool → Setup → Option Own
case p q c = combination (cond (p && (q && true)) 0 12) c

-- x and y are the two steps
module _ (a b : Setup) (c x y : ℕ) (ex : x ≡ step a) (ey : y ≡ step b) where
  tested : (p q : Bool) → leb (step a * step b) 268435455 ≡ p → leb (a.fp + step a * b.fp) 4294967295 ≡ q → case p q (combined a b c) ≡ combined_as a b c
  unfolding combined_as combined_refusal
  tested p q e f = λ i. case (sym e i) (sym f i) (combined a b c)

  sp_is : x * y ≡ step a * step b
  sp_is = λ i. ex i * ey i

  fp_is : a.fp + x * b.fp ≡ a.fp + step a * b.fp
  fp_is = λ i. a.fp + ex i * b.fp

  pub sp_above : 268435455 < x * y → None ≡ combined_as a b c
  sp_above h = tested false (leb (a.fp + step a * b.fp) 4294967295) (lt-leb (step a * step b) 268435455 (omega (arith, sp_is, h))) refl

  pub fp_above : x * y ≤ 268435455 → 4294967295 < a.fp + x * b.fp → None ≡ combined_as a b c
  fp_above h k =
      tested true false (le-leb (step a * step b) 268435455 (omega (arith, sp_is, h))) (lt-leb (a.fp + step a * b.fp) 4294967295 (omega (arith, fp_is, k)))

  pub one-setup : x * y ≤ 268435455 → a.fp + x * b.fp ≤ 4294967295 → (n : ℕ) → n ≡ or_else a.sn b.sn
      → Some (record { sp = x * y; np = c; fp = a.fp + x * b.fp; sn = n }) ≡ combined_as a b c
  one-setup h k n e =
      (λ i. Some (record { sp = sp_is i; np = c; fp = fp_is i; sn = e i }))
      ∙ tested true true (le-leb (step a * step b) 268435455 (omega (arith, sp_is, h))) (le-leb (a.fp + step a * b.fp) 4294967295 (omega (arith, fp_is, k)))

-- ---- an answer, and what it says

module _ (a b : Setup) (c : ℕ) (r : Option Own) (e : r ≡ combined_as a b c) where
  pub combined-number : number_of r ≡ combined_refusal a b
  unfolding combined_as combined_refusal
  combined-number = ap number_of e ∙ go (leb (step a * step b) 268435455 && (leb (a.fp + step a * b.fp) 4294967295 && true))
    where
      go : (t : Bool) → number_of (combination (cond t 0 12) (combined a b c)) ≡ cond t 0 12
      go true = refl
      go false = refl

  pub combined-setup : combined_refusal a b ≡ 0 → setup_in r ≡ combined a b c
  unfolding combined_as
  combined-setup z = ap setup_in e ∙ ap (λ (n : ℕ). setup_in (combination n (combined a b c))) z
