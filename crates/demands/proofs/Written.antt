-- What a call of `cut` that answered 0 wrote (`cut_wrote`): a good block that ends after its L bytes, as a part of a join does (`cut-part`).
use mathlib.Core.Path.{◌≡◌, sym, ap, ◌∙◌, subst}
use mathlib.Core.List.{List}
use Prim.Native.Nat.{ℕ, ◌+◌}
use native.Mathlib.Omega.{arith}
use lib.ListN.{length, take, drop}
use lib.Seq.{take-append_seam}
use Rattle.rules.specs.Numbers.{Bytes, splice}
use Rattle.rules.specs.Wave.{encode}
use Rattle.rules.specs.Rules.{refusal, opened}
use Rattle.rules.specs.Cut.{Setup, cut, cut_bytes}
use Rattle.rules.proofs.Frames.{length-framed, stated-framed}
use Rattle.rules.proofs.Demands.{Allowed, CutTaken, cut-says, cut-length, cut_accepted}
use Rattle.joining.proofs.Framed.{start-framed}
use Rattle.joining.proofs.Parts.{Ends}
use Rattle.cuts.specs.declared.Written.{Written}
use Rattle.cuts.proofs.Calls.{CutCall, called, taken, said, filled}

-- a call of `cut`, lent out, answered 0 and wrote the block p to its start; behind it is what was there
pub record Wrote (p out : List ℕ) (v : Written) (left : List ℕ) : Type 0 where
  pub answers : v.refusal ≡ 0
  pub long : v.length ≡ length p
  pub block : take v.length left ≡ p
  pub leaves : left ≡ splice out 0 p

-- a call that answered 0 wrote the block that the definition of a cut gives
pub cut_wrote : (s : List ℕ) (c : Setup) (q : ℕ) (out : List ℕ) (v : Written) (left : List ℕ) → CutCall s c q out v left → v.refusal ≡ 0 → Wrote (cut_bytes q c s) out v left
cut_wrote s c q out v left call z =
    let d = called s c q out v left call in
    let n : v.length ≡ length (cut_bytes q c s) = ap (λ (x : Written). x.length) (said s c q out v left d z) in
    let l : left ≡ splice out 0 (cut_bytes q c s) = filled s c q out v left d z in
    record {
      answers = z;
      long = n;
      block = (λ i. take (n i) (l i)) ∙ take-append_seam (cut_bytes q c s) (drop (0 + length (cut_bytes q c s)) out);
      leaves = l;
    }

-- a cut's block ends after its L bytes
cut-ends : (s : List ℕ) → Bytes s → refusal s ≡ 0 → (o : ℕ) (c : Setup) → Allowed o c (opened s).head → Ends (cut_bytes o c s)
unfolding cut_bytes
cut-ends s b e o c a =
    let p : List ℕ = encode (cut o c (opened s)) in omega (arith, length-framed p, start-framed p, stated-framed p (omega (arith, (cut-length s b e o c a).1)))

-- so it can be a part
pub cut-part : (s : List ℕ) → Bytes s → (c : Setup) (q : ℕ) (out : List ℕ) (v : Written) (left : List ℕ) → CutCall s c q out v left → v.refusal ≡ 0
    → let p = take v.length left in (refusal p ≡ 0) × Ends p
cut-part s b c q out v left call z =
    let t : CutTaken s q c (length out) = cut-says s q c (length out) (taken s c q out v left (called s c q out v left call) z) in
    subst (λ (p : List ℕ). (refusal p ≡ 0) × Ends p) (sym (cut_wrote s c q out v left call z).block)
    ((cut_accepted s b t.block q c t.allows).0, cut-ends s b t.block q c t.allows)
