-- A pair written (`pair-written`), the normal line by its pairs (`line-parts`), and what a call of the writer answers and leaves: refused (`write_refused`) or written (`write_done`).
use mathlib.Core.Path.{◌≡◌, refl, sym, ap, ◌∙◌}
use Prim.Native.Nat.{ℕ, ◌+◌, ◌≤◌, ◌<◌}
use mathlib.Core.List.{List, [], ◌∷◌, ◌++◌, append_assoc}
use lib.ListN.{length}
use lib.Seq.{take-length}
use Rattle.rules.specs.Numbers.{splice, unless_refused}
use Rattle.rules.specs.Cut.{Setup}
use Rattle.digits.specs.Digits.{spelled, places, decimal}
use Rattle.digits.proofs.Spelled.{length-spelled}
use Rattle.copies.specs.Copies.{part, Wrote}
use Rattle.copies.proofs.Laws.{behind}
use Rattle.lines.specs.Grammar.{line_text}
use Rattle.lines.specs.Writer.{normal_line, setup_line, write_refusal}
use Rattle.lines.proofs.Writing.{too_short, writes}
use Rattle.setups.specs.Setups.{printed, printed_as, out_as}

-- a text copied whole, and the digits of n behind it
pub pair-written : (out text : List ℕ) (at n : ℕ) (mid : List ℕ) → mid ≡ splice out at (part text 0 (length text)) → (w : ℕ) → w ≡ places n
    → (last : List ℕ) → last ≡ splice mid (at + length text) (spelled 10 w n) → at + length text ≤ length out → Wrote out at (text ++ decimal n) last (at + length text + w)
pair-written out text at n mid e w p last f h =
    behind
    (record { leaves = e ∙ ap (splice out at) (take-length text); ends = refl })
    (record { leaves = f ∙ ap (λ (k : ℕ). splice mid (at + length text) (spelled 10 k n)) p; ends = ap (λ (k : ℕ). at + length text + k) (p ∙ sym (length-spelled 10 (places n) n)) }) h

-- `WFSU SP,` .. `,NP,` .. `,FP,` .. `,SN,` ..
pub line-parts : (s : Setup)
    → ((87 ∷ 70 ∷ 83 ∷ 85 ∷ 32 ∷ 83 ∷ 80 ∷ 44 ∷ []) ++ decimal s.sp) ++ ((44 ∷ 78 ∷ 80 ∷ 44 ∷ []) ++ decimal s.np) ++ ((44 ∷ 70 ∷ 80 ∷ 44 ∷ []) ++ decimal s.fp) ++ ((44 ∷ 83 ∷ 78 ∷ 44 ∷ []) ++ decimal s.sn)
    ≡ setup_line s
unfolding setup_line normal_line line_text spelled
line-parts s =
    let t : List ℕ = 87 ∷ 70 ∷ 83 ∷ 85 ∷ 32 ∷ 83 ∷ 80 ∷ 44 ∷ [] in
    let u : List ℕ = (44 ∷ 78 ∷ 80 ∷ 44 ∷ []) ++ decimal s.np in
    let v : List ℕ = (44 ∷ 70 ∷ 80 ∷ 44 ∷ []) ++ decimal s.fp in
    let w : List ℕ = (44 ∷ 83 ∷ 78 ∷ 44 ∷ []) ++ decimal s.sn in
    append_assoc (t ++ decimal s.sp ++ u) v w ∙ append_assoc (t ++ decimal s.sp) u (v ++ w) ∙ append_assoc t (decimal s.sp) (u ++ (v ++ w))

-- ---- a call

module _ (s : Setup) (out : List ℕ) where
  pub write_refused : length out < length (setup_line s) → (record { refusal = 15; length = 0 } ≡ printed_as s (length out)) × (out ≡ out_as s out)
  unfolding printed_as out_as
  write_refused h =
      let e : write_refusal s (length out) ≡ 15 = too_short s (length out) h in (
        sym (ap (λ (n : ℕ). printed n (length (setup_line s))) e),
        sym (ap (λ (n : ℕ). unless_refused n (splice out 0 (setup_line s)) out) e),
      )

  pub write_done : length (setup_line s) ≤ length out → (n : ℕ) → n ≡ length (setup_line s) → (new : List ℕ) → new ≡ splice out 0 (setup_line s)
      → (record { refusal = 0; length = n } ≡ printed_as s (length out)) × (new ≡ out_as s out)
  unfolding printed_as out_as
  write_done h n l new e =
      let z : write_refusal s (length out) ≡ 0 = (writes s (length out)).1 h in (
        (λ i. record { refusal = 0; length = l i }) ∙ sym (ap (λ (k : ℕ). printed k (length (setup_line s))) z),
        e ∙ sym (ap (λ (k : ℕ). unless_refused k (splice out 0 (setup_line s)) out) z),
      )
