-- The same payload under another accepted header: `open` answers the same but for where the payload starts (`open_same`), and the texts have the same
-- bytes (`text_same`, `label_same`).
use mathlib.Core.Path.{◌≡◌, refl, sym, ◌∙◌}
use mathlib.Core.List.{List, []}
use Prim.Native.Nat.{ℕ, zero, suc}
use denote.Ref.{Bor}
use Rattle.rules.specs.Rules.{payload_start, refusal, opened}
use Rattle.rules.proofs.Headers.{SameAnswers}
use Rattle.block.specs.declared.Opened.{Opened}
use Rattle.block.specs.Opened.{answer, opened_as}
use Rattle.block.specs.Texts.{of_accepted, text_of, trace_label, up_to_zero, or_other, label_of}
use Rattle.block.proofs.Learnt.{OpenCall, TextCall, LabelCall}

-- the record o, but for where the payload starts
abbrev pub starting_at : ℕ → Opened → Opened
starting_at start o = record {
  refusal = o.refusal;
  start = start;
  order = o.order;
  kind = o.kind;
  segments = o.segments;
  points = o.points;
  arrays = o.arrays;
  first = o.first;
  sparsing = o.sparsing;
  index = o.index;
  subarrays = o.subarrays;
  layout = o.layout;
  calibration = o.calibration;
}

answer_starting : (n start other : ℕ) (h : ℕ → ℕ) → answer n other h ≡ starting_at (answer n other h).start (answer n start h)
answer_starting zero start other h = refl
answer_starting (suc n) start other h = refl

pub open_same : (s t : List ℕ) → SameAnswers s t → (x y : Opened) → OpenCall s x → OpenCall t y → y ≡ starting_at y.start x
unfolding opened_as
open_same s t e x y p q =
    let there : y ≡ answer (refusal s) (payload_start t) (opened s).head = q.2 ∙ (λ i. answer (e.same_number i) (payload_start t) (e.same-wave i).head) in
    there ∙ answer_starting (refusal s) (payload_start s) (payload_start t) (opened s).head ∙ (λ i. starting_at (sym there i).start (sym p.2 i))

module _ (a b : Bor (List ℕ)) (e : SameAnswers a.now b.now) (r t : Bor (List ℕ)) where
  pub text_same : TextCall a r → TextCall b t → t.now ≡ r.now
  unfolding text_of
  text_same p q = q.1.0 ∙ (λ i. of_accepted (e.same_number i) (e.same-wave i).text []) ∙ sym p.1.0

  pub label_same : (f g : Bor (List ℕ)) → g.now ≡ f.now → LabelCall a f r → LabelCall b g t → t.now ≡ r.now
  unfolding label_of
  label_same f g h p q = q.1.0 ∙ (λ i. let l = up_to_zero (trace_label (e.same-wave i)) in of_accepted (e.same_number i) (or_other l l (h i)) []) ∙ sym p.1.0
