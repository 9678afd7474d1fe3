-- Calls of `cut` in a row, each of the block that the one before it wrote, all of which answered 0: one call with the single setup, worked out from their
-- setups and answers, does what the last did (`cuts_as_one`), given its room (`last_room`); the numbers of that setup fit 32 bits (`single-fits`). Calls of
-- `combined` work it out: one for each cut in turn (`combined-in_turn`), or for groups of them, however they are grouped (`combined_groups`; no call for
-- smaller groups is refused by 12 either, `groups_fit`).
use mathlib.Core.Path.{◌≡◌, refl, sym, ap, ◌∙◌, subst, subst₂}
use mathlib.Core.List.{List, [], ◌∷◌, ◌++◌, map}
use Prim.Native.Nat.{ℕ, ◌≤◌}
use lib.ListN.{length, take}
use Rattle.rules.specs.Numbers.{Bytes, splice}
use Rattle.rules.specs.Cut.{Setup, combined}
use Rattle.rules.proofs.Demands.{Small, OneCut}
use Rattle.chains.specs.Chain.{Asking, block_by, last_of, Made, made, uncut, single_setup, Group, both, cuts_in, grouped}
use Rattle.chains.proofs.Chain.{Answered}
use Rattle.chains.proofs.InRow as row
use Rattle.cuts.specs.declared.Written.{Written}
use Rattle.std.specs.Prelude.{Option, Some}
use Rattle.cuts.specs.declared.Setup.{Setup as Own}
use Rattle.cuts.specs.Cuts.{setup_of}
use Rattle.cuts.proofs.Combining.{combined-number, combined-setup}
use Rattle.cuts.proofs.Calls.{Call, CutCall, CombinedCall, OneCall, called, taken, said, filled, wrote, combined-one, one_called}

-- ---- calls in a row

-- a call of `cut`: what it was asked for and lent, and what it answered and left
pub record Cutting : Type 0 where
  pub setup : Setup
  pub order : ℕ
  pub out : List ℕ
  pub answer : Written
  pub left : List ℕ

abbrev pub asks : Cutting → Asking
asks x = record { setup = x.setup; order = x.order; room = length x.out }

abbrev pub counted : Cutting → ℕ
counted x = x.answer.count

-- the block that it wrote
abbrev pub written : Cutting → List ℕ
written x = take x.answer.length x.left

-- it was a call for s, and answered 0
abbrev pub Accepted : List ℕ → Cutting → Type 0
Accepted s x = CutCall s x.setup x.order x.out x.answer x.left × (x.answer.refusal ≡ 0)

-- calls for s, and then each for what the one before it wrote; their setups and answers
abbrev pub InRow : List ℕ → List Cutting → Type 0
InRow s xs = row.InRow asks counted written Accepted s xs

abbrev pub answered_by : Cutting → Made
answered_by x = row.answered_by asks counted written Accepted x

module _ (s : List ℕ) (x : Cutting) (a : Accepted s x) where
  own : Call s x.setup x.order x.out x.answer x.left
  own = called s x.setup x.order x.out x.answer x.left a.0

  own_said : x.answer ≡ record { refusal = 0; count = (made s (asks x)).1; length = length (block_by s (asks x)) }
  own_said = said s x.setup x.order x.out x.answer x.left own a.1

  own_wrote : written x ≡ block_by s (asks x)
  own_wrote = wrote s x.setup x.order x.out x.answer x.left own a.1

  own_filled : x.left ≡ splice x.out 0 (written x)
  own_filled = filled s x.setup x.order x.out x.answer x.left own a.1 ∙ ap (splice x.out 0) (sym own_wrote)

  own_answer : x.answer ≡ record { refusal = 0; count = counted x; length = length (written x) }
  own_answer = λ i. record { refusal = (own_said i).refusal; count = counted x; length = (ap (λ (w : Written). w.length) own_said ∙ ap length (sym own_wrote)) i }

cut_by : (s : List ℕ) → Bytes s → (x : Cutting) → Accepted s x → row.CutBy asks counted written Accepted s x
cut_by s b x a = record {
  taken = taken s x.setup x.order x.out x.answer x.left (own s x a) a.1;
  counts = ap (λ (w : Written). w.count) (own_said s x a);
  writes = own_wrote s x a;
}

-- ---- the one call

module _ (s : List ℕ) (bytes : Bytes s) (x : Cutting) (xs : List Cutting) (calls : InRow s (x ∷ xs)) where
  abbrev pub last : Cutting
  last = last_of x xs

  abbrev pub single : Setup
  single = single_setup (map answered_by (x ∷ xs))

  stands : OneCut s last.order single (written last) (counted last)
  stands = row.row_stands asks counted written Accepted cut_by s bytes x xs calls

  -- the numbers of the single setup fit 32 bits
  pub single-fits : Small single
  single-fits = stands.small

  -- the room of the last is enough for what it wrote
  pub last_room : last.answer.length ≤ length last.out
  last_room =
      let l = row.last_call asks counted written Accepted cut_by s bytes x xs calls in
      subst (λ (w : Written). w.length ≤ length last.out) (sym (own_answer l.0 last l.2)) (row.last_room asks counted written Accepted cut_by s bytes x xs calls)

  -- One call for s with the single setup and the order of the last, lent room for what the last wrote: it answers what the last answered and writes the
  -- same block; and where `point` answers 0 on that block, it answers the same on s, value, time and mark bit for bit
  pub cuts_as_one : (out : List ℕ) (w : Written) (left : List ℕ) → CutCall s single last.order out w left → last.answer.length ≤ length out
      → OneCall s single last.out out last.answer w last.left left
  cuts_as_one =
      let l = row.last_call asks counted written Accepted cut_by s bytes x xs calls in
      one_called s last.order single (written last) (counted last) stands last.out last.answer last.left (own_answer l.0 last l.2) (own_filled l.0 last l.2) refl

-- ---- `combined` works the single setup out

-- a call of `combined` answered the setup c
abbrev pub Gave : Setup → Setup → ℕ → Setup → Type 0
Gave a b n c = CombinedCall a b n (Some (setup_of c))

gave_combined : (a b : Setup) (n : ℕ) (c : Setup) → Gave a b n c → c ≡ combined a b n
gave_combined a b n c call = combined-setup a b n (Some (setup_of c)) call.1 (sym (combined-number a b n (Some (setup_of c)) call.1))

-- such calls one for each cut, from c to d; and for the groups of a group
abbrev pub Folded : Setup → List Made → Setup → Type 0
Folded c ms d = row.Folded Gave c ms d

abbrev pub Combines : Group → Setup → Type 0
Combines g c = row.Combines Gave g c

answers_one : (a b : Setup) (n : ℕ) (c : Setup) → row.Answers a b n c → (r : Option Own) → CombinedCall a b n r → r ≡ Some (setup_of c)
answers_one a b n c x r call = combined-one a b n r call x.answered ∙ ap (λ (d : Setup). Some (setup_of d)) x.gives

-- from what leaves out nothing: behind the calls for ys, the one for y answers the single setup of all
pub combined-in_turn : (s : List ℕ) → Bytes s → (ys : List Cutting) (y : Cutting) → InRow s (ys ++ (y ∷ []))
    → (c : Setup) → Folded uncut.0 (map answered_by ys) c → (r : Option Own) → CombinedCall c y.setup (counted y) r
    → r ≡ Some (setup_of (single_setup (map answered_by (ys ++ (y ∷ [])))))
combined-in_turn s bytes ys y calls c f r call =
    answers_one (single_setup (map answered_by ys)) y.setup (counted y) (single_setup (map answered_by (ys ++ (y ∷ []))))
    (row.in_turn-answers asks counted written Accepted cut_by s bytes ys y calls) r
    (subst (λ (d : Setup). CombinedCall d y.setup (counted y) r) (row.folded_single Gave gave_combined (map answered_by ys) c f) call)

module _ (s : List ℕ) (bytes : Bytes s) (xs : List Cutting) (calls : InRow s xs) where
  -- however the cuts are grouped, no call for two of the groups is refused by 12
  pub groups_fit : (g : Group) → cuts_in g ≡ map answered_by xs → Answered g
  groups_fit g e = row.groups_answered asks counted written Accepted cut_by s bytes xs calls g e

  -- and that for two groups which have all the cuts answers the single setup
  pub combined_groups : (g h : Group) → cuts_in (both g h) ≡ map answered_by xs → (a b : Setup) → Combines g a → Combines h b → (r : Option Own) → CombinedCall a b (grouped h).1 r
      → r ≡ Some (setup_of (single_setup (map answered_by xs)))
  combined_groups g h e a b p q r call =
      answers_one (grouped g).0 (grouped h).0 (grouped h).1 (single_setup (map answered_by xs)) (row.groups_answer asks counted written Accepted cut_by s bytes xs calls g h e) r
      (subst₂ (λ (c d : Setup). CombinedCall c d (grouped h).1 r) (row.combines_grouped Gave gave_combined g a p) (row.combines_grouped Gave gave_combined h b q) call)
