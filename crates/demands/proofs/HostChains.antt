-- The same of the calls for a host in C: calls of `tessarquin_cut` in a row that all returned 0 are one call with the single setup (`cuts_as_one`), given the
-- room of the last (`last_room`). Its numbers fit 32 bits (`single-fits`), and calls of `tessarquin_combined` leave them, one for each cut in turn
-- (`combined-in_turn`), or for groups of them, however they are grouped (`combined_groups`; no call for smaller groups returns 12 either, `groups_fit`).
use mathlib.Core.Path.{◌≡◌, refl, sym, ap, ◌∙◌, subst, subst₂}
use mathlib.Core.List.{List, [], ◌∷◌, ◌++◌, map}
use Prim.Native.Nat.{ℕ, ◌≤◌, ◌<◌}
use lib.ListN.{length, take, get_or}
use Rattle.rules.specs.Numbers.{Bytes, numbers}
use Rattle.rules.specs.Cut.{Setup, combined}
use Rattle.rules.proofs.Demands.{Small, OneCut, combined-small}
use Rattle.chains.specs.Chain.{Asking, last_of, Made, uncut, single_setup, Group, both, cuts_in, grouped}
use Rattle.chains.proofs.Chain.{Answered}
use Rattle.chains.proofs.InRow as row
use Rattle.tessarquin.specs.Calls.{setup_numbers}
use Rattle.tessarquin.proofs.Learnt.{CutCall, CombinedCall}
use Rattle.tessarquin.proofs.Demands.{count_in, length_in, Wrote, OneCall, done, one_called, combined_told, combined_left_lem}

-- ---- calls in a row

-- a call of `tessarquin_cut`: what it was asked for and lent, and what it left in the two slices
pub record Cutting : Type 0 where
  pub setup : Setup
  pub order : ℕ
  pub out : List ℕ
  pub answer : List ℕ
  pub left : List ℕ
  pub told : List ℕ

abbrev pub asks : Cutting → Asking
asks x = record { setup = x.setup; order = x.order; room = length x.out }

abbrev pub counted : Cutting → ℕ
counted x = count_in x.told

-- the block that it wrote
abbrev pub written : Cutting → List ℕ
written x = take (length_in x.told) x.left

-- it was a call for s, and returned 0
abbrev pub Accepted : List ℕ → Cutting → Type 0
Accepted s x = CutCall s x.setup x.order x.out x.answer 0 x.left x.told

-- calls for s, and then each for what the one before it wrote; their setups and answers
abbrev pub InRow : List ℕ → List Cutting → Type 0
InRow s xs = row.InRow asks counted written Accepted s xs

abbrev pub answered_by : Cutting → Made
answered_by x = row.answered_by asks counted written Accepted x

cut_by : (s : List ℕ) → Bytes s → (x : Cutting) → Accepted s x → row.CutBy asks counted written Accepted s x
cut_by s b x a =
    let d = done s b x.setup x.order x.out x.answer 0 x.left x.told a refl in record { taken = d.0; counts = d.1.counted; writes = d.1.block }

own_wrote : (s : List ℕ) → Bytes s → (x : Cutting) → Accepted s x → Wrote (written x) (counted x) x.out x.answer x.left x.told
own_wrote s b x a =
    let d = (done s b x.setup x.order x.out x.answer 0 x.left x.told a refl).1 in
    subst₂ (λ (t : List ℕ) (m : ℕ). Wrote t m x.out x.answer x.left x.told) (sym d.block) (sym d.counted) d

-- ---- the one call

module _ (s : List ℕ) (bytes : Bytes s) (x : Cutting) (xs : List Cutting) (calls : InRow s (x ∷ xs)) where
  abbrev pub last : Cutting
  last = last_of x xs

  abbrev pub single : Setup
  single = single_setup (map answered_by (x ∷ xs))

  stands : OneCut s last.order single (written last) (counted last)
  stands = row.row_stands asks counted written Accepted cut_by s bytes x xs calls

  -- the numbers of the single setup fit 32 bits
  pub single-fits : Small single
  single-fits = stands.small

  -- the room of the last is enough for what it wrote
  pub last_room : length_in last.told ≤ length last.out
  last_room =
      let l = row.last_call asks counted written Accepted cut_by s bytes x xs calls in
      subst (λ (n : ℕ). n ≤ length last.out) (sym (own_wrote l.0 l.1 last l.2).long) (row.last_room asks counted written Accepted cut_by s bytes x xs calls)

  -- One call for s with the single setup and the order of the last, lent room for what the last wrote and for two numbers: it returns 0, leaves the numbers
  -- and the block that the last left; and where `tessarquin_point` returns 0 on that block, it leaves the same for s
  pub cuts_as_one : (out answer : List ℕ) (m : ℕ) (left told : List ℕ) → CutCall s single last.order out answer m left told
      → length_in last.told ≤ length out → 16 ≤ length answer
      → OneCall s single last.out out last.answer answer m last.left left last.told told
  cuts_as_one =
      let l = row.last_call asks counted written Accepted cut_by s bytes x xs calls in
      one_called s bytes last.order single (written last) (counted last) stands last.out last.answer last.left last.told (own_wrote l.0 l.1 last l.2)

-- ---- `tessarquin_combined` works the single setup out

-- a call of `tessarquin_combined` for numbers of 32 bits returned 0, and the setup c stands in the slice that it was lent
abbrev pub Gave : Setup → Setup → ℕ → Setup → Type 0
Gave a b n c = Small a × Small b × (n < 4294967296) × (answer : List ℕ) × (left : List ℕ) × CombinedCall a b n answer 0 left × (numbers 0 8 4 left ≡ setup_numbers c)

gave_combined : (a b : Setup) (n : ℕ) (c : Setup) → Gave a b n c → c ≡ combined a b n
gave_combined a b n c g =
    let t = combined_told a b n g.3 0 g.4 g.5 refl in
    let e : setup_numbers c ≡ setup_numbers (combined a b n) = sym g.6 ∙ t.1 (combined-small a b n t.0 g.0 g.1 g.2) in
    λ i. record { sp = get_or (e i) 0 0; np = get_or (e i) 1 0; fp = get_or (e i) 2 0; sn = get_or (e i) 3 0 }

-- such calls one for each cut, from c to d; and for the groups of a group
abbrev pub Folded : Setup → List Made → Setup → Type 0
Folded c ms d = row.Folded Gave c ms d

abbrev pub Combines : Group → Setup → Type 0
Combines g c = row.Combines Gave g c

answers_left : (a b : Setup) (n : ℕ) (c : Setup) → row.Answers a b n c → (answer : List ℕ) (m : ℕ) (left : List ℕ) → CombinedCall a b n answer m left → 32 ≤ length answer
    → (m ≡ 0) × (numbers 0 8 4 left ≡ setup_numbers c)
answers_left a b n c x answer m left call h =
    let l = combined_left_lem a b n answer m left call h x.answered (subst Small (sym x.gives) x.small) in (l.0, l.1 ∙ ap setup_numbers x.gives)

-- from what leaves out nothing: behind the calls for ys, the one for y leaves the single setup of all
pub combined-in_turn : (s : List ℕ) → Bytes s → (ys : List Cutting) (y : Cutting) → InRow s (ys ++ (y ∷ []))
    → (c : Setup) → Folded uncut.0 (map answered_by ys) c
    → (answer : List ℕ) (m : ℕ) (left : List ℕ) → CombinedCall c y.setup (counted y) answer m left → 32 ≤ length answer
    → (m ≡ 0) × (numbers 0 8 4 left ≡ setup_numbers (single_setup (map answered_by (ys ++ (y ∷ [])))))
combined-in_turn s bytes ys y calls c f answer m left call =
    answers_left (single_setup (map answered_by ys)) y.setup (counted y) (single_setup (map answered_by (ys ++ (y ∷ []))))
    (row.in_turn-answers asks counted written Accepted cut_by s bytes ys y calls) answer m left
    (subst (λ (d : Setup). CombinedCall d y.setup (counted y) answer m left) (row.folded_single Gave gave_combined (map answered_by ys) c f) call)

module _ (s : List ℕ) (bytes : Bytes s) (xs : List Cutting) (calls : InRow s xs) where
  -- however the cuts are grouped, no call for two of the groups returns 12
  pub groups_fit : (g : Group) → cuts_in g ≡ map answered_by xs → Answered g
  groups_fit g e = row.groups_answered asks counted written Accepted cut_by s bytes xs calls g e

  -- and that for two groups which have all the cuts leaves the single setup
  pub combined_groups : (g h : Group) → cuts_in (both g h) ≡ map answered_by xs → (a b : Setup) → Combines g a → Combines h b
      → (answer : List ℕ) (m : ℕ) (left : List ℕ) → CombinedCall a b (grouped h).1 answer m left → 32 ≤ length answer
      → (m ≡ 0) × (numbers 0 8 4 left ≡ setup_numbers (single_setup (map answered_by xs)))
  combined_groups g h e a b p q answer m left call =
      answers_left (grouped g).0 (grouped h).0 (grouped h).1 (single_setup (map answered_by xs)) (row.groups_answer asks counted written Accepted cut_by s bytes xs calls g h e) answer m left
      (subst₂ (λ (c d : Setup). CombinedCall c d (grouped h).1 answer m left) (row.combines_grouped Gave gave_combined g a p) (row.combines_grouped Gave gave_combined h b q) call)
