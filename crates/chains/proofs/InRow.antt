-- Calls in a row, each of the block that the one before it wrote, whatever kind of call it is: the single setup of their setups and answers stands for them
-- (`row_stands`). Calls that work out combined setups give it, one for each cut in turn (`in_turn-answers`), or for groups of the cuts, however they are
-- grouped (`groups_answer`, `groups_answered`), where each call is for what those before it gave (`folded_single`, `combines_grouped`).
use mathlib.Core.Path.{◌≡◌, refl, sym, ap, ap₂, ◌∙◌, subst, subst₂, transport}
use mathlib.Core.List.{List, [], ◌∷◌, ◌++◌, map, map-append, head-eq_of_cons-eq, tail-eq_of_cons-eq}
use Prim.Native.Nat.{ℕ, ◌≤◌}
use native.Mathlib.Omega.{arith}
use lib.ListN.{length}
use Rattle.rules.specs.Numbers.{Bytes}
use Rattle.rules.specs.Cut.{Setup, or_else, cut_refusal, combined, combined_refusal}
use Rattle.rules.proofs.Demands.{CutTaken, cut-says, cut-bytes, Small, OneCut, combined_answered}
use Rattle.chains.specs.Chain.{Asking, block_by, chain_bytes, chain_refusal, last_of, Made, made, all_made, in_turn, uncut, single_setup, Group, alone, both, cuts_in, grouped}
use Rattle.chains.proofs.Groups.{turn_append, two_cuts, grouped-both}
use Rattle.chains.proofs.Chain.{final_room, chain, Answered, chain_answered}

-- a call for the setups a and b, of which b answered n, is not refused by 12 and gives c, whose numbers fit 32 bits
pub record Answers (a b : Setup) (n : ℕ) (c : Setup) : Type 0 where
  pub answered : combined_refusal a b ≡ 0
  pub gives : combined a b n ≡ c
  pub small : Small c

last_map : {A B : Type 0} (f : A → B) (x : A) (xs : List A) → last_of (f x) (map f xs) ≡ f (last_of x xs)
last_map f x [] = refl
last_map f x (y ∷ ys) = last_map f y ys

-- what a call was asked for, the c that it answered, the block that it wrote, and that it was a call for s
module _ {X : Type 0} (asks : X → Asking) (counted : X → ℕ) (written : X → List ℕ) (Call : List ℕ → X → Type 0) where
  -- its setup and its answer
  abbrev pub answered_by : X → Made
  answered_by x = ((asks x).setup, counted x)

  -- calls for s, and then each for what the one before it wrote
  abbrev pub InRow : List ℕ → List X → Type 0
  InRow s [] = Unit {0}
  InRow s (x ∷ xs) = Call s x × InRow (written x) xs

  -- the cut is accepted, and the call answered its c and wrote its block
  pub record CutBy (s : List ℕ) (x : X) : Type 0 where
    pub taken : cut_refusal (asks x).order (asks x).setup s (asks x).room ≡ 0
    pub counts : counted x ≡ (made s (asks x)).1
    pub writes : written x ≡ block_by s (asks x)

  -- of each call that is known
  module _ (says : (s : List ℕ) → Bytes s → (x : X) → Call s x → CutBy s x) where
    module _ (s : List ℕ) (b : Bytes s) (x : X) (call : Call s x) where
      own : CutBy s x
      own = says s b x call

      own_bytes : Bytes (block_by s (asks x))
      own_bytes =
          let t : CutTaken s (asks x).order (asks x).setup (asks x).room = cut-says s (asks x).order (asks x).setup (asks x).room own.taken in
          cut-bytes s b t.block (asks x).order (asks x).setup t.allows

      behind : (xs : List X) → InRow (written x) xs → InRow (block_by s (asks x)) xs
      behind xs r = subst (λ (t : List ℕ). InRow t xs) own.writes r

    -- they are a chain: all are accepted, and their answers are the chain's
    row_chain : (s : List ℕ) → Bytes s → (xs : List X) → InRow s xs → (chain_refusal s (map asks xs) ≡ 0) × (all_made s (map asks xs) ≡ map answered_by xs)
    row_chain s b [] r = (refl, refl)
    row_chain s b (x ∷ xs) r =
        let c : CutBy s x = own s b x r.0 in
        let rest = row_chain (block_by s (asks x)) (own_bytes s b x r.0) xs (behind s b x r.0 xs r.1) in
        (λ i. or_else (c.taken i) (rest.0 i), λ i. ((asks x).setup, sym c.counts i) ∷ rest.1 i)

    -- the last call: some block that it was a call for, and what it wrote are the final bytes
    pub last_call : (s : List ℕ) → Bytes s → (x : X) (xs : List X) → InRow s (x ∷ xs) → (t : List ℕ) × Bytes t × Call t (last_of x xs) × (written (last_of x xs) ≡ chain_bytes s (map asks (x ∷ xs)))
    last_call s b x [] r = (s, b, r.0, (own s b x r.0).writes)
    last_call s b x (y ∷ ys) r = last_call (block_by s (asks x)) (own_bytes s b x r.0) y ys (behind s b x r.0 (y ∷ ys) r.1)

    module _ (s : List ℕ) (b : Bytes s) (x : X) (xs : List X) (row : InRow s (x ∷ xs)) where
      -- the last call had room for what it wrote
      pub last_room : length (written (last_of x xs)) ≤ (asks (last_of x xs)).room
      last_room =
          subst₂ (λ (t : List ℕ) (y : Asking). length t ≤ y.room) (sym (last_call s b x xs row).3) (last_map asks x xs)
          (final_room s (asks x) (map asks xs) (row_chain s b (x ∷ xs) row).0)

      pub row_stands : OneCut s (asks (last_of x xs)).order (single_setup (map answered_by (x ∷ xs))) (written (last_of x xs)) (counted (last_of x xs))
      row_stands =
          let c = row_chain s b (x ∷ xs) row in
          let order : (last_of (asks x) (map asks xs)).order ≡ (asks (last_of x xs)).order = ap (λ (a : Asking). a.order) (last_map asks x xs) in
          let count : (last_of (made s (asks x)) (all_made (block_by s (asks x)) (map asks xs))).1 ≡ counted (last_of x xs) =
          ap (λ (m : Made). m.1) (ap₂ last_of (head-eq_of_cons-eq c.1) (tail-eq_of_cons-eq c.1) ∙ last_map answered_by x xs) in
          transport (λ i. OneCut s (order i) (single_setup (c.1 i)) (sym (last_call s b x xs row).3 i) (count i)) (chain s b (asks x) (map asks xs) c.0)

      -- two setups whose combined one is the single setup
      single-answers : (a d : Setup) (n : ℕ) → combined a d n ≡ single_setup (map answered_by (x ∷ xs)) → Answers a d n (single_setup (map answered_by (x ∷ xs)))
      single-answers a d n e = record {
        answered = combined_answered s (asks (last_of x xs)).order a d n (written (last_of x xs)) (counted (last_of x xs))
            (subst (λ (c : Setup). OneCut s (asks (last_of x xs)).order c (written (last_of x xs)) (counted (last_of x xs))) (sym e) row_stands);
        gives = e;
        small = row_stands.small;
      }

    -- a call for the setup of the cuts ys, and one more cut y
    pub in_turn-answers : (s : List ℕ) → Bytes s → (ys : List X) (y : X) → InRow s (ys ++ (y ∷ []))
        → Answers (single_setup (map answered_by ys)) (asks y).setup (counted y) (single_setup (map answered_by (ys ++ (y ∷ []))))
    in_turn-answers s b ys y row = go ys row same
      where
        c : Setup
        c = single_setup (map answered_by ys)

        same : combined c (asks y).setup (counted y) ≡ single_setup (map answered_by (ys ++ (y ∷ [])))
        same = sym (ap (λ (m : Made). m.0) (ap (in_turn uncut) (map-append answered_by ys (y ∷ [])) ∙ turn_append uncut (map answered_by ys) (answered_by y ∷ [])))

        go : (zs : List X) → InRow s (zs ++ (y ∷ [])) → combined c (asks y).setup (counted y) ≡ single_setup (map answered_by (zs ++ (y ∷ [])))
            → Answers c (asks y).setup (counted y) (single_setup (map answered_by (zs ++ (y ∷ []))))
        go [] row q = single-answers s b y [] row c (asks y).setup (counted y) q
        go (x ∷ xs) row q = single-answers s b x (xs ++ (y ∷ [])) row c (asks y).setup (counted y) q

    -- a call for two groups that have all the cuts
    pub groups_answer : (s : List ℕ) → Bytes s → (xs : List X) → InRow s xs → (g h : Group) → cuts_in (both g h) ≡ map answered_by xs
        → Answers (grouped g).0 (grouped h).0 (grouped h).1 (single_setup (map answered_by xs))
    groups_answer s b [] row g h e = absurd (omega (arith, two_cuts g h, ap length e))
    groups_answer s b (x ∷ xs) row g h e =
        single-answers s b x xs row (grouped g).0 (grouped h).0 (grouped h).1 (ap (λ (m : Made). m.0) (grouped-both g h ∙ ap (in_turn uncut) e))

    -- however the cuts are grouped, no call for two of the groups is refused by 12
    pub groups_answered : (s : List ℕ) → Bytes s → (xs : List X) → InRow s xs → (g : Group) → cuts_in g ≡ map answered_by xs → Answered g
    groups_answered s b xs row g e = let c = row_chain s b xs row in chain_answered g s b (map asks xs) c.0 (e ∙ sym c.1)

-- ---- calls that work out combined setups

-- a call for the cuts a and b, of which b answered n, gave the setup c
module _ (Gave : Setup → Setup → ℕ → Setup → Type 0) where
  -- such calls from c on: with the first of ms, what it gave with the second, and so on, to d
  abbrev pub Folded : Setup → List Made → Setup → Type 0
  Folded c [] d = d ≡ c
  Folded c (m ∷ ms) d = (e : Setup) × Gave c m.0 m.1 e × Folded e ms d

  -- such calls for the groups of a group, each with the c that the last cut of the second answered
  abbrev pub Combines : Group → Setup → Type 0
  Combines (alone a) c = c ≡ a.0
  Combines (both g h) c = (a : Setup) × (b : Setup) × Combines g a × Combines h b × Gave a b (grouped h).1 c

  -- it is the combined one
  module _ (says : (a b : Setup) (n : ℕ) (c : Setup) → Gave a b n c → c ≡ combined a b n) where
    folded_from : (a : Made) (ms : List Made) (d : Setup) → Folded a.0 ms d → d ≡ (in_turn a ms).0
    folded_from a [] d f = f
    folded_from a (m ∷ ms) d f =
        folded_from (combined a.0 m.0 m.1, m.1) ms d (subst (λ (c : Setup). Folded c ms d) (says a.0 m.0 m.1 f.0 f.1) f.2)

    -- from what leaves out nothing they give the single setup
    pub folded_single : (ms : List Made) (d : Setup) → Folded uncut.0 ms d → d ≡ single_setup ms
    folded_single ms d f = folded_from uncut ms d f

    pub combines_grouped : (g : Group) (c : Setup) → Combines g c → c ≡ (grouped g).0
    combines_grouped (alone a) c e = e
    combines_grouped (both g h) c q =
        says q.0 q.1 (grouped h).1 c q.4
        ∙ ap₂ (λ (a b : Setup). combined a b (grouped h).1) (combines_grouped g q.0 q.2) (combines_grouped h q.1 q.3)
