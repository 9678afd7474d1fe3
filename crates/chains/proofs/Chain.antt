-- Cuts in a row: where all are accepted, the single setup stands for them (`chain`), given the room of the last (`chain_room`); and so does each way to
-- group them (`chain_grouped`), of whose setups none is refused by 12 (`chain_answered`).
use mathlib.Core.Path.{◌≡◌, refl, sym, ap, ◌∙◌, subst}
use Prim.Native.Nat.{ℕ, ◌≤◌}
use native.Mathlib.Omega.{arith}
use mathlib.Core.List.{List, [], ◌∷◌, ◌++◌, nil≢cons, head-eq_of_cons-eq, tail-eq_of_cons-eq}
use lib.ListN.{length}
use Rattle.rules.specs.Numbers.{Bytes}
use Rattle.rules.specs.Cut.{Setup, or_else, cut_bytes, cut_refusal, combined, combined_refusal}
use Rattle.rules.proofs.Tests.{or_else_none}
use Rattle.rules.proofs.Demands.{CutTaken, cut-says, cut-bytes, OneCut, combined_answered, demand_3}
use Rattle.chains.specs.Chain.{Asking, block_by, chain_bytes, chain_refusal, last_of, Made, made, all_made, as_one, in_turn, uncut, single_setup, Group, alone, both, cuts_in, grouped}
use Rattle.chains.proofs.Groups.{grouped-both, two_cuts}
use Rattle.chains.proofs.Alone.{stands-alone}

-- the first cut is accepted, and so are those behind it
first_taken : (s : List ℕ) (x : Asking) (xs : List Asking) → chain_refusal s (x ∷ xs) ≡ 0 → (cut_refusal x.order x.setup s x.room ≡ 0) × (chain_refusal (block_by s x) xs ≡ 0)
first_taken s x xs e = or_else_none (cut_refusal x.order x.setup s x.room) (chain_refusal (block_by s x) xs) e

-- the final bytes have room where the last cut had it
pub final_room : (t : List ℕ) (x : Asking) (xs : List Asking) → chain_refusal t (x ∷ xs) ≡ 0 → length (chain_bytes t (x ∷ xs)) ≤ (last_of x xs).room
final_room t x [] e = (cut-says t x.order x.setup x.room (first_taken t x [] e).0).room
final_room t x (y ∷ ys) e = final_room (block_by t x) y ys (first_taken t x (y ∷ ys) e).1

module _ (s : List ℕ) (b : Bytes s) where
  -- one more cut, y of the t that was written, is taken into the one that stands for those before: demand 3
  next : (o : ℕ) (c : Setup) (t : List ℕ) (m : ℕ) → OneCut s o c t m → (y : Asking) → cut_refusal y.order y.setup t y.room ≡ 0
      → OneCut s y.order (combined c y.setup (made t y).1) (block_by t y) (made t y).1
  next o c t m one y e =
      subst (λ (u : List ℕ). cut_refusal y.order y.setup u y.room ≡ 0 → OneCut s y.order (combined c y.setup (made u y).1) (block_by u y) (made u y).1) one.same_bytes
      (λ f. demand_3 s b o y.order c y.setup (length t) y.room (one.taken (length t) (omega arith)) f (made (cut_bytes o c s) y).1 refl) e

  -- and so on: behind x, which answered as a did and wrote t, come xs
  along : (x : Asking) (a : Made) (c : Setup) (t : List ℕ) (xs : List Asking) → OneCut s x.order c t a.1 → chain_refusal t xs ≡ 0
      → OneCut s (last_of x xs).order (in_turn (c, a.1) (all_made t xs)).0 (chain_bytes t xs) (last_of a (all_made t xs)).1
  along x a c t [] one e = one
  along x a c t (y ∷ ys) one e =
      let p = first_taken t y ys e in
      along y (made t y) (combined c y.setup (made t y).1) (block_by t y) ys (next x.order c t a.1 one y p.0) p.1

  -- Accepted cuts, from one up: the single setup, worked out from their numbers and answers, in the order of the last, is accepted given any room that
  -- has the length of the final bytes, answers the last c and writes the final bytes; each point left has the value, the time and the mark that it had
  -- in s; and the numbers of the setup fit 32 bits
  pub chain : (x : Asking) (xs : List Asking) → chain_refusal s (x ∷ xs) ≡ 0
      → OneCut s (last_of x xs).order (single_setup (all_made s (x ∷ xs))) (chain_bytes s (x ∷ xs)) (last_of (made s x) (all_made (block_by s x) xs)).1
  chain x xs e =
      let p = first_taken s x xs e in
      along x (made s x) (as_one uncut (made s x)).0 (block_by s x) xs (stands-alone s b x.order x.setup x.room p.0) p.1

  -- so the one cut is accepted given the room of the last
  pub chain_room : (x : Asking) (xs : List Asking) → chain_refusal s (x ∷ xs) ≡ 0 → cut_refusal (last_of x xs).order (single_setup (all_made s (x ∷ xs))) s (last_of x xs).room ≡ 0
  chain_room x xs e = (chain x xs e).taken (last_of x xs).room (final_room s x xs e)

  -- two groups of all the cuts give that setup too
  pub chain_grouped : (x : Asking) (xs : List Asking) → chain_refusal s (x ∷ xs) ≡ 0 → (g h : Group) → cuts_in (both g h) ≡ all_made s (x ∷ xs)
      → OneCut s (last_of x xs).order (grouped (both g h)).0 (chain_bytes s (x ∷ xs)) (last_of (made s x) (all_made (block_by s x) xs)).1
  chain_grouped x xs e g h q =
      subst (λ (m : Made). OneCut s (last_of x xs).order m.0 (chain_bytes s (x ∷ xs)) (last_of (made s x) (all_made (block_by s x) xs)).1)
      (sym (grouped-both g h ∙ ap (in_turn uncut) q)) (chain x xs e)

-- ---- no group is refused by 12

-- accepted cuts of s, parted: those that made ms, and those that made ns of what these wrote
record Parted (s : List ℕ) (ms ns : List Made) : Type 0 where
  us : List Asking
  vs : List Asking
  before : ms ≡ all_made s us
  behind : ns ≡ all_made (chain_bytes s us) vs
  before-taken : chain_refusal s us ≡ 0
  behind-taken : chain_refusal (chain_bytes s us) vs ≡ 0
  bytes : Bytes (chain_bytes s us)

part : (s : List ℕ) → Bytes s → (xs : List Asking) → chain_refusal s xs ≡ 0 → (ms ns : List Made) → ms ++ ns ≡ all_made s xs → Parted s ms ns
part s b xs e [] ns q = record { us = []; vs = xs; before = refl; behind = q; before-taken = refl; behind-taken = e; bytes = b }
part s b [] e (m ∷ ms) ns q = absurd (nil≢cons (sym q))
part s b (x ∷ xs) e (m ∷ ms) ns q =
    let p = first_taken s x xs e in
    let t : CutTaken s x.order x.setup x.room = cut-says s x.order x.setup x.room p.0 in
    let rest : Parted (block_by s x) ms ns = part (block_by s x) (cut-bytes s b t.block x.order x.setup t.allows) xs p.1 ms ns (tail-eq_of_cons-eq q) in
    record {
      us = x ∷ rest.us;
      vs = rest.vs;
      before = λ i. head-eq_of_cons-eq q i ∷ rest.before i;
      behind = rest.behind;
      before-taken = λ i. or_else (p.0 i) (rest.before-taken i);
      behind-taken = rest.behind-taken;
      bytes = rest.bytes;
    }

-- wherever two groups of a group are taken as one, their combined setup is not refused by 12
abbrev pub Answered : Group → Type 0
Answered (alone a) = Unit {0}
Answered (both g h) = Answered g × Answered h × (combined_refusal (grouped g).0 (grouped h).0 ≡ 0)

-- so it is for every group of accepted cuts that follow each other
pub chain_answered : (g : Group) (s : List ℕ) → Bytes s → (xs : List Asking) → chain_refusal s xs ≡ 0 → cuts_in g ≡ all_made s xs → Answered g
chain_answered (alone a) s b xs e q = tt
chain_answered (both g h) s b xs e q =
    let p : Parted s (cuts_in g) (cuts_in h) = part s b xs e (cuts_in g) (cuts_in h) q in
    (chain_answered g s b p.us p.before-taken p.before, chain_answered h (chain_bytes s p.us) p.bytes p.vs p.behind-taken p.behind, go xs e q)
  where
    go : (xs : List Asking) → chain_refusal s xs ≡ 0 → cuts_in (both g h) ≡ all_made s xs → combined_refusal (grouped g).0 (grouped h).0 ≡ 0
    go [] e q = absurd (omega (arith, two_cuts g h, ap length q))
    go (x ∷ xs) e q =
        combined_answered s (last_of x xs).order (grouped g).0 (grouped h).0 (grouped h).1 (chain_bytes s (x ∷ xs)) (last_of (made s x) (all_made (block_by s x) xs)).1
        (chain_grouped s b x xs e g h q)
