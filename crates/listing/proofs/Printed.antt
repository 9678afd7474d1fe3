-- What is handed on is what comes next in the listing (`first_next`, `page_next`), at the end all of it (`all-sent`): the calls of `write_next`, one behind the other, are handed the listing (`printed`).
use mathlib.Core.Path.{◌≡◌, refl, sym, ap, ap₂, ◌∙◌, subst}
use mathlib.Core.Bool.{true, true≢false}
use mathlib.Core.List.{List, [], ◌++◌, append_assoc}
use Prim.Native.Nat.{ℕ, zero, suc, ◌+◌, ◌*◌, ◌≤◌}
use native.Mathlib.Omega.{arith}
use lib.ListN.{length, take, drop, length-append, length-drop}
use lib.Seq.{take-append_seam, drop-append_seam, drop-drop, take-add, take-length}
use Rattle.std.specs.Prelude.{Option, None, Some, Result, Ok, Err, is_ok, IsErr}
use Rattle.std.specs.Io.KnownBytes.{Appends}
use Rattle.rules.specs.Numbers.{Bytes}
use Rattle.rules.specs.Rules.{opened}
use Rattle.listing.specs.declared.pages.Spot.{Spot}
use Rattle.listing.specs.declared.pages.Page.{Page}
use Rattle.listing.specs.Listing.{listing}
use Rattle.copies.specs.Copies.{Wrote}
use Rattle.listing.specs.Pages.{line_room, front, Stands, lines_from, rest_by, rest, Paged}
use Rattle.listing.specs.Outputs.{Next, Printed}
use Rattle.listing.proofs.Texts.{taken}
use Rattle.listing.proofs.Rests.{rest-most}

-- the listing of s stands at a spot when so many of its bytes were handed on
pub record Before (s : List ℕ) (spot : Spot) (sent : ℕ) : Type 0 where
  pub stands : Stands s spot
  pub some : length (front s) ≤ sent
  pub within : sent ≤ length (listing s)
  pub left : drop sent (listing s) ≡ rest s spot
  pub small : length (listing s) ≤ line_room + line_room * 2147483648

-- bytes that what is left starts with come next; and then what is left behind them is left
module _ (s bs : List ℕ) (sent : ℕ) (to : Spot) (w : sent ≤ length (listing s)) (e : drop sent (listing s) ≡ bs ++ rest s to) where
  comes : Next s sent bs
  comes = sym (ap (take (length bs)) e ∙ take-append_seam bs (rest s to))

  reaches : sent + length bs ≤ length (listing s)
  reaches = omega (arith, ap length e, length-drop sent (listing s), length-append bs (rest s to))

  leaves : drop (sent + length bs) (listing s) ≡ rest s to
  leaves = sym (drop-drop (length bs) sent (listing s)) ∙ ap (drop (length bs)) e ∙ drop-append_seam bs (rest s to)

-- first what `put_front` wrote, up to the spot that `begin` answers
pub first_next : (s : List ℕ) (b : Bytes s) (sent : ℕ) (to : Spot) {l l' : List ℕ} {e : ℕ} → sent ≡ 0 → Wrote l 0 (front s) l' e → e ≤ line_room → Stands s to → listing s ≡ front s ++ rest s to
    → Next s sent (take e l') × Before s to (sent + length (take e l'))
first_next s b sent to {l} {l'} {e} z w few t h = (
  comes s (take e l') sent to (omega arith) left,
  record {
    stands = t;
    some = omega (arith, ap length first);
    within = reaches s (take e l') sent to (omega arith) left;
    left = leaves s (take e l') sent to (omega arith) left;
    small = omega (arith, w.ends, ap length h, length-append (front s) (rest s to), rest-most s b to t);
  },
)
  where
    first : take e l' ≡ front s
    first = taken w (omega arith)

    left : drop sent (listing s) ≡ take e l' ++ rest s to
    left = ap (λ (n : ℕ). drop n (listing s)) z ∙ h ∙ ap (λ (x : List ℕ). x ++ rest s to) (sym first)

-- then each page
pub page_next : (s : List ℕ) (from : Spot) (sent : ℕ) (out : List ℕ) (r : Page) → Before s from sent → Paged s from out r
    → Next s sent (take r.count out) × Before s r.spot (sent + length (take r.count out))
page_next s from sent out r b p = (
  comes s (take r.count out) sent r.spot b.within left,
  record {
    stands = p.stands;
    some = omega (arith, b.some);
    within = reaches s (take r.count out) sent r.spot b.within left;
    left = leaves s (take r.count out) sent r.spot b.within left;
    small = b.small;
  },
)
  where
    left : drop sent (listing s) ≡ take r.count out ++ rest s r.spot
    left = b.left ∙ p.lines

-- and at the end that was all
pub all-sent : (s : List ℕ) (spot : Spot) (sent : ℕ) → Before s spot sent → (spot.place.refusal ≡ 0 → ⊥) → sent ≡ length (listing s)
unfolding rest
all-sent s spot sent b h = go spot.place.refusal h b.left
  where
    go : (n : ℕ) → (n ≡ 0 → ⊥) → drop sent (listing s) ≡ rest_by n (lines_from (opened s) spot.segment spot.place.k) → sent ≡ length (listing s)
    go zero h e = absurd (h refl)
    go (suc n) h e = omega (arith, b.within, ap length e, length-drop sent (listing s))

-- where a write failed, less may have been taken
pub stopped : {A E : Type 0} (s : List ℕ) (spot : Spot) (sent : ℕ) (r : Result A E) → Before s spot sent → IsErr r → Printed s sent (is_ok r)
stopped s spot sent (Ok x) b e = absurd (true≢false (sym e))
stopped s spot sent (Err x) b e = record { some = b.some; within = b.within; all = λ t. absurd (true≢false (sym t)) }

-- the bytes of calls of `write_next`, one behind the other, and how many they are
pub data Handed (s : List ℕ) : ℕ → List ℕ → Type 0 where
  none : Handed s 0 []
  more : {sent : ℕ} {bs bytes : List ℕ} → Handed s sent bs → Next s sent bytes → Handed s (sent + length bytes) (bs ++ bytes)

-- they are the listing's first
started : {s bs : List ℕ} {sent : ℕ} → Handed s sent bs → bs ≡ take sent (listing s)
started none = refl
started {s} (more {sent} {bs} {bytes} w n) = ap₂ {C = List ℕ} (λ x y. x ++ y) (started w) n ∙ sym (take-add sent (length bytes) (listing s))

-- and, where `print` answers that all were taken, the listing
pub printed : {s bs : List ℕ} {sent : ℕ} → Handed s sent bs → Printed s sent true → bs ≡ listing s
printed {s} w p = started w ∙ ap (λ (n : ℕ). take n (listing s)) (p.all refl) ∙ take-length (listing s)

-- ---- what the writer took, where its bytes are known

appends_both : (a b c : Option (List ℕ)) (bs cs : List ℕ) → Appends a b bs → Appends b c cs → Appends a c (bs ++ cs)
appends_both None b c bs cs p q = tt
appends_both (Some x) None c bs cs p q = absurd p
appends_both (Some x) (Some y) None bs cs p q = absurd q
appends_both (Some x) (Some y) (Some z) bs cs p q = q ∙ ap (λ (l : List ℕ). l ++ cs) p ∙ append_assoc x bs cs

next_taken : (s bs : List ℕ) (sent now : ℕ) → Next s sent bs → now ≡ sent + length bs → take now (listing s) ≡ take sent (listing s) ++ bs
next_taken s bs sent now n e = ap (λ (m : ℕ). take m (listing s)) e ∙ take-add sent (length bs) (listing s) ∙ ap (λ (x : List ℕ). take sent (listing s) ++ x) (sym n)

-- the first bytes are the listing's first
pub first_taken : (s bs : List ℕ) (sent now : ℕ) (a b : Option (List ℕ)) → sent ≡ 0 → Next s sent bs → now ≡ sent + length bs → Appends a b bs → Appends a b (take now (listing s))
first_taken s bs sent now a b z n e p = subst (Appends a b) (sym (next_taken s bs sent now n e ∙ ap (λ (m : ℕ). take m (listing s) ++ bs) z)) p

-- and those of a later call come behind them
pub more_taken : (s bs : List ℕ) (sent now : ℕ) (a b c : Option (List ℕ)) → Next s sent bs → now ≡ sent + length bs → Appends a b (take sent (listing s)) → Appends b c bs → Appends a c (take now (listing s))
more_taken s bs sent now a b c n e p q = subst (Appends a c) (sym (next_taken s bs sent now n e)) (appends_both a b c (take sent (listing s)) bs p q)

-- at the end all of it
pub all-taken : (s : List ℕ) (sent : ℕ) (a b : Option (List ℕ)) → sent ≡ length (listing s) → Appends a b (take sent (listing s)) → Appends a b (listing s)
all-taken s sent a b e p = subst (Appends a b) (ap (λ (n : ℕ). take n (listing s)) e ∙ take-length (listing s)) p
