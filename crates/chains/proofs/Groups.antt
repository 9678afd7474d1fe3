-- Grouping: cuts may be taken as one in any groups (`as_one_assoc`), with nothing cut before them (`uncut-before`, `uncut-between`), and what comes of two
-- groups is what comes of their cuts one after another (`grouped-both`), so the same however they are grouped (`grouping`).
use mathlib.Core.Path.{◌≡◌, refl, sym, ap, ◌∙◌}
use Prim.Native.Nat.{ℕ, ◌+◌, ◌*◌, ◌≤◌, max}
use native.Mathlib.Omega.{arith}
use mathlib.Core.List.{List, [], ◌∷◌, ◌++◌, head-eq_of_cons-eq}
use lib.ListN.{length, length-append}
use Rattle.rules.specs.Cut.{step, or_else}
use Rattle.rules.proofs.Cuts.{or_else_assoc, place-cut, step_cut}
use Rattle.chains.specs.Chain.{Made, as_one, in_turn, uncut, Group, alone, both, cuts_in, grouped}

-- the number that the last of three answered is the answer either way
pub as_one_assoc : (a b c : Made) → as_one (as_one a b) c ≡ as_one a (as_one b c)
as_one_assoc a b c =
    let x : ℕ = step a.0 in
    let y : ℕ = step b.0 in
    let sp : max 1 (x * y) * step c.0 ≡ x * max 1 (y * step c.0) = step_cut x y (step c.0) (omega arith) (omega arith) (omega arith) in
    let fp : a.0.fp + x * b.0.fp + max 1 (x * y) * c.0.fp ≡ a.0.fp + x * (b.0.fp + y * c.0.fp) = place-cut a.0.fp x y b.0.fp c.0.fp (omega arith) (omega arith) in
    λ i. (record { sp = sp i; np = c.1; fp = fp i; sn = or_else_assoc a.0.sn b.0.sn c.0.sn i }, c.1)

-- one cut by itself: an SP of 0 counts as 1, and NP is the c that it answered
pub uncut-one : (a : Made) → as_one uncut a ≡ (record { sp = step a.0; np = a.1; fp = a.0.fp; sn = a.0.sn }, a.1)
uncut-one a =
    let sp : 1 * step a.0 ≡ step a.0 = omega arith in
    let fp : 0 + 1 * a.0.fp ≡ a.0.fp = omega arith in
    λ i. (record { sp = sp i; np = a.1; fp = fp i; sn = a.0.sn }, a.1)

-- nothing cut before a cut that follows another
pub uncut-between : (a b : Made) → as_one a (as_one uncut b) ≡ as_one a b
uncut-between a b =
    let x : ℕ = step a.0 in
    let sp : x * max 1 (1 * step b.0) ≡ x * step b.0 = ap (λ (k : ℕ). x * k) (omega arith) in
    let fp : a.0.fp + x * (0 + 1 * b.0.fp) ≡ a.0.fp + x * b.0.fp = ap (λ (k : ℕ). a.0.fp + x * k) (omega arith) in
    λ i. (record { sp = sp i; np = b.1; fp = fp i; sn = or_else a.0.sn b.0.sn }, b.1)

-- nothing cut before two
pub uncut-before : (a b : Made) → as_one uncut (as_one a b) ≡ as_one a b
uncut-before a b =
    let x : ℕ = step a.0 in
    let one : max 1 (1 * x) ≡ x = omega arith in
    let sp : 1 * max 1 (x * step b.0) ≡ x * step b.0 = sym (step_cut 1 x (step b.0) (omega arith) (omega arith) (omega arith)) ∙ ap (λ (k : ℕ). k * step b.0) one in
    let fp : 0 + 1 * (a.0.fp + x * b.0.fp) ≡ a.0.fp + x * b.0.fp = omega arith in
    λ i. (record { sp = sp i; np = b.1; fp = fp i; sn = or_else a.0.sn b.0.sn }, b.1)

-- cuts one after another, and then others
pub turn_append : (a : Made) (bs cs : List Made) → in_turn a (bs ++ cs) ≡ in_turn (in_turn a bs) cs
turn_append a [] cs = refl
turn_append a (b ∷ bs) cs = turn_append (as_one a b) bs cs

-- a group behind a cut is its cuts one after another
pub turn-grouped : (a : Made) (g : Group) → as_one a (grouped g) ≡ in_turn a (cuts_in g)
turn-grouped a (alone b) = refl
turn-grouped a (both g h) =
    sym (as_one_assoc a (grouped g) (grouped h))
    ∙ turn-grouped (as_one a (grouped g)) h
    ∙ ap (λ (m : Made). in_turn m (cuts_in h)) (turn-grouped a g)
    ∙ sym (turn_append a (cuts_in g) (cuts_in h))

-- two groups as one are the single setup of their cuts, with the c of the last
pub grouped-both : (g h : Group) → grouped (both g h) ≡ in_turn uncut (cuts_in (both g h))
grouped-both g h = sym (uncut-before (grouped g) (grouped h)) ∙ turn-grouped uncut (both g h)

some_cuts : (g : Group) → 1 ≤ length (cuts_in g)
some_cuts (alone a) = omega arith
some_cuts (both g h) = omega (arith, length-append (cuts_in g) (cuts_in h), some_cuts g)

pub two_cuts : (g h : Group) → 2 ≤ length (cuts_in (both g h))
two_cuts g h = omega (arith, length-append (cuts_in g) (cuts_in h), some_cuts g, some_cuts h)

-- two ways to group the same cuts give the same
pub grouping : (g h : Group) → cuts_in g ≡ cuts_in h → grouped g ≡ grouped h
grouping (alone a) (alone b) e = head-eq_of_cons-eq e
grouping (alone a) (both g h) e = absurd (omega (arith, two_cuts g h, ap length e))
grouping (both g h) (alone a) e = absurd (omega (arith, two_cuts g h, ap length e))
grouping (both g h) (both k l) e = grouped-both g h ∙ ap (in_turn uncut) e ∙ sym (grouped-both k l)
