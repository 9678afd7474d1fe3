-- A column of none, and then its points; it has some, so its least and greatest are those of its samples.
use mathlib.Core.Path.{◌≡◌, sym, ap, ◌∙◌, subst}
use Prim.Native.Nat.{ℕ}
use native.Mathlib.Omega.{arith}
use lib.IntN.{ℤ}
use mir.Syntax.{w16}
use mir.Val.{SFits}
use mir.ValLaws.{to_z-of_z}
use Rattle.std.proofs.Common.{rules}
use Rattle.rules.proofs.Numbers.{below-index}
use Rattle.fills.specs.Fills.{sample_at}
use Rattle.fills.proofs.Sampling.{in_word}
use Rattle.columns.specs.Columns.{least, greatest, run}
use Rattle.tallies.specs.declared.Tally.{Tally}
use Rattle.tallies.specs.Tallies.{fresh, Seen, Spanned}
use Rattle.tallies.proofs.Heights.{Words}
use Rattle.tallies.proofs.Picking.{read}
use Rattle.tallies.proofs.Tallying.{seen_fresh, spanned_fresh, least_of, greatest_of}
use Rattle.tallies.proofs.column.Goals as goal
use Rattle.tallies.proofs.column.Goals.{After-shared_slice_known-1, Start}

-- the samples, and what is known of them before this column
abbrev samples : Start → ℕ → ℤ
samples c = let a = c.args in sample_at a.order a.size a.block.now a.from

words : (c : After-shared_slice_known-1) → Words (samples (goal.at.After-shared_slice_known-1 c).Start)
words c j = let a = c.args in in_word a.order a.size a.block.now a.from j (below-index 256 a.block.now (λ i h. (c.type_inv.block i).fits)) c.requires.holds.narrow

-- a column of none; the greatest of all so far is read as itself
abbrev begun : Tally → Tally
begun t = fresh (record t { top = read t.top })

started : (c : After-shared_slice_known-1) → SFits w16 c.args.before.top → (let t = begun c.args.before in
    Seen c.args.size (samples (goal.at.After-shared_slice_known-1 c).Start) c.args.a t × Spanned (samples (goal.at.After-shared_slice_known-1 c).Start) c.args.a c.args.a t)
started c fits =
    let a = c.args in
    let f = samples (goal.at.After-shared_slice_known-1 c).Start in
    let same = ap (λ (z : ℤ). fresh (record a.before { top = z })) (to_z-of_z w16 a.before.top fits) in
    (subst (Seen a.size f a.a) (sym same) (seen_fresh a.size f a.a a.before c.requires.seen), spanned_fresh f a.a (record a.before { top = read a.before.top }))

pub few-requires : goal.few-requires
few-requires c = record {
  holds = c.requires.holds;
  a_le_b = (omega (arith, c.requires.a_lt_b), c.requires.a_lt_b.1);
  seen = (started (goal.at.few-requires c).After-shared_slice_known-1 (search rules)).0;
  spanned = (started (goal.at.few-requires c).After-shared_slice_known-1 (search rules)).1;
}

-- what is ensured of a tally with the points of the column
ended : (c : After-shared_slice_known-1) (t : Tally) → (let a = c.args in
    Seen a.size (samples (goal.at.After-shared_slice_known-1 c).Start) a.b t × Spanned (samples (goal.at.After-shared_slice_known-1 c).Start) a.a a.b t
    → (t.least ≡ least (run (samples (goal.at.After-shared_slice_known-1 c).Start) a.a a.b)) × (t.greatest ≡ greatest (run (samples (goal.at.After-shared_slice_known-1 c).Start) a.a a.b)) × Seen a.size (samples (goal.at.After-shared_slice_known-1 c).Start) a.b t)
ended c t (seen, spanned) =
    let a = c.args in
    let l = c.requires.a_lt_b.0 in
    (spanned.least_is ∙ least_of (samples (goal.at.After-shared_slice_known-1 c).Start) (words c) a.a a.b l, spanned.greatest_is ∙ greatest_of (samples (goal.at.After-shared_slice_known-1 c).Start) (words c) a.a a.b l, seen)

pub returns-then-b-a-lt8 : goal.returns-then-b-a-lt8
returns-then-b-a-lt8 c = let r = ended (goal.at.returns-then-b-a-lt8 c).After-shared_slice_known-1 c.few.result (c.few.ensures.seen_2, c.few.ensures.spanned_2) in record {
  least_value = r.0;
  greatest_value = r.1;
  seen_2 = r.2;
}

pub many-requires : goal.many-requires
many-requires c = record {
  holds = c.requires.holds;
  a_le_b = (omega (arith, c.requires.a_lt_b), c.requires.a_lt_b.1);
  seen = (started (goal.at.many-requires c).After-shared_slice_known-1 (search rules)).0;
  spanned = (started (goal.at.many-requires c).After-shared_slice_known-1 (search rules)).1;
}

pub returns : goal.returns
returns c = let r = ended (goal.at.returns c).After-shared_slice_known-1 c.many.result (c.many.ensures.seen_2, c.many.ensures.spanned_2) in record {
  least_value = r.0;
  greatest_value = r.1;
  seen_2 = r.2;
}
