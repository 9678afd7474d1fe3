-- What a caller learns of a call for C, as the checker has it from the `ensures` of the call: `OpenCall`, `PointCall`, `FillCall`, `CrossingCall`,
-- `StripCall`, `CutCall`, `CombinedCall`, `SetupReadCall`, `SetupWriteCall`, `JoinCall`, `NarrowCall`, `LayoutCall`, `TextCall`, `LabelCall`. A theorem over these speaks of the contract itself. `holding b s` is the slice b with the bytes s in it.
use mathlib.Core.List.{List}
use Prim.Native.Nat.{ℕ}
use lib.Ieee.{Float}
use contract.Lifetimes.{Lfts}
use denote.Ref.{Bor, MutBor, at_last as holding}
use Rattle.rules.specs.Cut.{Setup}
use Rattle.tessarquin.proofs.tessarquin_open.Reads as open-reads
use Rattle.tessarquin.proofs.tessarquin_point.Reads as point-reads
use Rattle.tessarquin.proofs.tessarquin_fill.Reads as fill-reads
use Rattle.tessarquin.proofs.crossed.tessarquin_crossing.Reads as crossing_reads
use Rattle.tessarquin.proofs.drawn.tessarquin_strip.Reads as strip-reads
use Rattle.tessarquin.proofs.tessarquin_cut.Reads as cut-reads
use Rattle.tessarquin.proofs.combining.tessarquin_combined.Reads as combined-reads
use Rattle.tessarquin.proofs.typed.tessarquin_setup_read.Reads as setup-read-reads
use Rattle.tessarquin.proofs.typed.tessarquin_setup_write.Reads as setup-write-reads
use Rattle.tessarquin.proofs.joined.tessarquin_join.Reads as join-reads
use Rattle.tessarquin.proofs.narrowed.tessarquin_narrow.Reads as narrow-reads
use Rattle.tessarquin.proofs.portions.tessarquin_layout.Reads as layout-reads
use Rattle.tessarquin.proofs.portions.tessarquin_user_text.Reads as text-reads
use Rattle.tessarquin.proofs.portions.tessarquin_label.Reads as label-reads

-- lent a block of the bytes s and a slice of these bytes for the answer, `tessarquin_open` returned m and left these bytes in the slice
abbrev pub OpenCall : List ℕ → List ℕ → ℕ → List ℕ → Type 0
OpenCall s answer m left = (κs : Lfts 2) × (b : Bor (List ℕ)) × (a : MutBor (List ℕ)) × open-reads.Learnt κs (record b { now = s }, (holding a answer, tt)) m (record b { now = s }, (holding a left, tt))

-- the same of `tessarquin_point`, for point k of segment n of an array
abbrev pub PointCall : List ℕ → ℕ → ℕ → ℕ → List ℕ → ℕ → List ℕ → Type 0
PointCall s array n k answer m left =
    (κs : Lfts 2) × (b : Bor (List ℕ)) × (a : MutBor (List ℕ)) × point-reads.Learnt κs (record b { now = s }, (array, (n, (k, (holding a answer, tt))))) m (record b { now = s }, (array, (n, (k, (holding a left, tt)))))

-- the same of `tessarquin_fill`, for segment n of an array
abbrev pub FillCall : List ℕ → ℕ → ℕ → List ℕ → ℕ → List ℕ → Type 0
FillCall s array n answer m left =
    (κs : Lfts 2) × (b : Bor (List ℕ)) × (a : MutBor (List ℕ)) × fill-reads.Learnt κs (record b { now = s }, (array, (n, (holding a answer, tt)))) m (record b { now = s }, (array, (n, (holding a left, tt))))

-- the same of `tessarquin_crossing`, for a level in segment n of an array
abbrev pub CrossingCall : List ℕ → ℕ → ℕ → Float → List ℕ → ℕ → List ℕ → Type 0
CrossingCall s array n level answer m left =
    (κs : Lfts 2) × (b : Bor (List ℕ)) × (a : MutBor (List ℕ)) × crossing_reads.Learnt κs (record b { now = s }, (array, (n, (level, (holding a answer, tt))))) m (record b { now = s }, (array, (n, (level, (holding a left, tt)))))

-- lent a block of the bytes s, a slice for the leasts of w columns, one for the greatests and one for the answer, `tessarquin_strip` returned m and left these bytes in
-- the three
abbrev pub StripCall : List ℕ → ℕ → ℕ → ℕ → List ℕ → List ℕ → List ℕ → ℕ → List ℕ → List ℕ → List ℕ → Type 0
StripCall s array n w least greatest answer m low high third =
    (κs : Lfts 4) × (b : Bor (List ℕ)) × (l : MutBor (List ℕ)) × (g : MutBor (List ℕ)) × (a : MutBor (List ℕ))
    × strip-reads.Learnt κs (record b { now = s }, (array, (n, (w, (holding l least, (holding g greatest, (holding a answer, tt))))))) m
    (record b { now = s }, (array, (n, (w, (holding l low, (holding g high, (holding a third, tt)))))))

-- lent a block of the bytes s, a slice for the block that is cut and one for c and its length, `tessarquin_cut` returned m and left these bytes in the two
abbrev pub CutCall : List ℕ → Setup → ℕ → List ℕ → List ℕ → ℕ → List ℕ → List ℕ → Type 0
CutCall s c q out answer m left second =
    (κs : Lfts 3) × (b : Bor (List ℕ)) × (o : MutBor (List ℕ)) × (a : MutBor (List ℕ))
    × cut-reads.Learnt κs (record b { now = s }, (c.sp, (c.np, (c.fp, (c.sn, (q, (holding o out, (holding a answer, tt)))))))) m
    (record b { now = s }, (c.sp, (c.np, (c.fp, (c.sn, (q, (holding o left, (holding a second, tt))))))))

-- for the cut a and then the cut b, which answered c, and lent a slice for the answer, `tessarquin_combined` returned m and left these bytes in the slice
abbrev pub CombinedCall : Setup → Setup → ℕ → List ℕ → ℕ → List ℕ → Type 0
CombinedCall a b c answer m left =
    (κs : Lfts 1) × (r : MutBor (List ℕ))
    × combined-reads.Learnt κs (a.sp, (a.np, (a.fp, (a.sn, (b.sp, (b.np, (b.fp, (b.sn, (c, (holding r answer, tt)))))))))) m
    (a.sp, (a.np, (a.fp, (a.sn, (b.sp, (b.np, (b.fp, (b.sn, (c, (holding r left, tt))))))))))

-- lent a line of the bytes t and a slice for the answer, `tessarquin_setup_read` returned m and left these bytes in the slice
abbrev pub SetupReadCall : List ℕ → List ℕ → ℕ → List ℕ → Type 0
SetupReadCall t answer m left =
    (κs : Lfts 2) × (b : Bor (List ℕ)) × (a : MutBor (List ℕ)) × setup-read-reads.Learnt κs (record b { now = t }, (holding a answer, tt)) m (record b { now = t }, (holding a left, tt))

-- for the setup c, and lent a slice for its line and one for the line's length, `tessarquin_setup_write` returned m and left these bytes in the two
abbrev pub SetupWriteCall : Setup → List ℕ → List ℕ → ℕ → List ℕ → List ℕ → Type 0
SetupWriteCall c out answer m left second =
    (κs : Lfts 2) × (o : MutBor (List ℕ)) × (a : MutBor (List ℕ))
    × setup-write-reads.Learnt κs (c.sp, (c.np, (c.fp, (c.sn, (holding o out, (holding a answer, tt)))))) m
    (c.sp, (c.np, (c.fp, (c.sn, (holding o left, (holding a second, tt))))))

-- lent parts of the bytes s, a slice for the block that is joined and one for n and its length, `tessarquin_join` returned m and left these bytes in the two
abbrev pub JoinCall : List ℕ → List ℕ → List ℕ → ℕ → List ℕ → List ℕ → Type 0
JoinCall s out answer m left second =
    (κs : Lfts 3) × (b : Bor (List ℕ)) × (o : MutBor (List ℕ)) × (a : MutBor (List ℕ))
    × join-reads.Learnt κs (record b { now = s }, (holding o out, (holding a answer, tt))) m (record b { now = s }, (holding o left, (holding a second, tt)))

-- lent a block of the bytes s, a slice for the block that is narrowed and one for its length, `tessarquin_narrow` returned m and left these bytes in the two
abbrev pub NarrowCall : List ℕ → List ℕ → List ℕ → ℕ → List ℕ → List ℕ → Type 0
NarrowCall s out answer m left second =
    (κs : Lfts 3) × (b : Bor (List ℕ)) × (o : MutBor (List ℕ)) × (a : MutBor (List ℕ))
    × narrow-reads.Learnt κs (record b { now = s }, (holding o out, (holding a answer, tt))) m (record b { now = s }, (holding o left, (holding a second, tt)))

-- lent a block of the bytes s and a slice for the answer, `tessarquin_layout` returned m and left these bytes in the slice
abbrev pub LayoutCall : List ℕ → List ℕ → ℕ → List ℕ → Type 0
LayoutCall s answer m left = (κs : Lfts 2) × (b : Bor (List ℕ)) × (a : MutBor (List ℕ)) × layout-reads.Learnt κs (record b { now = s }, (holding a answer, tt)) m (record b { now = s }, (holding a left, tt))

-- the same of `tessarquin_user_text`
abbrev pub TextCall : List ℕ → List ℕ → ℕ → List ℕ → Type 0
TextCall s answer m left = (κs : Lfts 2) × (b : Bor (List ℕ)) × (a : MutBor (List ℕ)) × text-reads.Learnt κs (record b { now = s }, (holding a answer, tt)) m (record b { now = s }, (holding a left, tt))

-- the same of `tessarquin_label`, lent a fallback too
abbrev pub LabelCall : List ℕ → List ℕ → List ℕ → ℕ → List ℕ → Type 0
LabelCall s fallback answer m left =
    (κs : Lfts 3) × (b : Bor (List ℕ)) × (f : Bor (List ℕ)) × (a : MutBor (List ℕ))
    × label-reads.Learnt κs (record b { now = s }, (record f { now = fallback }, (holding a answer, tt))) m (record b { now = s }, (record f { now = fallback }, (holding a left, tt)))
