-- What a caller learns of a call, as the checker has it from the `ensures` of the call: `PointCall`, `FillCall`, `PlaceCall`, `StepCall`, `AfterCall`,
-- `WalkedCall`. A theorem over these speaks of the contract itself. `holding b s` is the slice b with s in it. `start` and `next` hold references, and the
-- checker makes no such reading of them: there the clause itself is shown to be a record of `specs/` and nothing else (`start-says`, `next_says`).
use Rattle.std.specs.Prelude.{Option}
use mathlib.Core.Path.{◌≡◌, refl}
use mathlib.Core.List.{List}
use Prim.Native.Nat.{ℕ}
use lib.Ieee.{Float}
use seplogic.Ra.Ura.{Ura}
use base.Logic.{SProp}
use prog.Memory.{Memory}
use prog.Routine.{Routine}
use types.Logic.{Logic}
use contract.Monad.{Fun, fact}
use contract.Lifetimes.{Lfts}
use denote.Ref.{Bor, MutBor, at_last as holding}
use Rattle.points.specs.declared.answers.Point.{Point}
use Rattle.points.specs.declared.answers.Filled.{Filled}
use Rattle.points.specs.declared.walk.Place.{Place}
use Rattle.points.specs.declared.walk.Walk.{Walk}
use Rattle.points.specs.declared.walk.TimedPoint.{TimedPoint}
use Rattle.points.specs.Walks.{Started, Stepped}
use Rattle.points.proofs.one.point.Reads as point-reads
use Rattle.points.proofs.many.fill.Reads as fill-reads
use Rattle.points.proofs.walk.place_of.Reads as place-reads
use Rattle.points.proofs.walk.step_at.Reads as step-reads
use Rattle.points.proofs.walk.after.Reads as after-reads
use Rattle.points.proofs.walk.walked.Reads as walked-reads
use Rattle.points.specs.contracts.walk.start as start
use Rattle.points.specs.contracts.walk.next as next

-- lent a block of the bytes s, `point` answered p for point k of segment n of an array
abbrev pub PointCall : List ℕ → ℕ → ℕ → ℕ → Point → Type 0
PointCall s array n k p = (κs : Lfts 1) × (b : Bor (List ℕ)) × point-reads.Learnt κs (record b { now = s }, (array, (n, (k, tt)))) p (record b { now = s }, (array, (n, (k, tt))))

-- lent the block and an array of these numbers, `fill` answered p for segment n of an array and left these numbers
abbrev pub FillCall : List ℕ → ℕ → ℕ → List Float → Filled → List Float → Type 0
FillCall s array n out p left =
    (κs : Lfts 2) × (b : Bor (List ℕ)) × (o : MutBor (List Float)) × fill-reads.Learnt κs (record b { now = s }, (array, (n, (holding o out, tt)))) p (record b { now = s }, (array, (n, (holding o left, tt))))

-- lent the block, `place_of` answered the place p before the first point of segment n of an array
abbrev pub PlaceCall : List ℕ → ℕ → ℕ → Place → Type 0
PlaceCall s array n p = (κs : Lfts 1) × (b : Bor (List ℕ)) × place-reads.Learnt κs (record b { now = s }, (array, (n, tt))) p (record b { now = s }, (array, (n, tt)))

-- lent the block, `step_at` answered r at the place p
abbrev pub StepCall : List ℕ → Place → Option TimedPoint → Type 0
StepCall s p r = (κs : Lfts 1) × (b : Bor (List ℕ)) × step-reads.Learnt κs (record b { now = s }, (p, tt)) r (record b { now = s }, (p, tt))

-- `after` answered the place q for the place p
abbrev pub AfterCall : Place → Place → Type 0
AfterCall p q = (κs : Lfts 0) × after-reads.Learnt κs (p, tt) q (p, tt)

-- lent the block, `walked` answered r for the step after k steps over segment n of an array
abbrev pub WalkedCall : List ℕ → ℕ → ℕ → ℕ → Option TimedPoint → Type 0
WalkedCall s array n k r = (κs : Lfts 1) × (b : Bor (List ℕ)) × walked-reads.Learnt κs (record b { now = s }, (array, (n, (k, tt)))) r (record b { now = s }, (array, (n, (k, tt))))

-- what the contracts of `start` and `next` say, in every model of the logic
module _ {M : Type 1} {𝓤 : Ura M} (𝓛 : Logic 𝓤) (mem : Memory → SProp 𝓤) (run : Routine → Fun 𝓤) where
  pub start-says : (κs : Lfts 1) (block : Bor (List ℕ)) (array n : ℕ) (w : Walk)
      → (start.clauses 𝓛 mem run κs (block, (array, (n, tt)))).ensures tt w (block, (array, (n, tt))) ≡ fact 𝓤 (Started block array n w)
  start-says κs block array n w = refl

  pub next_says : (κs : Lfts 2) (w v : MutBor Walk) (r : Option TimedPoint) → (next.clauses 𝓛 mem run κs (w, tt)).ensures tt r (v, tt) ≡ fact 𝓤 (Stepped w.now r v.now)
  next_says κs w v r = refl
