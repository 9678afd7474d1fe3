-- What the calls for the comparison answer and leave, over the definitions of the calls that they are made of. Definitions only.
use Rattle.std.specs.Prelude.{ℕ, min, cond, List, ◌++◌, map, length, drop, leb, Float}
use Rattle.rules.specs.Numbers.{up_from}
use Rattle.rules.specs.Wave.{Wave, points}
use Rattle.rules.specs.Rules.{opened}
use Rattle.rules.specs.Points.{value, time, mark, mark_number, fill_refusal}
use Rattle.points.specs.Points.{out_by}

-- a slice afterwards: the part at its start and behind it what was there; where the part has no room, all that was there
module _ {A : Type 0} where
  abbrev pub copied : List A → List A → List A
  copied part out = cond (leb (length part) (length out)) (part ++ drop (length part) out) out

-- ---- a walk over segment n of array a, to its end: the values to one slice, the times to another, the marks to a third

-- point k's mark, as a byte
abbrev pub mark_byte : Wave → ℕ → ℕ → ℕ → ℕ
mark_byte w a n k = mark_number (mark w a n k)

-- refused as a fill is that has the room of the shortest one
abbrev pub steps_number : List ℕ → ℕ → ℕ → List Float → List Float → List ℕ → ℕ
steps_number s a n values times marks = fill_refusal s a n (min (min (length values) (length times)) (length marks))

-- a slice afterwards: of each point what f has for it, or, by the number, all that was there
module _ {A : Type 0} where
  abbrev pub steps_left : List ℕ → ℕ → (ℕ → A) → List A → List A
  steps_left s number f out = let m = points (opened s).head in out_by number (map f (up_from 0 m) ++ drop m out) out

unfoldable pub values_left : List ℕ → ℕ → ℕ → List Float → List Float → List ℕ → List Float
values_left s a n values times marks = steps_left s (steps_number s a n values times marks) (value (opened s) a n) values

unfoldable pub times_left : List ℕ → ℕ → ℕ → List Float → List Float → List ℕ → List Float
times_left s a n values times marks = steps_left s (steps_number s a n values times marks) (time (opened s) n) times

unfoldable pub marks_left : List ℕ → ℕ → ℕ → List Float → List Float → List ℕ → List ℕ
marks_left s a n values times marks = steps_left s (steps_number s a n values times marks) (mark_byte (opened s) a n) marks
