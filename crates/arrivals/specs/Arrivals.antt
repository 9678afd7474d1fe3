-- What is asked of parts as they arrive. Definitions only.
use Rattle.std.specs.Prelude.{◌≡◌, Bool, true, ◌&&◌, List, [], map, ℕ, ◌+◌, ◌≤◌, ◌<◌, length, get_or, leb, eqb}
use Rattle.rules.specs.Numbers.{number}
use Rattle.rules.specs.Rules.{same, finite64}
use Rattle.copies.specs.Copies.{part}
use Rattle.joining.specs.Join.{parts_in, by_index, join_refusal}
use Rattle.joining.proofs.Lists.{Every}
use Rattle.joining.proofs.Says.{Together}
use Rattle.seen.specs.Seen.{seen_of}
use Rattle.parts.specs.Parts.{Placeable, row_of}
use Rattle.arrivals.specs.declared.Judged.{Judged}

-- an index that a join can have
abbrev pub index? : ℕ → Bool
index? k = leb 1 k && leb k 1000

-- the descriptors whose payloads start at lead and at start are the same but for SEGMENT_INDEX, and so are the user texts behind them, of so many bytes
abbrev pub alike? : List ℕ → ℕ → ℕ → ℕ → Bool
alike? s lead start text = same (part s lead 140) (part s start 140) && (same (part s (lead + 144) 202) (part s (start + 144) 202) && same (part s (lead + 346) text) (part s (start + 346) text))

-- a part of this index that comes after those seen
abbrev pub belongs? : List ℕ → ℕ → ℕ → ℕ → List ℕ → ℕ → Bool
belongs? s lead start text seen k = index? k && (eqb (seen_of seen k) 0 && alike? s lead start text)

-- both can be compared; how far the second's text reaches is known where the descriptors are the same
pub record Comparable (s : List ℕ) (lead start text : ℕ) : Type 0 where
  pub first : lead + 346 + text ≤ length s
  pub second : start + 346 ≤ length s
  pub behind : same (part s lead 140) (part s start 140) ≡ true → same (part s (lead + 144) 202) (part s (start + 144) 202) ≡ true → start + 346 + text ≤ length s

-- the TRIGGER_TIME of a part, as it is read where TRIGTIME starts at `trig` in the payload; and those of the parts of s by index
abbrev pub part_time : ℕ → ℕ → List ℕ → ℕ
part_time order trig p = number order (row_of trig 8 p)

abbrev pub times_at : ℕ → ℕ → List ℕ → List ℕ
times_at order trig s = map (part_time order trig) (by_index (parts_in s))

-- parts with a trigger time each, and all finite
pub record Timed (order long trig : ℕ) (s : List ℕ) : Type 0 where
  pub placeable : Placeable order long s
  pub inside : trig + 8 ≤ long
  pub finite : Every (λ p. finite64 (part_time order trig p) ≡ true) (parts_in s)

-- what judging the parts of s says: the join's number, which is not 13; or that they belong together, how many they are, and where the first ends
pub record Judges (s : List ℕ) (r : Judged) : Type 0 where
  pub refused : 0 < r.refusal → (room : ℕ) → join_refusal s room ≡ r.refusal
  pub together : r.refusal ≡ 0 → Together (parts_in s)
  pub count : r.refusal ≡ 0 → r.count ≡ length (parts_in s)
  pub ends : r.refusal ≡ 0 → r.end ≡ length (get_or (parts_in s) 0 [])
