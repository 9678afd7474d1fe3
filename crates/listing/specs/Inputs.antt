-- What reading answers and leaves. Definitions only.
use Rattle.std.specs.Prelude.{◌≡◌, List, ℕ, suc, ◌+◌, ◌≤◌, ◌<◌, length, take, drop, Option, None, Some}
use Rattle.std.specs.Io.KnownBytes.{Consumes, IsAtEnd}
use Rattle.listing.specs.declared.Input.{Input}

-- how many bytes a call of read moved
abbrev pub moved : Option ℕ → ℕ
moved (Some n) = n
moved None = 0

-- a call read to the buffer l from `at` on, which left l': what stood before is kept, and the bytes moved are counted
pub record Behind (l : List ℕ) (at : ℕ) (l' : List ℕ) (r : Input) : Type 0 where
  pub keeps : take at l' ≡ take at l
  pub counts : r.count ≡ at + moved r.last
  pub within : r.count ≤ length l'

-- so many elements are there, and the first so many are as many
abbrev pub Counts : ℕ → List ℕ → Type 0
Counts n xs = (n ≤ length xs) × (n ≡ length (take n xs))

-- so many bytes are within the buffer; they fill it where the last call still moved some, so that fewer are there only where it moved none, at the input's end, or failed
pub record Read (l : List ℕ) (r : Input) : Type 0 where
  pub within : Counts r.count l
  pub full : (n : ℕ) → r.last ≡ Some (suc n) → r.count ≡ length l

-- where the reader's bytes are known, the call took those that stand from `at` on in the buffer l', and none only at the input's end
pub record TakesBehind (old new : Option (List ℕ)) (at : ℕ) (l' : List ℕ) (r : Input) : Type 0 where
  pub taken : Consumes old new (drop at (take r.count l'))
  pub ended : r.last ≡ Some 0 → at < length l' → IsAtEnd new

-- where the reader's bytes are known, those at the buffer's start are its first, and fewer than fill it are all, if no call failed
pub record TakesTo (old new : Option (List ℕ)) (l : List ℕ) (r : Input) : Type 0 where
  pub taken : Consumes old new (take r.count l)
  pub ended : (n : ℕ) → r.last ≡ Some n → r.count < length l → IsAtEnd new
