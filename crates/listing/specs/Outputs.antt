-- What is handed to standard output. Definitions only.
use Rattle.std.specs.Prelude.{◌≡◌, Bool, true, List, ℕ, ◌≤◌, length, take, drop}
use Rattle.listing.specs.Listing.{listing}
use Rattle.listing.specs.Pages.{front}

-- where `sent` bytes of the listing of s went before, it goes on with these
abbrev pub Next : List ℕ → ℕ → List ℕ → Type 0
Next s sent bytes = bytes ≡ take (length bytes) (drop sent (listing s))

-- so many bytes of the listing of s were handed on: the first line at least, never more than all, and all where every write was taken
pub record Printed (s : List ℕ) (sent : ℕ) (taken : Bool) : Type 0 where
  pub some : length (front s) ≤ sent
  pub within : sent ≤ length (listing s)
  pub all : taken ≡ true → sent ≡ length (listing s)
