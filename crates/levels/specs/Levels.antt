-- The samples whose values reach a level, as bounds. Definitions only.
use Rattle.std.specs.Prelude.{◌≡◌, ℕ, ◌-◌, ◌≤◌, ◌<◌, Bool, cond, ◌&&◌, T, leb, ℤ, pos, ◌-ℤ◌}
use Rattle.std.specs.Int.Signed.{le_z}

-- a sample stands from low to high
unfoldable pub between : ℤ → ℤ → ℤ → Bool
between low high z = le_z low z && le_z z high

-- the samples of 16 bits, from −32,768 up: the n-th
unfoldable pub raised : ℕ → ℤ
raised n = pos n -ℤ pos 32768

-- and by their values: the j-th from −32,768 up, or from 32,767 down where values fall as samples rise
unfoldable pub ranked : Bool → ℕ → ℤ
ranked falling j = raised (cond falling (65535 - j) j)

-- a test of the numbers below n that holds from where it first does; and k is that number, or n where it holds nowhere
abbrev pub Rises : (ℕ → Bool) → ℕ → Type 0
Rises p n = (i j : ℕ) → i ≤ j → j < n → T (p i) → T (p j)

abbrev pub Edge : (ℕ → Bool) → ℕ → ℕ → Type 0
Edge p n k = (k ≤ n) × ((j : ℕ) → j < n → p j ≡ leb k j)
