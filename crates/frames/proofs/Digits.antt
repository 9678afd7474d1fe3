-- A header by the digits that are read where its d digits stand: fewer than d (`digits_fewer`), or all (`digits-read`).
use mathlib.Core.Path.{◌≡◌, refl, sym, ap, ◌∙◌}
use mathlib.Core.Bool.{Bool, true, false}
use mathlib.Core.List.{List}
use Rattle.std.specs.Prelude.{Some, None}
use Prim.Native.Nat.{ℕ, ◌-◌, ◌≤◌}
use native.Mathlib.Omega.{arith}
use lib.ListN.{length, take, drop, length-take, length-drop, length-map}
use Rattle.rules.specs.Rules.{every?, digit?, digit_count, stated, payload_start}
use Rattle.digits.specs.Digits.{digits_at, value_of}
use Rattle.digits.proofs.Runs.{digits-all, digits-whole}
use Rattle.frames.specs.Headers.{header_by}

-- the bytes where the digits stand
abbrev pub standing : List ℕ → List ℕ
standing s = take (digit_count s) (drop 2 s)

module _ (s : List ℕ) (h : payload_start s ≤ length s) where
  -- fewer of them are digits than there are
  pub digits_fewer : (length (digits_at (standing s)) ≡ digit_count s → ⊥) → None ≡ header_by (every? digit? (standing s)) s
  digits_fewer n = go (every? digit? (standing s)) refl
    where
      go : (b : Bool) → every? digit? (standing s) ≡ b → None ≡ header_by b s
      go true e =
          absurd (n (ap length (digits-all (standing s) e) ∙ omega (arith, length-map (standing s) (λ (b : ℕ). b - 48), length-take (digit_count s) (drop 2 s), length-drop 2 s, h)))
      go false e = refl

  -- all are: their number is L
  pub digits-read : length (digits_at (standing s)) ≡ digit_count s → (start length : ℕ) → start ≡ payload_start s → length ≡ value_of (digits_at (standing s))
      → Some (record { start = start; length = length }) ≡ header_by (every? digit? (standing s)) s
  unfolding stated
  digits-read n start long p q =
      let good : every? digit? (standing s) ≡ true = digits-whole (standing s) (n ∙ omega (arith, length-take (digit_count s) (drop 2 s), length-drop 2 s, h)) in
      (λ i. Some (record { start = p i; length = (q ∙ ap value_of (digits-all (standing s) good)) i })) ∙ sym (ap (λ (b : Bool). header_by b s) good)
