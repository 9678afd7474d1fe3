-- Numbers written one behind the other: as themselves (`themselves`), and as eight bytes each (`as_bytes`).
use mathlib.Core.Path.{◌≡◌, refl, sym, ap}
use mathlib.Core.List.{List, [], ◌∷◌, map, map-map, flatten}
use lib.IntN.{ℤ}
use Rattle.rules.specs.Numbers.{bytes, unsigned, signed_bytes}

pub themselves : (zs : List ℤ) → flatten (map (λ (z : ℤ). z ∷ []) zs) ≡ zs
unfolding flatten
themselves [] = refl
themselves (z ∷ zs) = ap (λ (l : List ℤ). z ∷ l) (themselves zs)

pub as_bytes : (zs : List ℤ) → flatten (map (λ (z : ℤ). bytes 0 8 (unsigned 8 z)) zs) ≡ signed_bytes zs
as_bytes zs = ap flatten (sym (map-map (bytes 0 8) (unsigned 8) zs))
