-- Blocks written from waves: they are bytes (`bytes-framed`), and an accepted one is no longer than a block may be (`framed-small`).
use mathlib.Core.Path.{◌≡◌, refl}
use mathlib.Core.Logic.{⊎_elim}
use Prim.Native.Nat.{ℕ, ◌+◌, ◌≤◌}
use native.Mathlib.Omega.{arith}
use mathlib.Core.List.{List}
use lib.ListN.{length, get_or}
use Rattle.rules.specs.Numbers.{Bytes}
use Rattle.rules.specs.Wave.{Wave, encode, framed}
use Rattle.rules.specs.Rules.{payload_start, stated, rules, refusal}
use Rattle.rules.proofs.Facts.{Sized, sized-says}
use Rattle.rules.proofs.Waves.{Fits}
use Rattle.rules.proofs.Frames.{length-framed, below-framed, stated-framed}
use Rattle.rules.proofs.Accepts.{below-encode}
use Rattle.rules.proofs.Opened.{obeys}

pub bytes-framed : (w : Wave) → Fits w → Bytes (framed (encode w))
bytes-framed w f = below-framed (encode w) (below-encode w f)

pub start-framed : (p : List ℕ) → payload_start (framed p) ≡ 11
unfolding framed
start-framed p = refl

pub framed-small : (p : List ℕ) → refusal (framed p) ≡ 0 → length p ≤ 16777216
unfolding rules
framed-small p e =
    let f : List ℕ = framed p in
    let z : Sized f = sized-says f ((obeys f).0 e).1.0 in
    let b : payload_start f ≡ 11 = start-framed p in
    let l : length f ≡ 11 + length p = length-framed p in
    let h : length p ≤ 16777217 =
    ⊎_elim (λ (q : length f ≡ payload_start f + stated f). omega (arith, z.most))
    (λ (q : (length f ≡ payload_start f + stated f + 1) × (get_or f (payload_start f + stated f) 0 ≡ 10)). omega (arith, z.most)) z.whole in
    omega (arith, stated-framed p (omega arith), z.most)
