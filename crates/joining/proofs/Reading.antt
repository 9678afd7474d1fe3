-- An accepted join's block is read as the joined wave (`joined-read`).
use mathlib.Core.Path.{◌≡◌, refl, sym, ap, ◌∙◌, subst}
use Prim.Native.Nat.{ℕ, suc, ◌+◌, ◌≤◌, ◌<◌}
use native.Mathlib.Omega.{arith}
use mathlib.Core.List.{List, [], map}
use lib.ListN.{length, get_or, length-map, get_or-map}
use Rattle.rules.specs.Numbers.{Bytes, up_from}
use Rattle.rules.specs.Wave.{Wave, order_of, segments, decode, encode}
use Rattle.rules.specs.Rules.{payload, refusal, opened}
use Rattle.rules.proofs.Waves.{Fits, decode-encode}
use Rattle.rules.proofs.Frames.{payload-framed}
use Rattle.rules.proofs.Opened.{shape_opened, fits-opened, good-opened}
use Rattle.joining.specs.Join.{indexed, part_at, by_index, joined, joined_bytes, common}
use Rattle.joining.proofs.Lists.{Every, every_mapped, Every-upFrom}
use Rattle.joining.proofs.Index.{every_at_index, length-by_index, by_index-at}
use Rattle.joining.proofs.Says.{Together, Joins}
use Rattle.joining.proofs.Framed.{bytes-framed, framed-small}
use Rattle.joining.proofs.Alike.{heads_alike, texts_alike}
use Rattle.joining.proofs.Joined.{Part, lead, shape_joined, fits-joined}

-- the parts' waves, by index
abbrev pub waves_of : List (List ℕ) → List Wave
waves_of ps = map opened (by_index ps)

module _ (ps : List (List ℕ)) where
  pub length_waves : length (waves_of ps) ≡ length ps
  length_waves = length-map (by_index ps) opened ∙ length-by_index ps

  pub wave-at : (j : ℕ) → j < length ps → get_or (waves_of ps) j (opened []) ≡ opened (part_at (suc j) ps)
  wave-at j l = get_or-map opened (by_index ps) j [] ∙ ap opened (by_index-at ps j l)

  module _ (b : Every Bytes ps) (j : Together ps) where
    -- the part of index k beside the first
    pub part_of : (k : ℕ) → 1 ≤ k → k < 1 + length ps → Part (opened (part_at 1 ps)) (opened (part_at k ps))
    part_of k l m =
        let once : length (indexed k ps) ≡ 1 = j.once k l m in
        let first : length (indexed 1 ps) ≡ 1 = j.once 1 (omega arith) (omega (arith, j.some)) in
        let p : List ℕ = part_at k ps in
        let q : List ℕ = part_at 1 ps in
        let c : List ℕ = common (get_or ps 0 []) in
        let bp : Bytes p = every_at_index Bytes k ps once b in
        let bq : Bytes q = every_at_index Bytes 1 ps first b in
        let gp : refusal p ≡ 0 = every_at_index (λ r. refusal r ≡ 0) k ps once j.good in
        let gq : refusal q ≡ 0 = every_at_index (λ r. refusal r ≡ 0) 1 ps first j.good in
        let e : common p ≡ common q = sym (every_at_index (λ r. c ≡ common r) k ps once j.alike) ∙ every_at_index (λ r. c ≡ common r) 1 ps first j.alike in
        record {
          shape = shape_opened p bp gp;
          fits = fits-opened p bp gp;
          size = length (payload p);
          good = good-opened p bp gp;
          alone = every_at_index (λ r. segments (opened r).head ≡ 1) k ps once j.alone;
          head = heads_alike p q e (fits-opened p bp gp) (fits-opened q bq gq);
          text = texts_alike p q e;
        }

    pub all-parts : Every (Part (lead (waves_of ps))) (waves_of ps)
    unfolding by_index
    all-parts =
        let e : opened (part_at 1 ps) ≡ lead (waves_of ps) = sym (wave-at 0 j.some) in
        every_mapped (Part (lead (waves_of ps))) opened (by_index ps)
        (every_mapped (λ p. Part (lead (waves_of ps)) (opened p)) (λ k. part_at k ps) (up_from 1 (length ps))
        (Every-upFrom (λ k. Part (lead (waves_of ps)) (opened (part_at k ps))) 1 (length ps) (λ k l m. subst (λ (q : Wave). Part q (opened (part_at k ps))) e (part_of k l m))))

    pub some_waves : 1 ≤ length (waves_of ps)
    some_waves = omega (arith, length_waves, j.some)

  module _ (b : Every Bytes ps) (j : Joins ps) where
    pub joined_small : length (encode (joined (waves_of ps))) ≤ 16777216
    joined_small = framed-small (encode (joined (waves_of ps))) (unfold joined_bytes in j.block)

    pub joined-fits : Fits (joined (waves_of ps))
    joined-fits = fits-joined (waves_of ps) (some_waves b j.together) (all-parts b j.together) (omega (arith, length_waves, j.together.most)) joined_small

    pub joined_bytes_lem : Bytes (joined_bytes ps)
    unfolding joined_bytes
    joined_bytes_lem = bytes-framed (joined (waves_of ps)) joined-fits

    pub joined-read : opened (joined_bytes ps) ≡ joined (waves_of ps)
    unfolding joined_bytes opened
    joined-read =
        let ws : List Wave = waves_of ps in
        ap decode (payload-framed (encode (joined ws)) (omega (arith, joined_small)))
        ∙ decode-encode (joined ws) (shape_joined ws (some_waves b j.together) (all-parts b j.together)) joined-fits

    -- the joined block has the parts' byte order
    pub order-at : (k : ℕ) → 1 ≤ k → k < 1 + length ps → order_of (opened (joined_bytes ps)).head ≡ order_of (opened (part_at k ps)).head
    order-at k l m =
        ap (λ (w : Wave). w.head 34) joined-read ∙ unfold joined in ap (λ (w : Wave). w.head 34) (wave-at 0 j.together.some) ∙ sym ((part_of b j.together k l m).head 34 refl)
