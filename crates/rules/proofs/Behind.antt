-- What stands behind the zero byte of a name is not judged: slices that differ only there have the same number (`behind_free`), and where they are
-- accepted the same values, marks and times (`value_free`, `mark_free`, `time_free`).
use mathlib.Core.Path.{◌≡◌, refl, sym, ap, ap₂, ◌∙◌, fun_ext}
use Prim.Native.Nat.{ℕ, ◌+◌, ◌-◌, ◌≤◌, ◌<◌, min}
use native.Mathlib.Nat.{zero-add}
use native.Mathlib.Omega.{arith}
use mathlib.Core.Bool.{Bool, true, false, cond, ◌&&◌, ◌||◌}
use mathlib.Core.List.{List, [], ◌∷◌, map, reverse}
use lib.ListN.{length, get_or, take, drop, length-take, length-drop}
use lib.Seq.{get_or-take, get_or-drop, drop-drop, ext_get_or}
use lib.Dec.{leb, ltb, eqb}
use borrow.Author.Tests.{ltb-true, ltb-false, leb-true, eqb-true, lt-leb, le-leb, le-ltb}
use Rattle.rules.specs.Numbers.{Bytes, number, low, pieces, up_from}
use Rattle.rules.specs.Template.{template, width_at, fields}
use Rattle.rules.specs.Wave.{Wave, head_of, parts, wave_of, decode}
use Rattle.rules.specs.Rules.{all, first, every?, digit?, digit_count, stated, payload_start, payload, frame, sized, named, formed, tiled, counted, placed, measured, timed, inner, rules, refusal, opened}
use Rattle.rules.specs.Points.{value, sample, mark, time, rule_of}
use Rattle.rules.proofs.Tests.{all_each, first_alike}
use Rattle.rules.proofs.Facts.{Sized, sized-says, sized_there, tiled-says}
use Rattle.rules.proofs.Slices.{payload-length, payload_byte, every_from, byte_read}
use Rattle.rules.proofs.Opened.{sized-opened, good-opened}

-- the offsets behind the zero bytes of DESCRIPTOR_NAME and TEMPLATE_NAME
abbrev pub behind : ℕ → Bool
behind k = leb 9 k && ltb k 16 || leb 27 k && ltb k 32

-- t is s but for the bytes that stand there
pub record Alike (s t : List ℕ) : Type 0 where
  pub same_length : length t ≡ length s
  pub same_byte : (i : ℕ) → behind (i - payload_start s) ≡ false → get_or t i 0 ≡ get_or s i 0

behind-low : (k : ℕ) → k < 9 → behind k ≡ false
behind-low k h = rw (lt-leb 9 k h, lt-leb 27 k (omega arith))

behind-high : (k : ℕ) → 32 ≤ k → behind k ≡ false
behind-high k h = rw (le-leb 9 k (omega arith), le-ltb k 16 (omega arith), le-leb 27 k (omega arith), le-ltb k 32 h)

-- the bytes of the names are fields of one byte each
text_byte : (p : List ℕ) → 346 ≤ length p → (k : ℕ) → k < 32 → head_of p k ≡ get_or p k 0
unfolding head_of
text_byte p h k l =
    byte_read (get_or p 34 0) 0 p k (omega arith) (eqb-true (width_at template k) 1 (every_from (λ (j : ℕ). eqb (width_at template j) 1) 32 0 k (unfold template width_at up_from in refl) (omega arith) (omega arith)))
    ∙ ap (λ (j : ℕ). get_or p j 0) (zero-add k)

module _ (s t : List ℕ) (a : Alike s t) where
  -- ---- the header

  head_byte : (i : ℕ) → i < payload_start s + 9 → get_or t i 0 ≡ get_or s i 0
  head_byte i h = a.same_byte i (behind-low (i - payload_start s) (omega arith))

  count-alike : digit_count t ≡ digit_count s
  count-alike = ap (λ (b : ℕ). b - 48) (head_byte 1 (omega arith))

  digits-alike : take (digit_count t) (drop 2 t) ≡ take (digit_count s) (drop 2 s)
  digits-alike = ap (λ (n : ℕ). take n (drop 2 t)) count-alike ∙ ext_get_or 0 (take d (drop 2 t)) (take d (drop 2 s)) long same
    where
      d : ℕ
      d = digit_count s

      long : length (take d (drop 2 t)) ≡ length (take d (drop 2 s))
      long =
          length-take d (drop 2 t) ∙ ap (min d) (length-drop 2 t ∙ ap (λ (n : ℕ). n - 2) a.same_length ∙ sym (length-drop 2 s)) ∙ sym (length-take d (drop 2 s))

      same : (i : ℕ) → i < length (take d (drop 2 t)) → get_or (take d (drop 2 t)) i 0 ≡ get_or (take d (drop 2 s)) i 0
      same i l =
          let h : i < d = omega (arith, length-take d (drop 2 t)) in
          get_or-take d (drop 2 t) i 0 h ∙ get_or-drop 2 t i 0 ∙ head_byte (2 + i) (omega arith) ∙ sym (get_or-take d (drop 2 s) i 0 h ∙ get_or-drop 2 s i 0)

  stated_alike : stated t ≡ stated s
  unfolding stated
  stated_alike = ap (λ (l : List ℕ). low 10 (reverse (map (λ (b : ℕ). b - 48) l))) digits-alike

  frame-alike : frame t ≡ frame s
  unfolding frame
  frame-alike =
      let b0 : get_or t 0 0 ≡ get_or s 0 0 = head_byte 0 (omega arith) in
      let b1 : get_or t 1 0 ≡ get_or s 1 0 = head_byte 1 (omega arith) in
      λ i. leb 2 (a.same_length i)
      ∷ eqb (b0 i) 35
      ∷ (leb 49 (b1 i) && leb (b1 i) 57)
      ∷ leb (2 + count-alike i) (a.same_length i)
      ∷ every? digit? (digits-alike i)
      ∷ []

  sized-alike : all (sized t) ≡ all (sized s)
  unfolding sized
  sized-alike = (λ i. all (tests (2 + count-alike i) (stated_alike i) (a.same_length i) (get_or t (2 + count-alike i + stated_alike i) 0))) ∙ go (leb 346 (stated s)) refl
    where
      tests : ℕ → ℕ → ℕ → ℕ → List Bool
      tests at l n x = leb 346 l ∷ leb l 16777216 ∷ (eqb n (at + l) || eqb n (at + l + 1) && eqb x 10) ∷ []

      go : (b : Bool) → leb 346 (stated s) ≡ b → all (tests (payload_start s) (stated s) (length s) (get_or t (payload_start s + stated s) 0)) ≡ all (tests (payload_start s) (stated s) (length s) (get_or s (payload_start s + stated s) 0))
      go true e =
          let h : 346 ≤ stated s = leb-true 346 (stated s) e in
          ap (λ (x : ℕ). all (tests (payload_start s) (stated s) (length s) x)) (a.same_byte (payload_start s + stated s) (behind-high (payload_start s + stated s - payload_start s) (omega arith)))
      go false e = rw e

  -- ---- the payload

  -- the descriptor of s with what stands behind in t
  mixed : ℕ → ℕ
  mixed k = cond (behind k) (head_of (payload t) k) (head_of (payload s) k)

  module _ (z : Sized s) where
    there : payload_start s + stated s ≤ length s
    there = sized_there s z

    there_too : payload_start t + stated t ≤ length t
    there_too = omega (arith, there, count-alike, stated_alike, a.same_length)

    length-alike : length (payload t) ≡ length (payload s)
    length-alike = payload-length t there_too ∙ stated_alike ∙ sym (payload-length s there)

    byte_alike : (k : ℕ) → k < stated s → behind k ≡ false → get_or (payload t) k 0 ≡ get_or (payload s) k 0
    byte_alike k h e =
        let back : payload_start s + k - payload_start s ≡ k = omega arith in
        payload_byte t there_too k (omega (arith, stated_alike))
        ∙ ap (λ (n : ℕ). get_or t (2 + n + k) 0) count-alike
        ∙ a.same_byte (payload_start s + k) (ap behind back ∙ e)
        ∙ sym (payload_byte s there k h)

    rest-alike : drop 32 (payload t) ≡ drop 32 (payload s)
    rest-alike =
        ext_get_or 0 (drop 32 (payload t)) (drop 32 (payload s)) (length-drop 32 (payload t) ∙ ap (λ (n : ℕ). n - 32) length-alike ∙ sym (length-drop 32 (payload s)))
        (λ i l.
        get_or-drop 32 (payload t) i 0
        ∙ byte_alike (32 + i) (omega (arith, length-drop 32 (payload t), length-alike, payload-length s there)) (behind-high (32 + i) (omega arith))
        ∙ sym (get_or-drop 32 (payload s) i 0))

    from-alike : (k : ℕ) → 32 ≤ k → drop k (payload t) ≡ drop k (payload s)
    from-alike k h =
        let e : 32 + (k - 32) ≡ k = omega arith in
        ap (λ (n : ℕ). drop n (payload t)) (sym e) ∙ sym (drop-drop (k - 32) 32 (payload t)) ∙ ap (drop (k - 32)) rest-alike
        ∙ drop-drop (k - 32) 32 (payload s) ∙ ap (λ (n : ℕ). drop n (payload s)) e

    -- ---- the wave

    field_alike : (k : ℕ) → behind k ≡ false → head_of (payload t) k ≡ head_of (payload s) k
    field_alike k e = go (ltb k 32) refl
      where
        go : (b : Bool) → ltb k 32 ≡ b → head_of (payload t) k ≡ head_of (payload s) k
        go true q =
            let l : k < 32 = ltb-true k 32 q in
            text_byte (payload t) (omega (arith, length-alike, payload-length s there, z.least)) k l
            ∙ byte_alike k (omega (arith, z.least)) e
            ∙ sym (text_byte (payload s) (omega (arith, payload-length s there, z.least)) k l)
        go false q = unfold head_of fields in
            ap₂ {C = ℕ} (λ o l. number o (take (width_at template k) l)) (byte_alike 34 (omega (arith, z.least)) refl) (from-alike k (ltb-false k 32 q))

    head-alike : head_of (payload t) ≡ mixed
    unfolding mixed
    head-alike = fun_ext (λ k. go k (behind k) refl)
      where
        go : (k : ℕ) (b : Bool) → behind k ≡ b → head_of (payload t) k ≡ cond b (head_of (payload t) k) (head_of (payload s) k)
        go k true e = refl
        go k false e = field_alike k e

    -- where the descriptor is 346 bytes, the rest of the wave is that of s
    wave-alike : head_of (payload s) 36 ≡ 346
        → decode (payload t) ≡ (let w = decode (payload s) in record { head = mixed; text = w.text; trig = w.trig; ris = w.ris; one = w.one; two = w.two })
    unfolding decode wave_of parts pieces mixed
    wave-alike e =
        let h : ℕ → ℕ = head_of (payload s) in
        let d : drop (h 36) (payload t) ≡ drop (h 36) (payload s) = from-alike (h 36) (omega arith) in
        ap (λ (g : ℕ → ℕ). wave_of g (parts g (payload t))) head-alike
        ∙ λ i. wave_of mixed (take (h 36) (payload t) ∷ pieces (h 40 ∷ h 44 ∷ h 48 ∷ h 52 ∷ h 56 ∷ h 60 ∷ h 64 ∷ h 68 ∷ h 72 ∷ []) (d i))

    inner-alike : first (inner (payload t) (decode (payload t))) ≡ first (inner (payload s) (decode (payload s)))
    unfolding inner decode wave_of named formed tiled counted placed measured timed up_from mixed
    inner-alike =
        let h : ℕ → ℕ = head_of (payload s) in
        let b34 : get_or (payload t) 34 0 ≡ get_or (payload s) 34 0 = byte_alike 34 (omega (arith, z.least)) refl in
        let b35 : get_or (payload t) 35 0 ≡ get_or (payload s) 35 0 = byte_alike 35 (omega (arith, z.least)) refl in
        first_alike 3 (ap (λ (g : ℕ → ℕ). all (named g)) head-alike)
        (λ _. first_alike 4 (λ i. all (leb (b34 i) 1 ∷ eqb (b35 i) 0 ∷ leb (head-alike i 32) 1 ∷ []))
        (λ _. first_alike 5 (ap₂ {C = Bool} (λ n g. all (tiled n g)) length-alike head-alike)
        (λ e. ap (λ (w : Wave). first ((6, counted w.head) ∷ (7, placed w.head) ∷ (8, measured w) ∷ (20, timed w) ∷ [])) (wave-alike (tiled-says (length (payload s)) h (all_each (tiled (length (payload s)) h) e)).descriptor))))

  pub behind_free : refusal t ≡ refusal s
  unfolding refusal rules
  behind_free =
      first_alike 1 (ap all frame-alike)
      (λ _. first_alike 2 sized-alike (λ e. inner-alike (sized-says s (all_each (sized s) e))))

  -- and where they are accepted each point has the same value, the same mark and the same time
  module _ (b : Bytes s) (e : refusal s ≡ 0) where
    opened-alike : opened t ≡ (let w = opened s in record { head = mixed; text = w.text; trig = w.trig; ris = w.ris; one = w.one; two = w.two })
    unfolding opened decode wave_of
    opened-alike = wave-alike (sized-opened s b e) (good-opened s b e).tile.descriptor

    pub value_free : (x n k : ℕ) → value (opened t) x n k ≡ value (opened s) x n k
    unfolding value sample opened decode wave_of mixed
    value_free x n k = ap (λ (w : Wave). value w x n k) opened-alike

    pub mark_free : (x n k : ℕ) → mark (opened t) x n k ≡ mark (opened s) x n k
    unfolding mark sample opened decode wave_of mixed
    mark_free x n k = ap (λ (w : Wave). mark w x n k) opened-alike

    pub time_free : (n k : ℕ) → time (opened t) n k ≡ time (opened s) n k
    unfolding time rule_of opened decode wave_of mixed
    time_free n k = ap (λ (w : Wave). time w n k) opened-alike
