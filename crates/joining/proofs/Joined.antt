-- The joined wave: its tables' shape (`shape_joined`), and that its bytes say it where they are no more than a block may have (`fits-joined`).
use mathlib.Core.Path.{◌≡◌, refl, sym, ap, ap₂, ◌∙◌, subst}
use mathlib.Core.Logic.{inl, inr, ⊎_elim}
use Prim.Native.Nat.{ℕ, ◌+◌, ◌*◌, ◌/◌, ◌^◌, ◌≤◌, ◌<◌, max}
use native.Mathlib.Nat.{mul-div_left, mul-div_right, mul-le-mul_left}
use native.Mathlib.Omega.{arith}
use mathlib.Core.Bool.{false}
use mathlib.Core.List.{List, [], flatten}
use lib.ListN.{length, get_or}
use lib.Dec.{eqb}
use Rattle.rules.specs.Numbers.{Below}
use Rattle.rules.specs.Template.{template, width_at}
use Rattle.rules.specs.Wave.{Wave, size_of, segments, points, trig_length, two_length, order_of, written, encode}
use Rattle.rules.specs.Rules.{opened}
use Rattle.rules.proofs.Template.{total-template}
use Rattle.rules.proofs.Numbers.{length-flatten, length-all_bytes, length-laid}
use Rattle.rules.proofs.Rows.{Rows, Shape, total-rows}
use Rattle.rules.proofs.Waves.{Fits}
use Rattle.rules.proofs.Keeps.{Room, instead-fit}
use Rattle.rules.proofs.Accepts.{Good}
use Rattle.joining.specs.Join.{join_changes, joined}
use Rattle.joining.proofs.Lists.{Every, every_map, every_get_or, rows-flatten, below_rows}

-- a part's wave w beside the wave q of the first: one segment, and alike but for SEGMENT_INDEX
pub record Part (q w : Wave) : Type 0 where
  pub shape : Shape w
  pub fits : Fits w
  pub size : ℕ
  pub good : Good size w
  pub alone : segments w.head ≡ 1
  pub head : (k : ℕ) → eqb k 140 ≡ false → w.head k ≡ q.head k
  pub text : w.text ≡ q.text

-- ---- the rows of a part: one of M, one or an empty one in array 2, one of two or an empty one in TRIGTIME

abbrev pub two_wide : Wave → ℕ
two_wide q = two_length q.head / size_of q.head

abbrev pub trig_wide : Wave → ℕ
trig_wide q = trig_length q.head / 8

module _ (w : Wave) (sh : Shape w) (f : Fits w) (e : segments w.head ≡ 1) where
  two-wide : sh.two.wide ≡ two_wide w
  two-wide =
      let n : length (flatten w.two) ≡ sh.two.wide = total-rows (segments w.head) sh.two.wide w.two sh.two.rows ∙ ap (λ (g : ℕ). g * sh.two.wide) e ∙ omega arith in
      sym (ap (λ (x : ℕ). x / size_of w.head) (f.two-length ∙ ap (λ (x : ℕ). x * size_of w.head) n) ∙ mul-div_left sh.two.wide (omega arith))

  trig-wide : sh.trig.wide ≡ trig_wide w
  trig-wide =
      let n : length (flatten w.trig) ≡ sh.trig.wide = total-rows (segments w.head) sh.trig.wide w.trig sh.trig.rows ∙ ap (λ (g : ℕ). g * sh.trig.wide) e ∙ omega arith in
      sym (ap (λ (x : ℕ). x / 8) (f.trig-length ∙ ap (λ (x : ℕ). x * 8) n) ∙ mul-div_left sh.trig.wide (omega arith))

module _ (q w : Wave) (p : Part q w) where
  pub points-alike : points w.head ≡ points q.head
  points-alike = ap₂ {C = ℕ} (λ x y. x / max 1 y) (p.head 116 refl) (p.head 144 refl)

  pub size-alike : size_of w.head ≡ size_of q.head
  size-alike = ap (λ (x : ℕ). x + 1) (p.head 32 refl)

  pub one_row : Rows 1 (points q.head) w.one
  one_row = subst (λ (g : ℕ). Rows g (points q.head) w.one) p.alone (subst (λ (k : ℕ). Rows (segments w.head) k w.one) points-alike p.shape.one)

  pub two_row : Rows 1 (two_wide q) w.two
  two_row =
      let e : p.shape.two.wide ≡ two_wide q = two-wide w p.shape p.fits p.alone ∙ ap₂ {C = ℕ} (λ x y. x / (y + 1)) (p.head 64 refl) (p.head 32 refl) in
      subst (λ (g : ℕ). Rows g (two_wide q) w.two) p.alone (subst (λ (k : ℕ). Rows (segments w.head) k w.two) e p.shape.two.rows)

  pub trig_row : Rows 1 (trig_wide q) w.trig
  trig_row =
      let e : p.shape.trig.wide ≡ trig_wide q = trig-wide w p.shape p.fits p.alone ∙ ap (λ (x : ℕ). x / 8) (p.head 48 refl) in
      subst (λ (g : ℕ). Rows g (trig_wide q) w.trig) p.alone (subst (λ (k : ℕ). Rows (segments w.head) k w.trig) e p.shape.trig.rows)

-- ---- how long a wave's bytes are

pub length_of : (w : Wave) → length (encode w) ≡
    346 + (length w.text + (length (flatten w.trig) * 8 + (length w.ris * 8 + (length (flatten w.one) * size_of w.head + length (flatten w.two) * size_of w.head))))
unfolding encode written
length_of w =
    let o : ℕ = order_of w.head in
    let z : ℕ = size_of w.head in
    length-flatten (written w)
    ∙ omega (arith, length-laid o template w.head, total-template, length-all_bytes o 8 (flatten w.trig), length-all_bytes o 8 w.ris, length-all_bytes o z (flatten w.one), length-all_bytes o z (flatten w.two))

-- ---- the joined wave

-- the waves by their places from 0 on, and the first
abbrev pub nth : List Wave → ℕ → Wave
nth ws i = get_or ws i (opened [])

abbrev pub lead : List Wave → Wave
lead ws = nth ws 0

module _ (ws : List Wave) (some : 1 ≤ length ws) (ps : Every (Part (lead ws)) ws) where
  pub part-lead : Part (lead ws) (lead ws)
  part-lead = every_get_or (Part (lead ws)) ws 0 (opened []) some ps

  pub segments-joined : segments (joined ws).head ≡ length ws
  unfolding joined
  segments-joined = omega arith

  pub rows-one : Rows (length ws) (points (lead ws).head) (joined ws).one
  unfolding joined
  rows-one = rows-flatten (λ (v : Wave). v.one) (points (lead ws).head) ws (every_map (one_row (lead ws)) ws ps)

  pub rows-two : Rows (length ws) (two_wide (lead ws)) (joined ws).two
  unfolding joined
  rows-two = rows-flatten (λ (v : Wave). v.two) (two_wide (lead ws)) ws (every_map (two_row (lead ws)) ws ps)

  pub rows-trig : Rows (length ws) (trig_wide (lead ws)) (joined ws).trig
  unfolding joined
  rows-trig = rows-flatten (λ (v : Wave). v.trig) (trig_wide (lead ws)) ws (every_map (trig_row (lead ws)) ws ps)

  -- WAVE_ARRAY_COUNT is n times M
  count-joined : (joined ws).head 116 ≡ length ws * points (lead ws).head
  unfolding joined
  count-joined = total-rows (length ws) (points (lead ws).head) (joined ws).one rows-one

  pub points-joined : points (joined ws).head ≡ points (lead ws).head
  points-joined = ap₂ {C = ℕ} (λ x y. x / y) count-joined segments-joined ∙ mul-div_right (points (lead ws).head) some

  pub shape_joined : Shape (joined ws)
  shape_joined =
      let q : Wave = lead ws in
      let p : Part q q = part-lead in
      record {
        some = subst (λ (m : ℕ). 0 < m) (sym points-joined) p.shape.some;
        whole = count-joined ∙ ap₂ {C = ℕ} (λ x y. x * y) (sym segments-joined) (sym points-joined);
        one = rows (points (joined ws).head) (points q.head) (joined ws).one points-joined rows-one;
        two = record {
          wide = two_wide q;
          full = ⊎_elim (λ (e : p.shape.two.wide ≡ points q.head). inl (sym (two-wide q p.shape p.fits p.alone) ∙ e ∙ sym points-joined))
              (λ (e : p.shape.two.wide ≡ 0). inr (sym (two-wide q p.shape p.fits p.alone) ∙ e)) p.shape.two.full;
          rows = rows (two_wide q) (two_wide q) (joined ws).two refl rows-two;
        };
        trig = record {
          wide = trig_wide q;
          full = ⊎_elim (λ (e : p.shape.trig.wide ≡ 2). inl (sym (trig-wide q p.shape p.fits p.alone) ∙ e))
              (λ (e : p.shape.trig.wide ≡ 0). inr (sym (trig-wide q p.shape p.fits p.alone) ∙ e)) p.shape.trig.full;
          rows = rows (trig_wide q) (trig_wide q) (joined ws).trig refl rows-trig;
        };
      }
    where
      rows : (a b : ℕ) (t : List (List ℕ)) → a ≡ b → Rows (length ws) b t → Rows (segments (joined ws).head) a t
      rows a b t e r = subst (λ (g : ℕ). Rows g a t) (sym segments-joined) (subst (λ (k : ℕ). Rows (length ws) k t) (sym e) r)

  module _ (few : length ws ≤ 1000) (hi : length (encode (joined ws)) ≤ 16777216) where
    room : Room (join_changes (length ws) (lead ws).head (joined ws).trig (joined ws).one (joined ws).two)
    unfolding template width_at
    room =
        let z : ℕ = size_of (lead ws).head in
        let l = length_of (joined ws) in
        let s : size_of (joined ws).head ≡ z = unfold joined in refl in
        let x : length (flatten (joined ws).one) * size_of (joined ws).head ≡ length (flatten (joined ws).one) * z = ap (λ (n : ℕ). length (flatten (joined ws).one) * n) s in
        let y : length (flatten (joined ws).two) * size_of (joined ws).head ≡ length (flatten (joined ws).two) * z = ap (λ (n : ℕ). length (flatten (joined ws).two) * n) s in
        let q : length (flatten (joined ws).one) * 1 ≤ length (flatten (joined ws).one) * z = mul-le-mul_left (length (flatten (joined ws).one)) (omega arith) in
        (omega arith, (omega arith, (omega arith, (omega arith, (omega arith, (omega arith, tt))))))

    pub fits-joined : Fits (joined ws)
    unfolding joined
    fits-joined =
        let q : Wave = lead ws in
        let f : Fits q = part-lead.fits in
        record {
          fit = λ k. instead-fit (join_changes (length ws) q.head (joined ws).trig (joined ws).one (joined ws).two) k (q.head k) room (f.fit k);
          order = f.order;
          head-length = f.head-length;
          none = f.none;
          text-length = f.text-length;
          trig-length = refl;
          ris-length = f.ris-length;
          one-length = refl;
          two-length = refl;
          text-below = f.text-below;
          trig-below = below_rows (λ (v : Wave). v.trig) (256 ^ 8) ws (every_map (λ w p. p.fits.trig-below) ws ps);
          ris-below = f.ris-below;
          one_below = below_rows (λ (v : Wave). v.one) (256 ^ size_of q.head) ws (every_map (λ w p. subst (λ (n : ℕ). Below (256 ^ n) (flatten w.one)) (size-alike q w p) p.fits.one_below) ws ps);
          two-below = below_rows (λ (v : Wave). v.two) (256 ^ size_of q.head) ws (every_map (λ w p. subst (λ (n : ℕ). Below (256 ^ n) (flatten w.two)) (size-alike q w p) p.fits.two-below) ws ps);
        }
