-- What the front of a joined block needs, and what is written as it.
use mathlib.Core.Path.{◌≡◌, refl, sym, ap, ◌∙◌, subst}
use Prim.Native.Nat.{ℕ, ◌+◌, ◌*◌, ◌/◌, ◌≤◌}
use native.Mathlib.Nat.{mul-le-mul_left, div-one}
use native.Mathlib.Omega.{arith}
use mathlib.Core.List.{List}
use lib.ListN.{length, get_or, take, drop}
use Rattle.rules.specs.Numbers.{Bytes, number, starts_from}
use Rattle.rules.specs.Template.{template, width_at, laid, head_at}
use Rattle.rules.specs.Wave.{order_of, points, size_of, starts_of, wave_of, decode}
use Rattle.rules.specs.Rules.{payload_start, refusal, opened}
use Rattle.rules.specs.Cut.{changed}
use Rattle.rules.proofs.Numbers.{length-laid}
use Rattle.rules.proofs.Template.{total-template}
use Rattle.rules.proofs.Opened.{sized-opened, payload_there, fits-opened, good-opened, head_there}
use Rattle.rules.proofs.Samples.{part-within}
use Rattle.copies.specs.Copies.{part}
use Rattle.heads.specs.Heads.{changes_by}
use Rattle.parts.proofs.Tables.{long_there, stretch_there}
use Rattle.fronts.specs.declared.Lead.{Lead}
use Rattle.fronts.specs.Fronts.{changes_for, Fronting}

-- ---- a good part

module _ (p : List ℕ) (b : Bytes p) (e : refusal p ≡ 0) where
  pub head-room : payload_start p + 346 ≤ length p
  head-room = omega (arith, (sized-opened p b e).least, payload_there p b e)

  -- a long of it
  pub long-at : (start o : ℕ) → start ≡ payload_start p → o ≡ order_of (opened p).head → (k : ℕ) → width_at template k ≡ 4 → number o (take 4 (drop (start + k) p)) ≡ (opened p).head k
  long-at start o s q k w = ap (λ (n : ℕ). number o (take 4 (drop (n + k) p))) s ∙ long_there p b e o k q w

  text-start : get_or (starts_of (opened p).head) 1 0 ≡ 346
  unfolding starts_of starts_from
  text-start = let d : (opened p).head 36 ≡ 346 = (good-opened p b e).tile.descriptor in omega arith

  text-room : payload_start p + 346 + (opened p).head 40 ≤ length p
  text-room = let l : payload_start p + get_or (starts_of (opened p).head) 1 0 + (opened p).head 40 ≤ length p = part-within p b e 1 (omega arith) in omega (arith, text-start)

  text_is : part p (payload_start p + 346) ((opened p).head 40) ≡ (opened p).text
  unfolding opened decode wave_of
  text_is = sym (stretch_there p b e 1 (omega arith) ∙ ap (λ (k : ℕ). part p (payload_start p + k) ((opened p).head 40)) text-start)

pub record FrontNeeds (p : List ℕ) (lead : Lead) (n : ℕ) : Type 0 where
  pub order : lead.order ≤ 1
  pub head-room : lead.start + 346 ≤ length p
  pub text-room : lead.start + 346 + get_or lead.lengths 1 0 ≤ length p
  pub trig : n * get_or lead.lengths 3 0 ≤ 16777216
  pub one : n * get_or lead.lengths 6 0 ≤ 16777216
  pub two : n * get_or lead.lengths 7 0 ≤ 16777216

module _ (p : List ℕ) (b : Bytes p) (lead : Lead) (n : ℕ) (g : Fronting p lead n) where
  pub front_needs : FrontNeeds p lead n
  front_needs = subst (λ (x : Lead). FrontNeeds p x n) (sym g.leads) (record {
    order = (fits-opened p b g.good).order;
    head-room = head-room p b g.good;
    text-room = text-room p b g.good;
    trig = omega (arith, g.small);
    one = omega (arith, g.small);
    two = omega (arith, g.small);
  })

  -- one segment has all points
  points-all : (opened p).head 116 ≡ points (opened p).head
  points-all = sym (ap (λ (m : ℕ). (opened p).head 116 / m) g.alone ∙ div-one ((opened p).head 116))

  read : (k : ℕ) → width_at template k ≡ 4 → number lead.order (take 4 (drop (lead.start + k) p)) ≡ (opened p).head k
  read = long-at p b g.good lead.start lead.order (ap (λ (x : Lead). x.start) g.leads) (ap (λ (x : Lead). x.order) g.leads)

  module _ (raw : ℕ) (c : raw ≡ number lead.order (take 4 (drop (lead.start + 116) p))) where
    count_is : raw ≡ (opened p).head 116
    unfolding template width_at
    count_is = c ∙ read 116 refl

    pub count_room : n * raw ≤ 16777216
    count_room =
        let h : ℕ → ℕ = (opened p).head in
        let x : h 60 ≡ h 116 * size_of h = (good-opened p b g.good).counts.one in
        let y : h 116 * 1 ≤ h 116 * size_of h = mul-le-mul_left (h 116) (omega arith) in
        let z : n * h 116 ≤ n * h 60 = mul-le-mul_left n (omega arith) in
        subst (λ (m : ℕ). n * m ≤ 16777216) (sym count_is) (omega (arith, g.small))

    -- the descriptor that is written
    abbrev pub front_head : List ℕ
    front_head = laid ((opened p).head 34) template (changed (changes_by ((opened p).head 34) (changes_for n (opened p).head)) (opened p).head)

    pub head-out : (first sparsing : ℕ) → first ≡ number lead.order (take 4 (drop (lead.start + 132) p)) → sparsing ≡ number lead.order (take 4 (drop (lead.start + 136) p)) → laid lead.order template (changed (changes_by lead.order (record {
      trig = n * get_or lead.lengths 3 0;
      one = n * get_or lead.lengths 6 0;
      two = n * get_or lead.lengths 7 0;
      count = n * raw;
      first = first;
      sparsing = sparsing;
      index = 0;
      subarrays = n;
    })) (head_at lead.order lead.start p)) ≡ front_head
    unfolding template width_at
    head-out first sparsing f q =
        (λ i. let x = g.leads i in laid x.order template (changed (changes_by x.order (record {
          trig = n * get_or x.lengths 3 0;
          one = n * get_or x.lengths 6 0;
          two = n * get_or x.lengths 7 0;
          count = n * count_is i;
          first = (f ∙ read 132 refl) i;
          sparsing = (q ∙ read 136 refl) i;
          index = 0;
          subarrays = n;
        })) (head_at x.order x.start p)))
        ∙ (λ i. laid ((opened p).head 34) template (changed (changes_by ((opened p).head 34) (record {
          trig = n * (opened p).head 48;
          one = n * (opened p).head 60;
          two = n * (opened p).head 64;
          count = n * points-all i;
          first = (opened p).head 132;
          sparsing = (opened p).head 136;
          index = 0;
          subarrays = n;
        })) (head_there p b g.good i)))

  pub text_out : part p (lead.start + 346) (get_or lead.lengths 1 0) ≡ (opened p).text
  text_out = ap (λ (x : Lead). part p (x.start + 346) (get_or x.lengths 1 0)) g.leads ∙ text_is p b g.good

pub head-long : (p : List ℕ) (n : ℕ) → length (laid ((opened p).head 34) template (changed (changes_by ((opened p).head 34) (changes_for n (opened p).head)) (opened p).head)) ≡ 346
head-long p n = length-laid ((opened p).head 34) template (changed (changes_by ((opened p).head 34) (changes_for n (opened p).head)) (opened p).head) ∙ total-template
