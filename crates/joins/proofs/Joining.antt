-- What writing the joined block needs (`fronting`, `sum`) and leaves (`front-written`), and what a join answers (`refuses`, `short_refuses`, `joins`).
use mathlib.Core.Path.{◌≡◌, refl, sym, ap, ap₂, ◌∙◌, subst}
use mathlib.Core.Logic.{◌⊎◌, inl, inr}
use Prim.Native.Nat.{ℕ, zero, suc, ◌+◌, ◌-◌, ◌*◌, ◌≤◌, ◌<◌}
use native.Mathlib.Omega.{arith}
use mathlib.Core.Bool.{Bool, true, false, cond}
use mathlib.Core.List.{List, [], ◌++◌}
use lib.ListN.{length, get_or, take, drop, length-append}
use lib.Dec.{leb}
use borrow.Author.Tests.{le-leb, lt-leb}
use Rattle.rules.specs.Numbers.{Bytes, splice, unless_refused}
use Rattle.rules.specs.Template.{template, laid}
use Rattle.rules.specs.Wave.{segments, ris_length, encode, framed}
use Rattle.rules.specs.Rules.{all, refusal, opened}
use Rattle.rules.specs.Cut.{changed, or_else}
use Rattle.rules.proofs.Numbers.{length-laid}
use Rattle.rules.proofs.Template.{total-template}
use Rattle.rules.proofs.Tests.{left_alone}
use Rattle.rules.proofs.Frames.{length-framed}
use Rattle.rules.proofs.Opened.{fits-opened}
use Rattle.copies.specs.Copies.{header}
use Rattle.copies.proofs.Laws.{then}
use Rattle.copies.proofs.Head.{length-header}
use Rattle.heads.specs.Heads.{changes_by}
use Rattle.joining.specs.Join.{parts_in, joined, joined_bytes, joining, join_refusal}
use Rattle.joining.proofs.Lists.{every_get_or}
use Rattle.joining.proofs.Parts.{parts-bytes}
use Rattle.joining.proofs.Says.{first_bad, first_bad_none, joined_tests, join_number}
use Rattle.joining.proofs.Reading.{waves_of}
use Rattle.joining.proofs.Breaks.{joined_length, length-block, block-good}
use Rattle.parts.proofs.Tables.{first-bytes, first_good}
use Rattle.arrivals.specs.declared.Judged.{Judged}
use Rattle.arrivals.specs.Arrivals.{Judges}
use Rattle.fronts.specs.declared.Lead.{Lead}
use Rattle.fronts.specs.Fronts.{lead_of, changes_for, Fronting}
use Rattle.joins.specs.declared.Joined.{Joined}
use Rattle.joins.specs.Joins.{refused_as, answer, joined_as, out_as}
use Rattle.joins.specs.Steps.{Counted, total_by, Ready, table_of, tables_to}
use Rattle.joins.proofs.Tabled.{first_part_lem, gathered_by, table-long, five_tables}
use Rattle.joins.proofs.Rising.{total-joined}
use Rattle.joins.proofs.Whole.{whole}

ris_times : (n x : ℕ) → (x ≡ 0) ⊎ (n ≡ 1) → n * x ≡ x
ris_times n x (inl z) = ap (λ (y : ℕ). n * y) z ∙ omega (arith, z)
ris_times n x (inr z) = ap (λ (m : ℕ). m * x) z ∙ omega arith

-- ---- writing

module _ (s : List ℕ) (b : Bytes s) (lead : Lead) (n end total : ℕ) (g : Ready s lead n end total) where
  abbrev first_part : List ℕ
  first_part = get_or (parts_in s) 0 []

  abbrev head : ℕ → ℕ
  head = (opened first_part).head

  fine : (joined_length (length (parts_in s)) head ≤ 16777216) × ((ris_length head ≡ 0) ⊎ (length (parts_in s) ≡ 1))
  fine = let k = (block-good (parts_in s) (parts-bytes s b) g.gathered.together).0 g.block in (k.0, k.1)

  total_is : total ≡ joined_length (length (parts_in s)) head
  total_is = g.long ∙ total-joined s b lead n end g.gathered

  pub few : n ≤ 1000
  few = omega (arith, g.gathered.count, g.gathered.together.most)

  -- the front and the tables are the whole
  pub sum : 357 + get_or lead.lengths 1 0 + length (tables_to 5 s) ≡ 11 + total
  sum =
      let r : n * get_or lead.lengths 4 0 ≡ get_or lead.lengths 4 0 =
      ap₂ {C = ℕ} (λ m (x : Lead). m * get_or x.lengths 4 0) g.gathered.count g.gathered.leads ∙ ris_times (length (parts_in s)) (head 52) fine.1
      ∙ sym (ap (λ (x : Lead). get_or x.lengths 4 0) g.gathered.leads) in
      let long : (i : ℕ) → i < 10 → length (table_of i s) ≡ n * get_or lead.lengths i 0 = table-long s b lead n end g.gathered in
      omega (arith, g.long, ap length (five_tables s b lead n end g.gathered), length-append (table_of 3 s ++ table_of 4 s ++ table_of 6 s) (table_of 7 s), length-append (table_of 3 s ++ table_of 4 s) (table_of 6 s), length-append (table_of 3 s) (table_of 4 s), long 3 (omega arith), long 4 (omega arith), long 6 (omega arith), long 7 (omega arith))

  first_is : take (end - 0) (drop 0 s) ≡ first_part
  first_is = first_part_lem s end g.gathered.together.some g.gathered.ends

  pub fronting : Fronting (take (end - 0) (drop 0 s)) lead n
  fronting = subst (λ (p : List ℕ). Fronting p lead n) (sym first_is) (record {
    leads = g.gathered.leads;
    good = first_good s b g.gathered.together;
    alone = every_get_or (λ p. segments (opened p).head ≡ 1) (parts_in s) 0 [] g.gathered.together.some g.gathered.together.alone;
    small = subst (λ (m : ℕ). joined_length m head ≤ 16777216) (sym g.gathered.count) fine.0;
  })

  pub front-written : (out : List ℕ) → 11 + total ≤ length out
      → (let p = take (end - 0) (drop 0 s) in
      splice (splice out 0 (header total ++ laid ((opened p).head 34) template (changed (changes_by ((opened p).head 34) (changes_for n (opened p).head)) (opened p).head) ++ (opened p).text)) (357 + get_or lead.lengths 1 0)
      (tables_to 5 s))
      ≡ splice out 0 (joined_bytes (parts_in s))
  front-written out h =
      let tables : List ℕ = tables_to 5 s in
      let hd : ℕ → List ℕ = λ m. laid (head 34) template (changed (changes_by (head 34) (changes_for m head)) head) in
      let front : ℕ → List ℕ = λ m. header total ++ hd m ++ (opened first_part).text in
      let at : ℕ = 357 + get_or lead.lengths 1 0 in
      let text : length (opened first_part).text ≡ get_or lead.lengths 1 0 =
      sym (ap (λ (x : Lead). get_or x.lengths 1 0) g.gathered.leads ∙ (fits-opened first_part (first-bytes s b g.gathered.together) (first_good s b g.gathered.together)).text-length) in
      let long : length (front n) ≡ at =
      omega (arith, length-append (header total ++ hd n) (opened first_part).text, length-append (header total) (hd n), length-header total, length-laid (head 34) template (changed (changes_by (head 34) (changes_for n head)) head) ∙ total-template, text) in
      let z : at ≡ 0 + at = omega arith in
      let ris : length (table_of 4 s) ≡ length (parts_in s) * head 52 =
      table-long s b lead n end g.gathered 4 (omega arith) ∙ ap₂ {C = ℕ} (λ m (x : Lead). m * get_or x.lengths 4 0) g.gathered.count g.gathered.leads in
      ap (λ (p : List ℕ). splice (splice out 0 (header total ++ laid ((opened p).head 34) template (changed (changes_by ((opened p).head 34) (changes_for n (opened p).head)) (opened p).head) ++ (opened p).text)) at tables) first_is
      ∙ ap (λ (k : ℕ). splice (splice out 0 (front n)) k tables) z
      ∙ then out 0 at (front n) tables long (omega (arith, sum))
      ∙ ap (λ (m : ℕ). splice out 0 (front m ++ tables)) g.gathered.count
      ∙ ap (λ (x : List ℕ). splice out 0 (front (length (parts_in s)) ++ x)) (five_tables s b lead n end g.gathered)
      ∙ ap (splice out 0) (whole (parts_in s) (parts-bytes s b) g.gathered.together total total_is ris fine.1)

-- ---- the answer

answered : (m : ℕ) (w : Joined) (count long : ℕ) → (m ≡ 0 → ⊥) → w ≡ refused_as m → w ≡ answer m count long
answered zero w count long h e = absurd (h refl)
answered (suc m) w count long h e = e

module _ (s : List ℕ) (b : Bytes s) (out : List ℕ) where
  pub refuses : (m : ℕ) → m ≡ join_refusal s (length out) → (m ≡ 0 → ⊥) → (w : Joined) → w ≡ refused_as m → (w ≡ joined_as s (length out)) × (out ≡ out_as s out)
  unfolding joined_as out_as
  refuses m e h w q = (
    answered m w (length (parts_in s)) (length (joined_bytes (parts_in s))) h q ∙ ap (λ (k : ℕ). answer k (length (parts_in s)) (length (joined_bytes (parts_in s)))) e,
    left_alone m (splice out 0 (joined_bytes (parts_in s))) out h ∙ ap (λ (k : ℕ). unless_refused k (splice out 0 (joined_bytes (parts_in s))) out) e,
  )

  module _ (r : Judged) (j : Judges s r) where
    module _ (z : r.refusal ≡ 0) where
      pub count_few : r.count ≤ 1000
      count_few = omega (arith, j.count z, (j.together z).most)

      pub counted : Counted s r.count r.end
      counted = record { together = j.together z; count = j.count z; ends = j.ends z }

      pub first_good_by : refusal (take (r.end - 0) (drop 0 s)) ≡ 0
      first_good_by = ap refusal (first_part_lem s r.end (j.together z).some (j.ends z)) ∙ first_good s b (j.together z)

      none_bad : first_bad (parts_in s) ≡ 0
      none_bad = (first_bad_none (parts_in s)).1 (j.together z).good

      -- the joined block breaks a rule
      pub block-number : (refusal (joined_bytes (parts_in s)) ≡ 0 → ⊥) → (room : ℕ) → 16 ≡ join_refusal s room
      block-number h room = sym (join_number s room ∙ ap₂ {C = ℕ} (λ x t. or_else x (cond t (cond (leb (length (joined_bytes (parts_in s))) room) 0 13) 16)) none_bad (go (all (joining (parts_in s))) refl))
        where
          go : (t : Bool) → all (joining (parts_in s)) ≡ t → all (joining (parts_in s)) ≡ false
          go true e = absurd (h ((joined_tests (parts_in s) (j.together z).good).0 e).block)
          go false e = e

      -- it keeps them
      module _ (block : refusal (joined_bytes (parts_in s)) ≡ 0) where
        number_by : (room : ℕ) (u : Bool) → leb (length (joined_bytes (parts_in s))) room ≡ u → cond u 0 13 ≡ join_refusal s room
        number_by room u q =
            sym (join_number s room ∙ λ i. or_else (none_bad i) (cond ((joined_tests (parts_in s) (j.together z).good).1 (record { together = j.together z; block = block }) i) (cond (q i) 0 13) 16))

        pub no_room : 13 ≡ join_refusal s 0
        unfolding joined_bytes
        no_room = number_by 0 false (lt-leb (length (joined_bytes (parts_in s))) 0 (omega (arith, length-framed (encode (joined (waves_of (parts_in s)))))))

      module _ (block : refusal (joined_bytes (parts_in s)) ≡ 0) (lead : Lead) (leads : lead ≡ lead_of (take (r.end - 0) (drop 0 s))) (total : ℕ) (t : total ≡ total_by lead r.count) where
        pub ready : Ready s lead r.count r.end total
        ready = record { gathered = gathered_by s lead r.count r.end counted leads; block = block; long = t }

        total_of : total ≡ joined_length (length (parts_in s)) (opened (get_or (parts_in s) 0 [])).head
        total_of = t ∙ total-joined s b lead r.count r.end (gathered_by s lead r.count r.end counted leads)

        pub total-small : total ≤ 16777216
        total-small = omega (arith, total_of, ((block-good (parts_in s) (parts-bytes s b) (j.together z)).0 block).0)

        long_is : length (joined_bytes (parts_in s)) ≡ total + 11
        unfolding joined_bytes framed header
        long_is =
            let e : List ℕ = encode (joined (waves_of (parts_in s))) in
            let l : length (header (length e) ++ e) ≡ length (header (length e)) + length e = length-append (header (length e)) e in
            l ∙ omega (arith, length-header (length e), length-block (parts_in s) (parts-bytes s b) (j.together z), total_of)

        pub short_refuses : length out < total + 11 → (w : Joined) → w ≡ refused_as 13 → (w ≡ joined_as s (length out)) × (out ≡ out_as s out)
        short_refuses h = refuses 13 (number_by block (length out) false (lt-leb (length (joined_bytes (parts_in s))) (length out) (omega (arith, long_is)))) (λ y. omega (arith, y))

        pub joins : total + 11 ≤ length out → (record { refusal = 0; count = r.count; length = total + 11 } ≡ joined_as s (length out)) × (splice out 0 (joined_bytes (parts_in s)) ≡ out_as s out)
        unfolding joined_as out_as
        joins h =
            let e : 0 ≡ join_refusal s (length out) = number_by block (length out) true (le-leb (length (joined_bytes (parts_in s))) (length out) (omega (arith, long_is))) in (
              ap₂ {C = Joined} (λ x y. record { refusal = 0; count = x; length = y }) (j.count z) (sym long_is) ∙ ap (λ (k : ℕ). answer k (length (parts_in s)) (length (joined_bytes (parts_in s)))) e,
              ap (λ (k : ℕ). unless_refused k (splice out 0 (joined_bytes (parts_in s))) out) e,
            )
