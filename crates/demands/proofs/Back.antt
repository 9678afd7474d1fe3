-- Where every part was written by a call of `cut` with SN not 0, a call of `cut` on the joined block with SP 1, NP 0, FP 0, SN k and the parts' byte order writes
-- the part whose SEGMENT_INDEX is k, byte for byte (`part_back`). The parts' byte order is the one that they were cut in (`order-written`).
use mathlib.Core.Path.{◌≡◌, sym, ap, ◌∙◌, subst}
use mathlib.Core.List.{List, []}
use Prim.Native.Nat.{ℕ, ◌≤◌, ◌<◌}
use lib.ListN.{length, get_or, take}
use Rattle.rules.specs.Numbers.{Bytes}
use Rattle.rules.specs.Wave.{Wave, order_of}
use Rattle.rules.specs.Rules.{opened}
use Rattle.rules.specs.Cut.{Setup, cut, cut_bytes, cut_refusal}
use Rattle.rules.proofs.Demands.{CutTaken, cut-says, cut_accepted}
use Rattle.joining.specs.Join.{index_of, parts_in, joined_bytes, join_refusal}
use Rattle.joining.proofs.Lists.{Every, every_map}
use Rattle.joining.proofs.Index.{index-within, part_at_own}
use Rattle.joining.proofs.Says.{join_says}
use Rattle.joining.proofs.Back.{OurCut, CutsBack, whole}
use Rattle.joining.proofs.Back as back
use Rattle.cuts.specs.declared.Written.{Written}
use Rattle.cuts.proofs.Calls.{CutCall, called, number, taken}
use Rattle.joins.specs.declared.Joined.{Joined}
use Rattle.joins.proofs.Calls.{JoinCall}
use Rattle.joins.proofs.Calls as joins
use Rattle.demands.proofs.Written.{Wrote, cut_wrote}

-- p was written by a call of `cut` with SN not 0, lent some block
pub record WrittenByCut (p : List ℕ) : Type 0 where
  pub block : List ℕ
  pub bytes : Bytes block
  pub setup : Setup
  pub segment : 1 ≤ setup.sn
  pub order : ℕ
  pub out : List ℕ
  pub answer : Written
  pub left : List ℕ
  pub call : CutCall block setup order out answer left
  pub accepted : answer.refusal ≡ 0
  pub written : p ≡ take answer.length left

module _ (p : List ℕ) (c : WrittenByCut p) where
  own_taken : cut_refusal c.order c.setup c.block (length c.out) ≡ 0
  own_taken =
      taken c.block c.setup c.order c.out c.answer c.left
      (called c.block c.setup c.order c.out c.answer c.left c.call) c.accepted

  own_bytes : p ≡ cut_bytes c.order c.setup c.block
  own_bytes = c.written ∙ (cut_wrote c.block c.setup c.order c.out c.answer c.left c.call c.accepted).block

  our_cut : OurCut p
  our_cut = record {
    block = c.block;
    bytes = c.bytes;
    order = c.order;
    setup = c.setup;
    room = length c.out;
    taken = own_taken;
    segment = c.segment;
    written = own_bytes;
  }

  -- its COMM_ORDER is the order that the call was asked for
  pub order-written : order_of (opened p).head ≡ c.order
  unfolding cut
  order-written =
      let t : CutTaken c.block c.order c.setup (length c.out) = cut-says c.block c.order c.setup (length c.out) own_taken in
      ap (λ (x : List ℕ). order_of (opened x).head) own_bytes
      ∙ ap (λ (w : Wave). order_of w.head) (cut_accepted c.block c.bytes t.block c.order c.setup t.allows).1

-- Each part p of the slice: the joined block t has p's COMM_ORDER, and a call of `cut` on t with SP 1, NP 0, FP 0, p's SEGMENT_INDEX as SN, and that order,
-- lent room for p, answers 0 and writes p
pub part_back : (s : List ℕ) → Bytes s → (out : List ℕ) (w : Joined) (left : List ℕ) → JoinCall s out w left → w.refusal ≡ 0 → Every WrittenByCut (parts_in s) → (i : ℕ) → i < length (parts_in s)
    → let t = take w.length left in
    let p = get_or (parts_in s) i [] in
    (order_of (opened t).head ≡ order_of (opened p).head)
    × ((out₂ : List ℕ) (v : Written) (last : List ℕ) → CutCall t (whole (index_of p)) (order_of (opened t).head) out₂ v last → length p ≤ length out₂ → Wrote p out₂ v last)
part_back s b out w left call z ours i l = (
  subst (λ (t : List ℕ). order_of (opened t).head ≡ order_of (opened p).head) (sym wrote) is.order,
  subst (λ (t : List ℕ). (out₂ : List ℕ) (v : Written) (last : List ℕ) → CutCall t (whole (index_of p)) (order_of (opened t).head) out₂ v last → length p ≤ length out₂ → Wrote p out₂ v last) (sym wrote) again,
)
  where
    p : List ℕ
    p = get_or (parts_in s) i []

    t : List ℕ
    t = joined_bytes (parts_in s)

    e : join_refusal s (length out) ≡ 0
    e = joins.taken s out w left (joins.called s out w left call) z

    wrote : take w.length left ≡ joined_bytes (parts_in s)
    wrote = joins.wrote s out w left (joins.called s out w left call) z

    is : CutsBack (joined_bytes (parts_in s)) (index_of p) p
    is =
        let once = (join_says s (length out) e).0.together.once in
        subst (CutsBack t (index_of p)) (part_at_own (parts_in s) once i l)
        (back.part_back s b (length out) e (every_map our_cut (parts_in s) ours) (index_of p) (index-within (parts_in s) once i l))

    again : (out₂ : List ℕ) (v : Written) (last : List ℕ) → CutCall t (whole (index_of p)) (order_of (opened t).head) out₂ v last → length p ≤ length out₂ → Wrote p out₂ v last
    again out₂ v last second room =
        let o : ℕ = order_of (opened t).head in
        let y : v.refusal ≡ 0 = number t (whole (index_of p)) o out₂ v last (called t (whole (index_of p)) o out₂ v last second) ∙ is.taken (length out₂) room in
        subst (λ (x : List ℕ). Wrote x out₂ v last) is.same_bytes (cut_wrote t (whole (index_of p)) o out₂ v last second y)
