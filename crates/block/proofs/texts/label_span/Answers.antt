-- TRACE_LABEL stands in the descriptor, and its bytes before the first zero are the label's own.
use native.Mathlib.Nat.{add-sub_cancel_left}
use native.Mathlib.Omega.{arith}
use mathlib.Core.Path.{◌≡◌, ap, ◌∙◌}
use mathlib.Core.List.{List}
use Prim.Native.Nat.{ℕ, ◌+◌, ◌-◌, ◌≤◌}
use lib.ListN.{length, take, drop}
use Rattle.rules.specs.Numbers.{Bytes}
use Rattle.rules.proofs.Numbers.{below-index}
use Rattle.block.specs.Texts.{up_to_zero}
use Rattle.block.proofs.Parts.{label_room, up_to_most, label_at}
use Rattle.block.proofs.texts.label_span.Goals as goal
use Rattle.block.proofs.texts.label_span.Goals.{After-shared_slice_known-1}

bytes : (c : After-shared_slice_known-1) → Bytes c.args.block.now
bytes c = below-index 256 c.args.block.now (λ i h. (c.type_inv.block i).fits)

room : (c : After-shared_slice_known-1) → c.args.o.start + 346 ≤ length c.args.block.now
room c = label_room c.args.block.now (bytes c) c.args.o c.requires.o_value c.requires.refusal_value

-- the sixteen bytes, as a slice of the block
named : (start : ℕ) (s : List ℕ) → length (up_to_zero (take (start + 96 + 16 - (start + 96)) (drop (start + 96) s))) ≡ length (up_to_zero (take 16 (drop (start + 96) s)))
named start s = ap (λ (k : ℕ). length (up_to_zero (take k (drop (start + 96) s)))) (add-sub_cancel_left (start + 96) 16)

pub overflow_add-from : goal.overflow_add-from
overflow_add-from c = omega (arith, room (goal.at.overflow_add-from c).After-shared_slice_known-1)

pub overflow_add-from-2 : goal.overflow_add-from-2
overflow_add-from-2 c = omega (arith, room (goal.at.overflow_add-from-2 c).After-shared_slice_known-1)

pub slice_bounds-before_zero-end : goal.slice_bounds-before_zero-end
slice_bounds-before_zero-end c = omega (arith, room (goal.at.slice_bounds-before_zero-end c).After-shared_slice_known-1)

pub overflow_add-to : goal.overflow_add-to
overflow_add-to c = omega (arith, room (goal.at.overflow_add-to c).After-shared_slice_known-1, c.before_zero.ensures, up_to_most 16 (drop (c.args.o.start + 96) c.args.block.now), named c.args.o.start c.args.block.now)

pub returns : goal.returns
returns c =
    label_at c.args.block.now (bytes (goal.at.returns c).After-shared_slice_known-1) c.args.o c.requires.o_value c.requires.refusal_value c.before_zero.result (c.before_zero.ensures ∙ named c.args.o.start c.args.block.now)
