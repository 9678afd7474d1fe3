-- Where the second byte says, and the descriptor by its order.
use mathlib.Core.Path.{◌≡◌, ap, ◌∙◌}
use mathlib.Core.List.{List}
use Prim.Native.Nat.{ℕ, ◌+◌, ◌≤◌}
use native.Mathlib.Omega.{arith}
use lib.ListN.{length, get_or}
use Rattle.rules.specs.Numbers.{Bytes}
use Rattle.rules.specs.Template.{head_at}
use Rattle.rules.specs.Wave.{order_of, lengths_of}
use Rattle.rules.specs.Rules.{payload_start, opened}
use Rattle.rules.proofs.Numbers.{below-index}
use Rattle.rules.proofs.Opened.{start-opened, order_there, head_there}
use Rattle.fronts.proofs.Fronting.{head-room}
use Rattle.fronts.proofs.lead_of.Goals as goal
use Rattle.fronts.proofs.lead_of.Goals.{After-payload_at-start, After-shared_slice_known-1}

bytes : (c : After-shared_slice_known-1) → Bytes c.args.part.now
bytes c = below-index 256 c.args.part.now (λ i h. (c.type_inv.part i).fits)

starts : (c : After-payload_at-start) → c.payload_at-start.result ≡ payload_start c.args.part.now
starts c = c.payload_at-start.ensures ∙ omega arith

-- the descriptor is there
room : (c : After-payload_at-start) → c.payload_at-start.result + 346 ≤ length c.args.part.now
room c = omega (arith, starts c, head-room c.args.part.now (bytes (goal.at.After-payload_at-start c).After-shared_slice_known-1) c.requires)

pub payload_at-start-requires : goal.payload_at-start-requires
payload_at-start-requires c =
    let p = c.args.part.now in
    let s = start-opened p (bytes (goal.at.payload_at-start-requires c).After-shared_slice_known-1) c.requires in
    (omega (arith, head-room p (bytes (goal.at.payload_at-start-requires c).After-shared_slice_known-1) c.requires), omega (arith, s.0), omega (arith, s.1))

pub bounds-part-start : goal.bounds-part-start
bounds-part-start c = omega (arith, room (goal.at.bounds-part-start c).After-payload_at-start)

pub lengths_of-requires : goal.lengths_of-requires
lengths_of-requires c = room (goal.at.lengths_of-requires c).After-payload_at-start

pub returns : goal.returns
returns c =
    let p : List ℕ = c.args.part.now in
    let b = bytes (goal.at.returns c).After-shared_slice_known-1 in
    let start = starts (goal.at.returns c).After-payload_at-start in
    let order : get_or p (c.payload_at-start.result + 34) 0 ≡ order_of (opened p).head = ap (λ (n : ℕ). get_or p (n + 34) 0) start ∙ order_there p b c.requires in
    let lengths = c.lengths_of.ensures ∙ (λ i. lengths_of (head_at (order i) (start i) p)) ∙ ap lengths_of (head_there p b c.requires) in
    λ i. record { start = start i; order = order i; lengths = lengths i }
