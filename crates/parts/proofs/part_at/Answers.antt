-- The header judged, then the block that it says.
use mathlib.Core.Path.{◌≡◌, ap, ◌∙◌}
use Prim.Native.Nat.{◌+◌, ◌≤◌, ◌<◌}
use native.Mathlib.Omega.{arith}
use mathlib.Core.Bool.{true}
use lib.ListN.{drop}
use borrow.Author.Rules.{rules}
use Rattle.rules.specs.Rules.{all, frame, payload_start, stated}
use Rattle.frames.specs.declared.Header.{Header}
use Rattle.frames.specs.Headers.{framed_as, header_of}
use Rattle.frames.proofs.Headers.{unframed_says, framed-says, framed-small}
use Rattle.joining.specs.Join.{part_end}
use Rattle.parts.proofs.Standing.{rest_is, unframed_here, cut_here, bad_here, good_here}
use Rattle.parts.proofs.part_at.Goals as goal
use Rattle.parts.proofs.part_at.Goals.{In-Some}

-- the header of what is left
framed : (c : In-Some) → let s = drop c.args.at c.args.parts.now in (all (frame s) ≡ true) × (c.in-Some.header ≡ framed_as s)
framed c = let a = c.args in framed-says (drop a.at a.parts.now) c.in-Some.header (c.in-Some.ensures ∙ ap header_of (rest_is a.parts.now a.at))

-- where it ends
ends : (c : In-Some) → let a = c.args in a.at + c.in-Some.header.start + c.in-Some.header.length ≡ a.at + part_end (drop a.at a.parts.now)
ends c =
    let said = framed c in
    let start : c.in-Some.header.start ≡ payload_start (drop c.args.at c.args.parts.now) = ap (λ (x : Header). x.start) said.1 in
    let long : c.in-Some.header.length ≡ stated (drop c.args.at c.args.parts.now) = ap (λ (x : Header). x.length) said.1 in
    omega arith

small : (c : In-Some) → (c.in-Some.header.start ≤ 11) × (c.in-Some.header.length < 1000000000)
small c =
    let said = framed c in
    let start : c.in-Some.header.start ≡ payload_start (drop c.args.at c.args.parts.now) = ap (λ (x : Header). x.start) said.1 in
    let long : c.in-Some.header.length ≡ stated (drop c.args.at c.args.parts.now) = ap (λ (x : Header). x.length) said.1 in
    let s = framed-small (drop c.args.at c.args.parts.now) said.0 in
    (omega (arith, s.0), omega (arith, s.1))

pub returns-in_default : goal.returns-in_default
returns-in_default c =
    let a = c.args in
    c.refused.ensures ∙ unframed_here a.parts.now a.at (unframed_says (drop a.at a.parts.now) (c.in_default.ensures ∙ ap header_of (rest_is a.parts.now a.at)))

pub overflow_add-start : goal.overflow_add-start
overflow_add-start c = let s = small (goal.at.overflow_add-start c).In-Some in search (rules, s)

pub overflow_add-end : goal.overflow_add-end
overflow_add-end c = let s = small (goal.at.overflow_add-end c).In-Some in search (rules, s)

pub returns-then-parts-end : goal.returns-then-parts-end
returns-then-parts-end c =
    let a = c.args in
    c.refused-then-parts-end.ensures ∙ cut_here a.parts.now a.at (framed (goal.at.returns-then-parts-end c).In-Some).0 (omega (arith, ends (goal.at.returns-then-parts-end c).In-Some, c.if-parts-end.true))

pub returns-then-o-ne0 : goal.returns-then-o-ne0
returns-then-o-ne0 c =
    let a = c.args in
    let h = c.in-Some.header in
    c.refused-then-o-ne0.ensures
    ∙ bad_here a.parts.now a.at (a.at + h.start + h.length) (ends (goal.at.returns-then-o-ne0 c).In-Some) (omega (arith, c.if-parts-end.false)) c.open-o.result c.open-o.ensures c.if-o-ne0.true

pub returns : goal.returns
returns c =
    let a = c.args in
    let h = c.in-Some.header in
    good_here a.parts.now a.at (a.at + h.start + h.length) (ends (goal.at.returns c).In-Some) (omega (arith, c.if-parts-end.false)) c.open-o.result c.open-o.ensures (a.at + h.start) (ap (λ (x : Header). a.at + x.start) (framed (goal.at.returns c).In-Some).1) c.if-o-ne0.false
