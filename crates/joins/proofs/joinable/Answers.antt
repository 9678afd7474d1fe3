-- The number that judging gives, 16 by the joined block's own rules, and parts that can be joined.
use mathlib.Core.Path.{sym, ◌∙◌}
use native.Mathlib.Omega.{arith}
use mathlib.Core.Bool.{false≢true}
use borrow.Author.Tests.{not-true}
use Rattle.rules.specs.Numbers.{Bytes}
use Rattle.rules.proofs.Numbers.{below-index}
use borrow.Author.Rules.{rules}
use Rattle.joins.proofs.Joining.{block-number}
use Rattle.joins.proofs.joinable.Goals as goal
use Rattle.joins.proofs.joinable.Goals.{After-shared_slice_known-1}

bytes : (c : After-shared_slice_known-1) → Bytes c.args.parts.now
bytes c = below-index 256 c.args.parts.now (λ i h. (c.type_inv.parts i).fits)

pub returns-then-not-is_block : goal.returns-then-not-is_block
returns-then-not-is_block c =
    let a = c.args in
    let k = c.is_block in record {
      ok = search rules;
      err = (
        λ z. omega (arith, z),
        block-number a.parts.now (bytes (goal.at.returns-then-not-is_block c).After-shared_slice_known-1) a.parts.now c.judge-judged.result c.judge-judged.ensures c.if-number-ne0.false (λ e. false≢true (sym (not-true k.result c.if-not-is_block.true-raw) ∙ k.ensures.1 e)),
      );
    }
