-- Rule 1 test by test, and the digits last.
use mathlib.Core.Path.{◌∙◌}
use native.Mathlib.Omega.{arith}
use Rattle.frames.proofs.Headers.{unframed_short, unframed_hash, unframed_low, unframed_high, unframed_end, framed-digits}
use Rattle.frames.proofs.header_of.Goals as goal

pub returns-in_default : goal.returns-in_default
returns-in_default c = unframed_short c.args.block.now c.in_default.len_below

pub returns-in_default-2 : goal.returns-in_default-2
returns-in_default-2 c = unframed_low c.args.block.now (omega arith)

pub returns-in_default-3 : goal.returns-in_default-3
returns-in_default-3 c = unframed_high c.args.block.now (omega arith)

pub returns-in_default-4 : goal.returns-in_default-4
returns-in_default-4 c = unframed_hash c.args.block.now (λ e. omega arith)

pub returns-then-block-start : goal.returns-then-block-start
returns-then-block-start c = unframed_end c.args.block.now (omega arith)

pub returns : goal.returns
returns c = c.digits_of.ensures ∙ framed-digits c.args.block.now (omega arith) (omega arith) (omega arith) (omega arith)
