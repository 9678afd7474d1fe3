-- TRIGTIME's numbers behind the others.
use mathlib.Core.Path.{sym, ◌∙◌}
use Rattle.block.proofs.Ladder.{passes, fails}
use Rattle.block.proofs.Times.{tables_broken, tables_by_entries}
use Rattle.block.proofs.tables.number_of.Goals as goal

pub returns-then-not-is_measured : goal.returns-then-not-is_measured
returns-then-not-is_measured c =
    let a = c.args in
    sym (tables_broken a.order a.start a.patterns a.layout a.block.now (fails c.is_measured.ensures c.if-not-is_measured.true-raw))

pub returns : goal.returns
returns c =
    c.number_of_entries.ensures
    ∙ tables_by_entries c.args.order c.args.start c.args.patterns c.args.layout c.args.block.now (passes c.is_measured.ensures c.if-not-is_measured.false-raw) c.requires.lengths_value
