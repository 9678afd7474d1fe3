-- No word, or what the pairs behind it say.
use mathlib.Core.Path.{sym, ◌∙◌}
use Rattle.setups.proofs.Answers.{no_word, by_word}
use Rattle.setups.proofs.reads.read.Goals as goal

pub returns-in_err-start : goal.returns-in_err-start
returns-in_err-start c = c.from_residual.ensures ∙ no_word c.args.line.now (sym c.word_end.ensures ∙ c.in_err-start.was)

pub read_pairs-requires : goal.read_pairs-requires
read_pairs-requires c = (by_word c.args.line.now c.in_ok-start.start (sym c.word_end.ensures ∙ c.in_ok-start.was)).0

pub returns : goal.returns
returns c = c.read_pairs.ensures ∙ (by_word c.args.line.now c.in_ok-start.start (sym c.word_end.ensures ∙ c.in_ok-start.was)).1
