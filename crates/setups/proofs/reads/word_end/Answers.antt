-- One word, the other, or none.
use mathlib.Core.Path.{refl, sym, ◌∙◌}
use mathlib.Core.Bool.{true, false}
use mathlib.Core.List.{[], ◌∷◌, ◌++◌}
use Rattle.lines.specs.Grammar.{Short, Long, letters, blank}
use Rattle.setups.proofs.Starts.{starts_same}
use Rattle.setups.proofs.Answers.{word_by}
use Rattle.setups.proofs.reads.word_end.Goals as goal

pub returns-then-starts_with : goal.returns-then-starts_with
returns-then-starts_with c =
    let s = c.args.line.now in
    word_by s true _ (sym (starts_same s (letters Short ++ (blank ∷ []))) ∙ sym c.starts_with.ensures.value ∙ c.if-starts_with.true) refl

pub returns-then-starts_with-2 : goal.returns-then-starts_with-2
returns-then-starts_with-2 c =
    let s = c.args.line.now in
    word_by s false true (sym (starts_same s (letters Short ++ (blank ∷ []))) ∙ sym c.starts_with.ensures.value ∙ c.if-starts_with.false) (sym (starts_same s (letters Long ++ (blank ∷ []))) ∙ sym c.starts_with-2.ensures.value ∙ c.if-starts_with-2.true)

pub returns : goal.returns
returns c =
    let s = c.args.line.now in
    word_by s false false (sym (starts_same s (letters Short ++ (blank ∷ []))) ∙ sym c.starts_with.ensures.value ∙ c.if-starts_with.false) (sym (starts_same s (letters Long ++ (blank ∷ []))) ∙ sym c.starts_with-2.ensures.value ∙ c.if-starts_with-2.false)
