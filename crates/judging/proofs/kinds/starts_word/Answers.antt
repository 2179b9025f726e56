-- `judging::kinds::starts_word` meets its contract.
use mathlib.Core.Path.{sym, ◌∙◌}
use Rattle.judging.proofs.FirstColumns.{word_hash, word_row}
use Rattle.judging.proofs.kinds.starts_word.Goals as goal

pub returns-then-same_text : goal.returns-then-same_text
returns-then-same_text c = λ n. sym (word_hash n c.args.first.now (sym c.same_text.ensures ∙ c.if-same_text.true))

pub returns : goal.returns
returns c = λ n. c.starts_row.ensures n ∙ sym (word_row n c.args.first.now (sym c.same_text.ensures ∙ c.if-same_text.false))
