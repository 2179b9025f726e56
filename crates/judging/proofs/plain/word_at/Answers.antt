-- `judging::plain::word_at` meets its contract: the line is a word's, and the quick look tells its step.
use mathlib.Core.Path.{◌∙◌}
use borrow.Author.Tests.{eq-eqb}
use Rattle.judging.specs.Judging.{so_far_by}
use Rattle.judging.proofs.PlainTakings.{no_comment, word_taken}
use Rattle.judging.proofs.plain.word_at.Goals as goal

pub plain_word-requires : goal.plain_word-requires
plain_word-requires c = (c.requires.1, c.requires.0.five, no_comment _ c.requires.0 c.requires.3)

pub returns : goal.returns
returns c format marks stamp =
    let t = c.args.t in
    word_taken _ c.requires.0 format _ _ c.requires.3 c.requires.4
    ∙ c.in_ok-parent.ensures format (so_far_by t marks stamp) (eq-eqb t.phrases 0 c.if-t-ne0.false) c.if-t-ge-WORD_LIMIT.false c.requires.2
