-- `texts::words::differ_at` meets its contract: texts with other numbers at a place are not the same.
use borrow.Author.Tests.{eqb-false, not-true}
use mathlib.Core.Path.{sym, ◌∙◌}
use Rattle.texts.specs.Words.{eight_at}
use Rattle.texts.proofs.AsNumbers.{numbers_differ}
use Rattle.texts.proofs.words.differ_at.Goals as goal

pub returns : goal.returns
returns c e =
    let a = c.args in
    sym (numbers_differ eight_at a.a.now a.b.now a.at
    (λ q. eqb-false _ _ (not-true _ e) (c.eight_at.ensures ∙ q ∙ sym c.eight_at-2.ensures)))
