-- `texts::words::same_places` meets its contract: the two numbers at the back and those at the front tell.
use native.Mathlib.Omega.{arith}
use mathlib.Core.Path.{sym, ◌∙◌}
use borrow.Author.Tests.{eqb-true}
use Rattle.texts.proofs.SamePlaces.{eights_same}
use Rattle.texts.proofs.words.same_places.Goals as goal

pub returns : goal.returns
returns c e =
    let a = c.args in
    eights_same a.text.now (λ i. omega (arith, c.shared_slice_known-1.given i)) a.a a.b a.len c.requires.2 c.requires.3 c.requires.0 c.requires.1
    (sym c.eight_at-3.ensures ∙ eqb-true _ _ e ∙ c.eight_at-4.ensures)
    (sym c.eight_at.ensures ∙ c.if-eight_at.false ∙ c.eight_at-2.ensures)
