-- `opening::sentence_fits` meets its contract.
use mathlib.Core.Path.{refl}
use lib.ListN.{length}
use borrow.Author.Tests.{eq-eqb, ne_eqb}
use Rattle.opening.proofs.sentence_fits.Goals as goal

pub returns-then-sheet-ne-SIZE : goal.returns-then-sheet-ne-SIZE
returns-then-sheet-ne-SIZE c = rw (ne_eqb (length c.args.sheet.now) 11009 c.if-sheet-ne-SIZE.true) refl

pub returns : goal.returns
returns c = rw (eq-eqb (length c.args.sheet.now) 11009 c.if-sheet-ne-SIZE.false) refl
