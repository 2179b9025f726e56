-- `table_sheet::quick::has_short` meets its contract: the row has as many bytes, and the same number of them.
use borrow.Author.Tests.{eqb-true}
use native.Mathlib.Omega.{arith}
use mathlib.Core.Path.{sym, ◌∙◌}
use Rattle.texts.proofs.SamePlaces.{front_same}
use Rattle.table_sheet.proofs.LookUps.{tag_among_lem}
use Rattle.table_sheet.proofs.quick.has_short.Goals as goal

pub returns : goal.returns
returns c e =
    let a = c.args in
    let row = c.row_near-row.result in
    let first = c.start_of-first.result in
    let told = c.has_length.ensures (c.if-not-has_length.false) in
    let inside = (c.requires.2 row told.0).first in
    tag_among_lem a.file.now a.sheet.now a.place row a.rows a.start first a.len told.0 told.1 c.start_of-first.ensures
    (front_same a.file.now (λ i. omega (arith, c.shared_slice_known-1.given i)) a.start first a.len
    (omega arith)
    (omega (arith, told.1, inside, c.start_of-first.ensures))
    (omega arith)
    (sym c.front_at-number.ensures ∙ eqb-true _ _ e ∙ c.front_at.ensures))
