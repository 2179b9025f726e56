-- `citations::ids::counts_up_to` meets its contract: the row that the id names has it.
use borrow.Author.Tests.{eqb-true}
use native.Mathlib.Omega.{arith}
use Rattle.citations.proofs.CountedIds.{id_among}
use Rattle.citations.proofs.ids.counts_up_to.Goals as goal

pub returns : goal.returns
returns c e file =
    let a = c.args in
    id_among a.id1 file a.sheet.now a.place _ a.rows (omega (arith, c.if-rows-row.false)) (eqb-true _ _ e)
