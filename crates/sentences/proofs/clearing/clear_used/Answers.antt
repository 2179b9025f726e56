-- `sentences::clearing::clear_used` meets its contract.
use Rattle.sentences.proofs.Unused.{sheet_cleared, edges_cleared}
use Rattle.sentences.proofs.clearing.clear_used.Goals as goal

pub returns : goal.returns
returns c =
    let u = c.requires in (
      sheet_cleared _ _ u _ _ c.clear_rows-2.ensures c.clear_rows-3.ensures c.clear_rows-2.auto.sheet c.clear_rows-3.auto.sheet,
      edges_cleared _ _ u _ c.clear_rows.ensures c.clear_rows.auto.sheet,
    )
