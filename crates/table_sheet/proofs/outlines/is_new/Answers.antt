-- `table_sheet::outlines::is_new` meets its contract: where the outline is not noted by what the noted ones tell, else by the
-- rows.
use Prim.Native.Nat.{ℕ}
use mathlib.Core.Path.{sym, ap, ◌∙◌}
use mathlib.Core.Bool.{not}
use Rattle.std.proofs.Math.Bool.{not-not}
use lib.ListN.{get_or}
use Rattle.table_sheet.specs.SheetRows.{rows_from}
use Rattle.table_sheet.proofs.LookUps.{tag_found}
use Rattle.table_sheet.proofs.NotedOutlines.{unnoted_new}
use Rattle.table_sheet.proofs.outlines.is_new.Goals as goal

pub returns-then-outlines-place_of-eq0 : goal.returns-then-outlines-place_of-eq0
returns-then-outlines-place_of-eq0 c =
    let a = c.args in
    sym (ap not
    (unnoted_new a.outlines.now a.file.now a.sheet.now a.table a.tag.now
    (ap (λ (n : ℕ). get_or a.outlines.now n 0) (sym c.place_of.ensures.0) ∙ c.if-outlines-place_of-eq0.true) a.place a.rows c.requires.3.noted))

pub returns : goal.returns
returns c =
    let a = c.args in
    sym (not-not c.is_none.result)
    ∙ ap not
    (sym c.is_none.ensures
    ∙ tag_found a.tag.now (rows_from a.file.now a.sheet.now a.place a.rows) c.seek_tag.result c.seek_tag.ensures)
