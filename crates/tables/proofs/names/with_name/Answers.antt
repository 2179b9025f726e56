-- `tables::names::with_name` meets its contract: by the number of columns.
use mathlib.Core.Path.{sym, ◌∙◌}
use Rattle.tables.proofs.Asked.{same_fault}
use Rattle.tables.proofs.NamedLines.{name_followed, name_alone}
use Rattle.tables.proofs.names.with_name.Goals as goal

pub returns-then-line-ne2 : goal.returns-then-line-ne2
returns-then-line-ne2 c = same_fault c.line_fault.ensures ∙ sym (name_followed _ _ _ c.if-line-ne2.true)

pub returns : goal.returns
returns c = sym (name_alone _ _ _ c.if-line-ne2.false)
