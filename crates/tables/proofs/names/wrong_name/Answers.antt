-- `tables::names::wrong_name` meets its contract: by the number of columns.
use mathlib.Core.Path.{sym, ◌∙◌}
use Rattle.tables.proofs.Asked.{same_fault}
use Rattle.tables.proofs.NamedLines.{name_missing, name_wrong}
use Rattle.tables.proofs.names.wrong_name.Goals as goal

pub returns-then-line-lt2 : goal.returns-then-line-lt2
returns-then-line-lt2 c s = same_fault c.line_fault.ensures ∙ sym (name_missing _ _ s c.if-line-lt2.true)

pub returns : goal.returns
returns c s = same_fault c.line_fault-2.ensures ∙ sym (name_wrong _ _ s c.if-line-lt2.false)
