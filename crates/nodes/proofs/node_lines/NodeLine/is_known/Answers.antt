use mathlib.Core.Path.{ap, ◌∙◌}
use Prim.Native.Nat.{ℕ}
use mathlib.Core.List.{List}
use Rattle.rules.specs.Tables.{known}
use Rattle.rules.specs.Columns.{text}
use Rattle.table_sheet.specs.SheetRows.{tables_in}
use Rattle.nodes.specs.NodeLines.{fields_of}
use Rattle.nodes.proofs.node_lines.NodeLine.is_known.Goals as goal

pub returns : goal.returns
returns c =
    let a = c.args in
    let place : ℕ = (text (fields_of a.self.now.line) a.k).start in
    c.is_known.ensures place
    ∙ ap (λ (bs : List ℕ). known (tables_in a.self.now.line.file.now a.sheet.now) a.table (record { start = place; bytes = bs })) c.field.ensures
