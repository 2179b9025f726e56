use Rattle.std.specs.Prelude.{Err}
use mathlib.Core.Path.{◌≡◌, sym, ap, ◌∙◌}
use Prim.Native.Nat.{ℕ}
use lib.ListN.{drop}
use Rattle.rules.specs.Nodes.{tags_known}
use Rattle.table_sheet.specs.SheetRows.{tables_in}
use Rattle.steps.specs.Faults.{fault_in}
use Rattle.nodes.specs.NodeLines.{fields_of}
use Rattle.nodes.proofs.Judgements.{stops, passes}
use Rattle.nodes.proofs.node_lines.NodeLine.tags_known.Goals as goal

pub returns-then-not-is_known : goal.returns-then-not-is_known
unfolding tags_known
returns-then-not-is_known c format = ap Err (c.field_fault.ensures) ∙ sym (stops _ _ (sym c.is_known.ensures ∙ c.if-not-is_known.true))

pub returns-then-not-is_known-2 : goal.returns-then-not-is_known-2
unfolding tags_known
returns-then-not-is_known-2 c format =
    ap Err (c.field_fault-then-not-is_known-2.ensures)
    ∙ sym (passes _ _ (sym c.is_known.ensures ∙ c.if-not-is_known.false) ∙ stops _ _ (sym c.is_known-2.ensures ∙ c.if-not-is_known-2.true))

pub returns-then-not-is_known-3 : goal.returns-then-not-is_known-3
unfolding tags_known
returns-then-not-is_known-3 c format =
    let two-kept : (format : ℕ) → let a = c.args in fault_in (tags_known format (fields_of a.self.now.line) (tables_in a.self.now.line.file.now a.sheet.now) a.table) ≡ fault_in (drop 2 (tags_known format (fields_of a.self.now.line) (tables_in a.self.now.line.file.now a.sheet.now) a.table)) = λ format. passes _ _ (sym c.is_known.ensures ∙ c.if-not-is_known.false) ∙ passes _ _ (sym c.is_known-2.ensures ∙ c.if-not-is_known-2.false) in
    ap Err (c.field_fault-then-not-is_known-3.ensures)
    ∙ sym (two-kept format ∙ stops _ _ (sym c.is_known-3.ensures ∙ c.if-not-is_known-3.true))

pub returns : goal.returns
unfolding tags_known
returns c format =
    let two-kept : (format : ℕ) → let a = c.args in fault_in (tags_known format (fields_of a.self.now.line) (tables_in a.self.now.line.file.now a.sheet.now) a.table) ≡ fault_in (drop 2 (tags_known format (fields_of a.self.now.line) (tables_in a.self.now.line.file.now a.sheet.now) a.table)) = λ format. passes _ _ (sym c.is_known.ensures ∙ c.if-not-is_known.false) ∙ passes _ _ (sym c.is_known-2.ensures ∙ c.if-not-is_known-2.false) in
    c.labels_known.ensures ∙ sym (two-kept format ∙ passes _ _ (sym c.is_known-3.ensures ∙ c.if-not-is_known-3.false))
