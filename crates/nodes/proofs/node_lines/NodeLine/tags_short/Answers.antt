use Rattle.std.specs.Prelude.{Err}
use mathlib.Core.Path.{◌≡◌, sym, ap, ◌∙◌}
use Prim.Native.Nat.{ℕ}
use lib.ListN.{drop}
use Rattle.rules.specs.Nodes.{tags_short}
use Rattle.steps.specs.Faults.{fault_in}
use Rattle.nodes.specs.NodeLines.{fields_of}
use Rattle.nodes.proofs.Judgements.{stops, passes}
use Rattle.nodes.proofs.node_lines.NodeLine.tags_short.Goals as goal

pub returns-then-not-is_short : goal.returns-then-not-is_short
unfolding tags_short
returns-then-not-is_short c format = ap Err (c.field_fault.ensures) ∙ sym (stops _ _ (sym c.is_short.ensures ∙ c.if-not-is_short.true))

pub returns-then-not-is_short-2 : goal.returns-then-not-is_short-2
unfolding tags_short
returns-then-not-is_short-2 c format =
    ap Err (c.field_fault-then-not-is_short-2.ensures)
    ∙ sym (passes _ _ (sym c.is_short.ensures ∙ c.if-not-is_short.false) ∙ stops _ _ (sym c.is_short-2.ensures ∙ c.if-not-is_short-2.true))

pub returns-then-not-is_short-3 : goal.returns-then-not-is_short-3
unfolding tags_short
returns-then-not-is_short-3 c format =
    let two-kept : (format : ℕ) → let a = c.args in fault_in (tags_short format (fields_of a.self.now.line) a.table) ≡ fault_in (drop 2 (tags_short format (fields_of a.self.now.line) a.table)) = λ format. passes _ _ (sym c.is_short.ensures ∙ c.if-not-is_short.false) ∙ passes _ _ (sym c.is_short-2.ensures ∙ c.if-not-is_short-2.false) in
    ap Err (c.field_fault-then-not-is_short-3.ensures)
    ∙ sym (two-kept format ∙ stops _ _ (sym c.is_short-3.ensures ∙ c.if-not-is_short-3.true))

pub returns : goal.returns
unfolding tags_short
returns c format =
    let two-kept : (format : ℕ) → let a = c.args in fault_in (tags_short format (fields_of a.self.now.line) a.table) ≡ fault_in (drop 2 (tags_short format (fields_of a.self.now.line) a.table)) = λ format. passes _ _ (sym c.is_short.ensures ∙ c.if-not-is_short.false) ∙ passes _ _ (sym c.is_short-2.ensures ∙ c.if-not-is_short-2.false) in
    c.labels_short.ensures ∙ sym (two-kept format ∙ passes _ _ (sym c.is_short-3.ensures ∙ c.if-not-is_short-3.false))
