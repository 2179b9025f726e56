-- `sentence_sheet::put_node` meets its contract: the eleven numbers are stored at the place of the record's first field.
use Rattle.columns.specs.Splices.{splice}
use Rattle.sentence_sheet.specs.NodeRecords.{record_numbers}
use Prim.Native.Nat.{ℕ}
use mathlib.Core.Path.{ap, ◌∙◌}
use Rattle.sentence_sheet.proofs.put_node.Goals as goal

pub returns : goal.returns
returns c =
    let a = c.args in
    c.put.ensures ∙ ap (λ (p : ℕ). splice p (record_numbers a.node) a.sheet.now) c.field_place.ensures
