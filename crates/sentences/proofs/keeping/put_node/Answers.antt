-- `sentences::keeping::put_node` meets its contract: the record, then the pairs.
use native.Mathlib.Omega.{arith}
use mathlib.Core.Path.{ap, ◌∙◌}
use Rattle.rules.specs.Sheets.{field_place}
use Rattle.columns.specs.Splices.{splice}
use Rattle.sentence_sheet.specs.NodeRecords.{record_numbers}
use Rattle.sentence_sheet.specs.declared.NodeRecord.{NodeRecord}
use Rattle.sentences.proofs.keeping.put_node.Goals as goal

pub put_node-requires : goal.put_node-requires
put_node-requires c = let f = c.requires in (f.number, omega (arith, f.sheet_size))

pub put_pairs-requires : goal.put_pairs-requires
put_pairs-requires c =
    let f = c.requires in
    (f.whole, f.few, f.edges_size)

pub returns : goal.returns
returns c =
    let a = c.args in (
      c.put_node.ensures ∙ ap (λ (r : NodeRecord). splice (field_place 0 a.node.number) (record_numbers r) a.sheet.now) c.record_said.ensures,
      c.put_pairs.ensures,
    )

pub shape_of-sheet : goal.shape_of-sheet
shape_of-sheet c = c.put_node.auto.sheet

pub shape_of-edges : goal.shape_of-edges
shape_of-edges c = c.put_pairs.auto.edges
