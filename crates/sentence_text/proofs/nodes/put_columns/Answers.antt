-- `nodes::put_columns` meets its contract: column behind column.
-- No loop.
use Prim.Native.Nat.{ℕ}
use mathlib.Core.Path.{ap, ◌∙◌}
use mathlib.Core.List.{◌∷◌, ◌++◌}
use lib.ListN.{get_or}
use Rattle.rules.specs.SheetFields.{tag_start, morphology_start, edge_start}
use Rattle.rules.specs.Tidy.{tab, digits_of}
use Rattle.printing.proofs.PutLaws.{put_then, put_as}
use Rattle.sentence_text.specs.SheetRead.{node_text}
use Rattle.sentence_text.proofs.LineTexts.{columns_text_lem}
use Rattle.sentence_text.proofs.nodes.put_columns.Goals as goal

pub returns : goal.returns
returns c =
    let a = c.args in
    put_as
    (ap (λ (i : ℕ). (tab ∷ node_text a.file.now a.sheet.now tag_start a.node) ++ (tab ∷ node_text a.file.now a.sheet.now morphology_start a.node) ++ (tab ∷ node_text a.file.now a.sheet.now edge_start a.node) ++ (tab ∷ digits_of (get_or a.sheet.now i 0))) c.field_place-place.ensures
    ∙ columns_text_lem a.file.now a.sheet.now a.node)
    (put_then
    (put_then (put_then c.put_text-tagged.ensures c.put_text-formed.ensures) c.put_text-labelled.ensures)
    c.put_number_column.ensures)
