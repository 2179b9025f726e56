-- `nodes::put_rest` meets its contract: the comment, then the newline.
-- No loop.
use Prim.Native.Nat.{ℕ}
use mathlib.Core.Path.{ap₂, ◌∙◌}
use mathlib.Core.List.{[], ◌∷◌, ◌++◌}
use Rattle.rules.specs.Bytes.{newline}
use Rattle.rules.specs.Tidy.{tab, commented}
use Rattle.printing.specs.Further.{further, text_of}
use Rattle.printing.specs.Fields.{field_text}
use Rattle.printing.proofs.PutLaws.{put_then, put_as}
use Rattle.sentence_text.proofs.LineTexts.{rest_text_lem}
use Rattle.sentence_text.proofs.nodes.put_rest.Goals as goal

pub returns : goal.returns
returns c =
    let a = c.args in
    put_as
    (ap₂ (λ (i j : ℕ). further tab (commented (text_of (field_text a.file.now a.sheet.now i j))) ++ (newline ∷ [])) c.field_place-start.ensures c.field_place-len.ensures
    ∙ rest_text_lem a.file.now a.sheet.now a.node)
    (put_then c.put_note-noted.ensures c.put_byte.ensures)
