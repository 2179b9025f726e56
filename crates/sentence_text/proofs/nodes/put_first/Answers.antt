-- `nodes::put_first` meets its contract: a text of no bytes is absent.
-- No loop.
use native.Mathlib.Omega.{arith}
use mathlib.Core.Path.{ap₂, ◌∙◌}
use Rattle.printing.specs.Fields.{field_text}
use Rattle.printing.proofs.PutLaws.{put_then, put_as, put_wider}
use Rattle.sentence_text.proofs.LineTexts.{word_text_lem, phrase_text}
use Rattle.sentence_text.proofs.nodes.put_first.Goals as goal

pub returns-then-sheet-len-gt0 : goal.returns-then-sheet-len-gt0
returns-then-sheet-len-gt0 c =
    let a = c.args in
    let start = c.field_place-start.ensures in
    let len = c.field_place-len.ensures in
    put_as
    (ap₂ (field_text a.file.now a.sheet.now) start len
    ∙ word_text_lem a.file.now a.sheet.now a.node c.requires.1 (rw len at c.if-sheet-len-gt0.true))
    c.put_name.ensures

pub returns : goal.returns
returns c =
    let a = c.args in
    put_wider (omega arith)
    (put_as (phrase_text a.file.now a.sheet.now a.node _ c.field_place-len.ensures c.requires.1 (omega arith))
    (put_then c.put_byte-signed.ensures c.put_number.ensures))
