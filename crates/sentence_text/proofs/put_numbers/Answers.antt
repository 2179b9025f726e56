-- `sentence_text::put_numbers` meets its contract: column behind column.
-- No loop.
use Rattle.printing.proofs.PutLaws.{put_then, put_as}
use Rattle.sentence_text.proofs.LineTexts.{numbers_text_lem}
use Rattle.sentence_text.proofs.put_numbers.Goals as goal

pub returns : goal.returns
returns c =
    put_as (numbers_text_lem c.args.sheet.now)
    (put_then
    (put_then
    (put_then
    (put_then (put_then c.put_text-keyword.ensures c.put_number_column-numbered.ensures) c.put_byte-parted.ensures)
    c.put_id-edited.ensures)
    c.put_number_column-dated.ensures)
    c.put_number_column.ensures)
