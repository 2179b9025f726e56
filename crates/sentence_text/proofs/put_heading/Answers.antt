-- `sentence_text::put_heading` meets its contract: numbers, comment and newline are the line.
-- No loop.
use Rattle.printing.proofs.PutLaws.{put_then, put_as}
use Rattle.sentence_text.proofs.LineTexts.{heading_text}
use Rattle.sentence_text.proofs.put_heading.Goals as goal

pub returns : goal.returns
returns c =
    put_as (heading_text c.args.file.now c.args.sheet.now)
    (put_then (put_then c.put_numbers-numbered.ensures c.put_note-noted.ensures) c.put_byte.ensures)
