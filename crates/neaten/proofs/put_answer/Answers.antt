-- Column behind column, and the place behind the last.
use Rattle.rules.specs.Tidy.{digits_of}
use Rattle.printing.proofs.PutLaws.{put_then, put_as}
use Rattle.neaten.proofs.AnswerLine.{four_columns, counted}
use Rattle.neaten.proofs.put_answer.Goals as goal

pub returns : goal.returns
returns c =
    let told = c.args.told in
    let line =
    put_as (four_columns (digits_of told.refusal) (digits_of told.place) (digits_of told.sentences) (digits_of told.sound_end))
    (put_then
    (put_then
    (put_then (put_then c.put_number-refused.ensures c.put_number_column-placed.ensures) c.put_number_column-counted.ensures)
    c.put_number_column-ended.ensures)
    c.put_byte.ensures) in
    (line, counted line c.requires)
