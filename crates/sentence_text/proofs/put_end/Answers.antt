-- `sentence_text::put_end` meets its contract: column behind column.
-- No loop.
use Rattle.printing.proofs.PutLaws.{put_then, put_as}
use Rattle.rules.specs.Lists.{bytes}
use Rattle.rules.specs.Tidy.{digits_of}
use Rattle.printing.proofs.LineLaws.{keyword_line_lem}
use Rattle.sentence_text.proofs.put_end.Goals as goal

pub returns : goal.returns
returns c = put_as (keyword_line_lem (bytes "#EOS") (digits_of c.args.number)) (put_then (put_then c.put_text-keyword.ensures c.put_number_column-numbered.ensures) c.put_byte.ensures)
