-- `printing::put_keyword` meets its contract: column behind column.
-- No loop.
use Rattle.printing.proofs.PutLaws.{put_then, put_as}
use Rattle.printing.proofs.LineLaws.{keyword_line_lem}
use Rattle.printing.proofs.put_keyword.Goals as goal

pub returns : goal.returns
returns c = put_as (keyword_line_lem c.args.keyword.now c.args.name.now) (put_then (put_then c.put_text-signed.ensures c.put_column-named.ensures) c.put_byte.ensures)
