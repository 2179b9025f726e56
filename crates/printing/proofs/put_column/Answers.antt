-- `printing::put_column` meets its contract: one text behind the other.
-- No loop.
use Rattle.printing.proofs.PutLaws.{put_then}
use Rattle.printing.proofs.put_column.Goals as goal

pub returns : goal.returns
returns c = put_then c.put_byte-parted.ensures c.put_text.ensures
