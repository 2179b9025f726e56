-- `edges::put_edge` meets its contract: one column behind the other.
-- No loop.
use native.Mathlib.Omega.{arith}
use Rattle.sentence_text.proofs.EdgesAlong.{edge_text}
use Rattle.printing.proofs.PutLaws.{put_then, put_as, put_wider}
use Rattle.sentence_text.proofs.edges.put_edge.Goals as goal

pub returns : goal.returns
returns c = put_wider (omega arith) (put_as (edge_text c.args.file.now c.args.edges.now c.args.place) (put_then c.put_field-labelled.ensures c.put_number_column.ensures))
