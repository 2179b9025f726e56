-- `edges::note_firsts` meets its contract: the edges from those noted on have their first places noted.
use Prim.Native.Nat.{◌-◌, ◌*◌}
use Rattle.sentence_sheet.specs.FlatEdges.{edge_width}
use Rattle.sentence_text.specs.EdgesRead.{edges_from, Firsts}
use Rattle.sentence_text.proofs.edges.note_firsts.Given as goal

abbrev pub invariant-loop-k : goal.invariant-loop-k
invariant-loop-k l = Firsts (edges_from l.edges (edge_width * l.k) (l.count - l.k)) l.k l.firsts
