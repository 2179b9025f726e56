-- `edges::put_edges` meets its contract: what is put and what is left are the edges that stand together (`EdgesAlong.Going`).
use Rattle.sentence_text.proofs.EdgesAlong.{Going}
use Rattle.sentence_text.proofs.edges.put_edges.Given as goal

abbrev pub invariant-loop-k : goal.invariant-loop-k
invariant-loop-k l = Going l.file l.edges l.node l.first l.count l.at l.initial.out l.k l.end l.out
