-- `edges::forget_firsts` meets its contract: the entry of each node that no edge from here on names is 0.
use Prim.Native.Nat.{◌-◌, ◌*◌}
use Rattle.sentence_sheet.specs.FlatEdges.{edge_width}
use Rattle.sentence_text.specs.EdgesRead.{edges_from}
use Rattle.sentence_text.proofs.ForgottenFirsts.{Forgetting}
use Rattle.sentence_text.proofs.edges.forget_firsts.Given as goal

abbrev pub invariant-loop-k : goal.invariant-loop-k
invariant-loop-k l = Forgetting (edges_from l.edges (edge_width * l.k) (l.count - l.k)) l.firsts
