-- `sentences::pairs::put_pairs` meets its contract: what is still to be put makes the list that all pairs make.
use Rattle.nodes.specs.NodeLines.{fields_of}
use Rattle.sentences.proofs.PairEdges.{Putting}
use Rattle.sentences.proofs.pairs.put_pairs.Given as goal

abbrev pub invariant-loop-j : goal.invariant-loop-j
invariant-loop-j l = Putting (fields_of l.line) l.node.number l.from l.initial.edges l.j l.edges
