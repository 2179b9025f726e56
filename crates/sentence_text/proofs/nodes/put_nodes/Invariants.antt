-- `nodes::put_nodes` meets its contract: the lines of as many nodes as were passed are put.
use Prim.Native.Nat.{◌-◌, ◌*◌}
use Rattle.rules.specs.Lists.{counting}
use Rattle.printing.specs.Over.{Put}
use Rattle.sentence_text.specs.SheetRead.{node_in, edges_on_sheet}
use Rattle.sentence_text.specs.Readable.{node_most}
use Rattle.sentence_text.proofs.NodesAlong.{lines_of}
use Rattle.sentence_text.proofs.nodes.put_nodes.Given as goal

abbrev pub invariant-loop-node : goal.invariant-loop-node
invariant-loop-node l =
    Put (node_most * (l.node - l.from)) (lines_of (node_in l.file l.sheet (edges_on_sheet l.sheet l.list)) (counting l.from (l.node - l.from))) l.at l.initial.out l.end l.out
