use Prim.Native.Nat.{◌+◌, ◌*◌}
use Rattle.rules.specs.Rules.{Rule}
use Rattle.rules.specs.Pairs.{Pair}
use Rattle.nodes.specs.NodeLines.{fields_of, AsksPairs}
use Rattle.nodes.proofs.PairWalks.{Along}
use Rattle.nodes.proofs.node_lines.NodeLine.ask_pairs.Given as goal

abbrev pub invariant-loop-j : goal.invariant-loop-j
invariant-loop-j g l =
    (q : Pair → Rule) → AsksPairs (fields_of l.self.line) l.number l.first (goal.F-post g l.holds) q → Along q (fields_of l.self.line) (5 + 2 * l.j)
