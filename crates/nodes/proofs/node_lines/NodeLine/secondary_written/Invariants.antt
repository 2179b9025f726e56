use mathlib.Core.Path.{◌≡◌}
use Prim.Native.Nat.{◌+◌, ◌*◌}
use Rattle.rules.specs.Highest.{larger}
use Rattle.nodes.specs.NodeLines.{fields_of, pairs_from, parent_written, highest_of}
use Rattle.nodes.proofs.PairWalks.{Along}
use Rattle.nodes.proofs.node_lines.NodeLine.secondary_written.Given as goal

abbrev pub invariant-loop-j : goal.invariant-loop-j
invariant-loop-j l =
    Along parent_written (fields_of l.self.line) (5 + 2 * l.j)
    × (larger l.highest (highest_of (pairs_from (fields_of l.self.line) (5 + 2 * l.j))) ≡ larger l.parent (highest_of (pairs_from (fields_of l.self.line) 5)))
