-- The first records of the list are filled, and the others are still what they were.
use Rattle.std.proofs.Common.{◌≡◌, ◌++◌, drop}
use Rattle.edges.specs.Edges.{first_edges}
use Rattle.edges.proofs.fill.Given as goal

abbrev pub invariant-loop-k : goal.invariant-loop-k
invariant-loop-k l = l.edges ≡ first_edges l.numbers l.k ++ drop l.k l.fn.edges
