-- The secondary edges of a node as its line gives them, each as its four numbers.
use Rattle.std.specs.Prelude.{ℕ, List, map}
use Rattle.rules.specs.Texts.{Text}
use Rattle.rules.specs.Pairs.{as_edge}
use Rattle.sentence_sheet.specs.FlatEdges.{edge_numbers}
use Rattle.nodes.specs.NodeLines.{pairs_from}

-- those from a field on
abbrev pub pair_edges : List Text → ℕ → ℕ → List (List ℕ)
pair_edges fs child k = map (edge_numbers child) (map as_edge (pairs_from fs k))
