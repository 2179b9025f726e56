-- The list of secondary edges as plain numbers: four for each edge, in the order in which they are met, then zeros.
use Rattle.std.specs.Prelude.{ℕ, ◌*◌, List, [], ◌∷◌, map, length}
use Rattle.rules.specs.Lists.{joined}
use Rattle.rules.specs.Numbers.{edge_limit}
use Rattle.rules.specs.Sentences.{Edge, Node}
use Rattle.rules.specs.Sheets.{filled_up}

abbrev pub edge_width : ℕ
edge_width = 4

abbrev pub edge_numbers : ℕ → Edge → List ℕ
edge_numbers child e = child ∷ e.label.start ∷ length e.label.bytes ∷ e.parent ∷ []

-- the edges of nodes, one behind the other
abbrev pub edges_among : List Node → List (List ℕ)
edges_among ns = joined (map (λ (n : Node). map (edge_numbers n.number) n.secondary) ns)

unfoldable pub flat_edges : List (List ℕ) → List ℕ
flat_edges es = filled_up (edge_limit * edge_width) 0 (joined es)
