-- The records that plain numbers make, four each.
use Rattle.std.specs.Prelude.{ℕ, ◌+◌, ◌*◌, List, map, get_or, eqb}
use Rattle.rules.specs.Lists.{pick, counting}
use Rattle.edges.specs.declared.Edge.{Edge}

abbrev pub edge_at : List ℕ → ℕ → Edge
edge_at ns k =
    record {
      child = get_or ns (k * 4) 0;
      label = get_or ns (k * 4 + 1) 0;
      label_len = get_or ns (k * 4 + 2) 0;
      parent = get_or ns (k * 4 + 3) 0;
    }

-- as many as count
unfoldable pub first_edges : List ℕ → ℕ → List Edge
first_edges ns count = map (edge_at ns) (counting 0 count)

-- how many records an answer fills
abbrev pub filled_by : ℕ → ℕ
filled_by answer = pick (eqb answer 1) 0 (pick (eqb answer 2) 0 512)
