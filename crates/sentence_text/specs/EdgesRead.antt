-- The list of secondary edges read back. Document 01, "The sheets": child, label start and length, parent, in file order of
-- their lines, so that those of one node stand together.
use Rattle.std.specs.Prelude.{ℕ, zero, suc, ◌+◌, ◌<◌, ◌≡◌, List, [], ◌∷◌, map, length, get_or, take, drop, eqb}
use Rattle.rules.specs.Lists.{pick, joined}
use Rattle.rules.specs.Sentences.{Edge}
use Rattle.rules.specs.SheetFields.{node_room}
use Rattle.rules.specs.Sheets.{EdgeRecord}
use Rattle.rules.specs.Tidy.{tab, edge_columns}
use Rattle.sentence_sheet.specs.FlatEdges.{edge_width}
use Rattle.printing.specs.Further.{further, text_of}

abbrev pub edge_record_at : List ℕ → ℕ → EdgeRecord
edge_record_at list at =
    record { child = get_or list at 0; label_start = get_or list (at + 1) 0; label_length = get_or list (at + 2) 0; parent = get_or list (at + 3) 0 }

-- as many edges as count, from a place on
unfoldable pub edges_from : List ℕ → ℕ → ℕ → List EdgeRecord
edges_from list at zero = []
edges_from list at (suc count) = edge_record_at list at ∷ edges_from list (at + edge_width) count

-- those of a child that stand in front
unfoldable pub together : ℕ → List EdgeRecord → List EdgeRecord
together k [] = []
together k (e ∷ es) =
    let more = e ∷ together k es in
    pick (eqb e.child k) more []

-- those of a child: from its first on, as many as stand together
unfoldable pub own_edges : ℕ → List EdgeRecord → List EdgeRecord
unfolding together
own_edges k [] = []
own_edges k (e ∷ es) =
    let later = own_edges k es in
    pick (eqb e.child k) (together k (e ∷ es)) later

-- the place of a child's first edge, edges counted from i; 0 if it has none
unfoldable pub first_from : ℕ → ℕ → List EdgeRecord → ℕ
first_from i k [] = 0
first_from i k (e ∷ es) =
    let later = first_from (suc i) k es in
    pick (eqb e.child k) i later

-- a list tells the first edge of each node
pub record Firsts (es : List EdgeRecord) (i : ℕ) (firsts : List ℕ) : Type 0 where
  pub size : length firsts ≡ node_room
  pub first : (k : ℕ) → k < node_room → get_or firsts k 0 ≡ first_from i k es

-- ---- as they are printed

abbrev pub edge_in : List ℕ → EdgeRecord → Edge
edge_in file e = record { label = text_of (take e.label_length (drop e.label_start file)); parent = e.parent }

abbrev pub edges_text : List Edge → List ℕ
edges_text es = further tab (joined (map edge_columns es))
