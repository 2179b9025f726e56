-- The list of secondary edges lent as plain numbers (rules/Layout's flat_list), taken for records again: four for each of the 512.
use Rattle.std.specs.Prelude.{ℕ, zero, suc, ◌*◌, List, [], ◌∷◌, drop, get_or}
use Rattle.rules.specs.Numbers.{edge_limit}
use Rattle.rules.specs.Sheets.{EdgeRecord}
use Rattle.sentence_sheet.specs.FlatEdges.{edge_width}

abbrev pub first_record : List ℕ → EdgeRecord
first_record ns = record { child = get_or ns 0 0; label_start = get_or ns 1 0; label_length = get_or ns 2 0; parent = get_or ns 3 0 }

-- as many records as count
unfoldable pub edge_records : ℕ → List ℕ → List EdgeRecord
edge_records zero ns = []
edge_records (suc count) ns = first_record ns ∷ edge_records count (drop edge_width ns)

abbrev pub flat_size : ℕ
flat_size = edge_limit * edge_width
