-- A sheet and a list in which a sentence used no more than its nine numbers, the records of its words and of its phrases,
-- numbered from 500 without a gap, and its secondary edges.
use Rattle.std.specs.Prelude.{ℕ, ◌+◌, ◌*◌, ◌≤◌, ◌<◌, ◌≡◌, List, length, get_or}
use Rattle.rules.specs.Numbers.{edge_limit}
use Rattle.rules.specs.Sheets.{node_room, node_width, field_place, sentence_sheet_size}
use Rattle.sentence_sheet.specs.FlatEdges.{edge_width}

-- the record of a node is zero
abbrev pub Unused : List ℕ → ℕ → Type 0
Unused sheet node = (field : ℕ) → field < node_width → get_or sheet (field_place field node) 0 ≡ 0

pub record UsedOnly (sheet edges : List ℕ) : Type 0 where
  pub sheet_size : length sheet ≡ sentence_sheet_size
  pub edges_size : length edges ≡ edge_limit * edge_width
  pub words : get_or sheet 6 0 ≤ 500
  pub phrases : get_or sheet 7 0 ≤ 500
  pub few : get_or sheet 8 0 ≤ edge_limit
  pub no_word : (node : ℕ) → get_or sheet 6 0 ≤ node → node < 500 → Unused sheet node
  pub no_phrase : (node : ℕ) → 500 + get_or sheet 7 0 ≤ node → node < node_room → Unused sheet node
  pub no_edge : (k : ℕ) → edge_width * get_or sheet 8 0 ≤ k → get_or edges k 0 ≡ 0
