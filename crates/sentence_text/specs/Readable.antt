-- What makes a sentence sheet and its list readable: counts within their limits, children that are nodes, and texts that
-- stand inside the file.
use Rattle.std.specs.Prelude.{ℕ, ◌+◌, ◌*◌, ◌≤◌, ◌<◌, ◌≡◌, List, length, get_or}
use Rattle.rules.specs.Numbers.{edge_limit}
use Rattle.rules.specs.SheetFields.{remark_start, remark_length, word_start, tag_start, morphology_start, edge_start, comment_start, node_room, field_place}
use Rattle.rules.specs.Sheets.{sentence_sheet_size}
use Rattle.sentence_sheet.specs.FlatEdges.{edge_width}
use Rattle.printing.specs.Fields.{text_most, FieldInside}
use Rattle.sentence_text.specs.SheetRead.{words_counted, phrases_counted, edges_counted}

-- a text of a node, by the field of its start
abbrev pub TextInside : List ℕ → List ℕ → ℕ → ℕ → Type 0
TextInside file sheet field k = FieldInside file sheet (field_place field k) (field_place (field + 1) k)

-- the texts of a node
pub record NodeInside (file sheet : List ℕ) (k : ℕ) : Type 0 where
  pub word : TextInside file sheet word_start k
  pub tag : TextInside file sheet tag_start k
  pub morphology : TextInside file sheet morphology_start k
  pub edge : TextInside file sheet edge_start k
  pub comment : TextInside file sheet comment_start k

-- the edge that stands from a place on
pub record EdgeInside (file list : List ℕ) (at : ℕ) : Type 0 where
  pub child : get_or list at 0 < node_room
  pub room : at + edge_width ≤ length list
  pub label : FieldInside file list (at + 1) (at + 2)

abbrev pub EdgesInside : List ℕ → List ℕ → ℕ → Type 0
EdgesInside file list count = (i : ℕ) → i < count → EdgeInside file list (edge_width * i)

pub record SheetReadable (file sheet list : List ℕ) : Type 0 where
  pub size : length sheet ≡ sentence_sheet_size
  pub words : words_counted sheet ≤ 500
  pub phrases : phrases_counted sheet ≤ 500
  pub few : edges_counted sheet ≤ edge_limit
  pub room : edge_width * edges_counted sheet ≤ length list
  pub comment : FieldInside file sheet remark_start remark_length
  pub each_node : (k : ℕ) → k < node_room → NodeInside file sheet k
  pub each_edge : EdgesInside file list (edges_counted sheet)

-- ---- the most bytes that are printed

-- tab, label, tab, number
abbrev pub edge_most : ℕ
edge_most = 12 + text_most

-- five texts, five tabs and a number, the edges, comment signs and newline
abbrev pub node_most : ℕ
node_most = 19 + 5 * text_most + edge_limit * edge_most

abbrev pub heading_most : ℕ
heading_most = 53 + text_most

abbrev pub end_most : ℕ
end_most = 16

abbrev pub sentence_most : ℕ
sentence_most = heading_most + node_most * node_room + end_most
