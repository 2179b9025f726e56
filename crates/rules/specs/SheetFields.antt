-- Document 01, "The sheets": the names of the numbers of a sentence sheet, in their order. Whoever reads or prints a sheet goes by
-- them.
use Rattle.std.specs.Prelude.{ℕ, suc, ◌+◌, ◌*◌}

-- ---- the leading numbers: number, editor + 1, date, origin, comment start and length, words, phrases, secondary edges

abbrev pub number_place : ℕ
number_place = 0

abbrev pub editor_place : ℕ
editor_place = suc number_place

abbrev pub date_place : ℕ
date_place = suc editor_place

abbrev pub origin_place : ℕ
origin_place = suc date_place

abbrev pub remark_start : ℕ
remark_start = suc origin_place

abbrev pub remark_length : ℕ
remark_length = suc remark_start

abbrev pub words_place : ℕ
words_place = suc remark_length

abbrev pub phrases_place : ℕ
phrases_place = suc words_place

abbrev pub edges_place : ℕ
edges_place = suc phrases_place

abbrev pub leading_count : ℕ
leading_count = suc edges_place

-- ---- the fields of a node's record: start and length of word, tag, morphology, edge; parent; comment start and length

abbrev pub word_start : ℕ
word_start = 0

abbrev pub word_length : ℕ
word_length = suc word_start

abbrev pub tag_start : ℕ
tag_start = suc word_length

abbrev pub tag_length : ℕ
tag_length = suc tag_start

abbrev pub morphology_start : ℕ
morphology_start = suc tag_length

abbrev pub morphology_length : ℕ
morphology_length = suc morphology_start

abbrev pub edge_start : ℕ
edge_start = suc morphology_length

abbrev pub edge_length : ℕ
edge_length = suc edge_start

abbrev pub parent_place : ℕ
parent_place = suc edge_length

abbrev pub comment_start : ℕ
comment_start = suc parent_place

abbrev pub comment_length : ℕ
comment_length = suc comment_start

abbrev pub node_width : ℕ
node_width = suc comment_length

-- ---- where they stand: nine numbers, then 1,000 node records at the node's number

abbrev pub node_room : ℕ
node_room = 1000

-- the place of a field of a node
abbrev pub field_place : ℕ → ℕ → ℕ
field_place field node = leading_count + (node_width * node + field)
