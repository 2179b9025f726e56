-- The sheets of the file of `ExampleFile`, entry by entry: its tables, its first sentence, that sentence's secondary edges; the
-- table sheet of a file refused inside a table; and where sentences begin. By computing.
use Prim.Native.Nat.{ℕ}
use mathlib.Core.Path.{◌≡◌, refl}
use Rattle.std.specs.Prelude.{Option, None, Some}
use mathlib.Core.List.{List, [], ◌∷◌, ◌++◌}
use lib.ListN.{replicate}
use lib.Dec.{T}
use Rattle.rules.specs.Lists.{bytes, same}
use Rattle.rules.specs.Bytes.{ignored}
use Rattle.rules.specs.Texts.{right_trim, trim_from, front_bytes, behind_from}
use Rattle.rules.specs.Columns.{columns_from, fields, comment}
use Rattle.rules.specs.Numbers.{value_from, decimal}
use Rattle.rules.specs.Rules.{broken, checked}
use Rattle.rules.specs.Tables.{has_id, has_tag, known}
use Rattle.rules.specs.Rows.{origin_row, editor_row, tag_row}
use Rattle.rules.specs.Sentences.{Sentence, heading_of, end_rules, end_of}
use Rattle.rules.specs.Pairs.{pairs, paired}
use Rattle.rules.specs.Nodes.{parents_written, tags_short, tags_known, parents_allowed, word_of, phrase_of}
use Rattle.rules.specs.Keywords.{format_of, table_opened, table_ended, first_column}
use Rattle.rules.specs.Lines.{at_start, behind_one, at_top, among_rows, among_nodes}
use Rattle.rules.specs.Phases.{line_at, taken, judged, after, step}
use Rattle.rules.specs.Sheets.{rows_room, table_sheet, sentence_sheet, EdgeRecord, edge_list}
use Rattle.rules.specs.Survey.{survey_of}
use Rattle.rules.specs.Opening.{sentence_of}
use Rattle.rules.specs.Index.{beginnings}
use Rattle.rules.proofs.CheckedByHand.{file_a}
use Rattle.rules.proofs.ExampleFile.{file_b}

-- ---- the table sheet: seven counts, then each table's rows, and zeros

abbrev pub zeros : ℕ → List ℕ
zeros n = replicate n 0

abbrev pub table_sheet_b : List ℕ
table_sheet_b =
    (3 ∷ 3 ∷ 5 ∷ 2 ∷ 3 ∷ 3 ∷ 2 ∷ [])
    ++ (8 ∷ 55 ∷ 4 ∷ 64 ∷ 8 ∷ 0 ∷ 3 ∷ 77 ∷ 9 ∷ 0 ∷ 0 ∷ 0 ∷ [])
    ++ zeros 1524
    ++ (5 ∷ 113 ∷ 3 ∷ 117 ∷ 7 ∷ 0 ∷ 0 ∷ 128 ∷ 4 ∷ 133 ∷ 6 ∷ 0 ∷ [])
    ++ zeros 1524
    ++ (0 ∷ 168 ∷ 7 ∷ 178 ∷ 9 ∷ 0 ∷ 1 ∷ 190 ∷ 2 ∷ 195 ∷ 4 ∷ 0 ∷ 2 ∷ 202 ∷ 2 ∷ 207 ∷ 4 ∷ 1 ∷ 3 ∷ 214 ∷ 2 ∷ 219 ∷ 4 ∷ 0 ∷ [])
    ++ zeros 1512
    ++ (2 ∷ 253 ∷ 6 ∷ 260 ∷ 10 ∷ 0 ∷ [])
    ++ zeros 1530
    ++ (2 ∷ 347 ∷ 1 ∷ 349 ∷ 6 ∷ 0 ∷ 3 ∷ 358 ∷ 2 ∷ 361 ∷ 11 ∷ 0 ∷ [])
    ++ zeros 1524
    ++ (2 ∷ 401 ∷ 2 ∷ 404 ∷ 7 ∷ 0 ∷ 3 ∷ 414 ∷ 2 ∷ 417 ∷ 4 ∷ 0 ∷ [])
    ++ zeros 1524
    ++ (2 ∷ 303 ∷ 2 ∷ 306 ∷ 9 ∷ 0 ∷ [])
    ++ zeros 1530

pub tables_of_b : T (same (table_sheet (survey_of file_b).tables) table_sheet_b)
unfolding ignored right_trim trim_from front_bytes behind_from columns_from fields comment value_from decimal broken checked has_id has_tag known origin_row editor_row tag_row heading_of end_rules end_of pairs paired parents_written tags_short tags_known parents_allowed word_of phrase_of format_of table_opened table_ended first_column at_start behind_one at_top among_rows among_nodes line_at taken judged after step survey_of rows_room table_sheet
tables_of_b = tt

-- ---- a file refused inside EDITOR, by a repeated id: its closed ORIGIN is on the sheet, and nothing of EDITOR

abbrev pub inside_editor : List ℕ
inside_editor = bytes "#FORMAT 3\n#BOT ORIGIN\n1 lab\n7 press %% Berlin\n#EOT ORIGIN\n#BOT EDITOR\n2 kim Kim\n2 lee Lee\n"

abbrev sheet_inside_editor : List ℕ
sheet_inside_editor = (3 ∷ 0 ∷ 0 ∷ 0 ∷ 0 ∷ 0 ∷ 0 ∷ []) ++ (2 ∷ 24 ∷ 3 ∷ 0 ∷ 0 ∷ 0 ∷ 8 ∷ 30 ∷ 5 ∷ 39 ∷ 6 ∷ 0 ∷ []) ++ zeros 10740

pub tables_inside_editor : ((survey_of inside_editor).refusal ≡ 11) × ((survey_of inside_editor).place ≡ 80)
    × T (same (table_sheet (survey_of inside_editor).tables) sheet_inside_editor)
unfolding ignored right_trim trim_from front_bytes behind_from columns_from fields comment value_from decimal broken checked has_id has_tag known origin_row editor_row tag_row heading_of end_rules end_of pairs paired parents_written tags_short tags_known parents_allowed word_of phrase_of format_of table_opened table_ended first_column at_start behind_one at_top among_rows among_nodes line_at taken judged after step survey_of rows_room table_sheet
tables_inside_editor = (refl, refl, tt)

-- ---- sentence 12: number, editor + 1, date, origin, comment, words, phrases, edges; nodes 0, 1, 500, 501, 502

abbrev pub sheet_of : Option Sentence → List ℕ
sheet_of None = []
sheet_of (Some s) = sentence_sheet s

abbrev pub sheet12 : List ℕ
sheet12 =
    (12 ∷ 5 ∷ 99 ∷ 7 ∷ 455 ∷ 5 ∷ 2 ∷ 3 ∷ 2 ∷ [])
    ++ (462 ∷ 3 ∷ 466 ∷ 2 ∷ 469 ∷ 6 ∷ 476 ∷ 2 ∷ 500 ∷ 0 ∷ 0 ∷ [])
    ++ (483 ∷ 2 ∷ 486 ∷ 2 ∷ 489 ∷ 2 ∷ 492 ∷ 2 ∷ 502 ∷ 502 ∷ 6 ∷ [])
    ++ zeros 5478
    ++ (0 ∷ 0 ∷ 540 ∷ 2 ∷ 543 ∷ 2 ∷ 546 ∷ 2 ∷ 501 ∷ 0 ∷ 0 ∷ [])
    ++ (0 ∷ 0 ∷ 572 ∷ 2 ∷ 575 ∷ 2 ∷ 578 ∷ 2 ∷ 502 ∷ 0 ∷ 0 ∷ [])
    ++ (0 ∷ 0 ∷ 525 ∷ 1 ∷ 527 ∷ 2 ∷ 530 ∷ 2 ∷ 0 ∷ 0 ∷ 0 ∷ [])
    ++ zeros 5467

pub sheet_of_12 : T (same (sheet_of (sentence_of 12 (survey_of file_b).handed)) sheet12)
unfolding ignored right_trim trim_from front_bytes behind_from columns_from fields comment value_from decimal broken checked has_id has_tag known origin_row editor_row tag_row heading_of end_rules end_of pairs paired parents_written tags_short tags_known parents_allowed word_of phrase_of format_of table_opened table_ended first_column at_start behind_one at_top among_rows among_nodes line_at taken judged after step survey_of sentence_sheet
sheet_of_12 = tt

-- ---- its secondary edges: child, label start and length, parent

abbrev pub flat : List EdgeRecord → List ℕ
flat [] = []
flat (e ∷ es) = e.child ∷ e.label_start ∷ e.label_length ∷ e.parent ∷ flat es

abbrev pub edges_of : Option Sentence → List ℕ
edges_of None = []
edges_of (Some s) = flat (edge_list s)

pub edges_of_12 : T (same (edges_of (sentence_of 12 (survey_of file_b).handed)) ((500 ∷ 553 ∷ 2 ∷ 502 ∷ 500 ∷ 560 ∷ 2 ∷ 501 ∷ []) ++ zeros 2040))
unfolding ignored right_trim trim_from front_bytes behind_from columns_from fields comment value_from decimal broken checked has_id has_tag known origin_row editor_row tag_row heading_of end_rules end_of pairs paired parents_written tags_short tags_known parents_allowed word_of phrase_of format_of table_opened table_ended first_column at_start behind_one at_top among_rows among_nodes line_at taken judged after step survey_of edge_list
edges_of_12 = tt

-- ---- where sentences begin: one more than the place of #BOS

pub begins_at_b : T (same (beginnings 0 14 (survey_of file_b).handed) (0 ∷ 0 ∷ 0 ∷ 594 ∷ 0 ∷ 0 ∷ 0 ∷ 0 ∷ 0 ∷ 0 ∷ 0 ∷ 0 ∷ 438 ∷ 0 ∷ []))
unfolding ignored right_trim trim_from front_bytes behind_from columns_from fields comment value_from decimal broken checked has_id has_tag known origin_row editor_row tag_row heading_of end_rules end_of pairs paired parents_written tags_short tags_known parents_allowed word_of phrase_of format_of table_opened table_ended first_column at_start behind_one at_top among_rows among_nodes line_at taken judged after step survey_of beginnings
begins_at_b = tt

pub begins_at_a : T (same (beginnings 0 9 (survey_of file_a).handed) (0 ∷ 0 ∷ 0 ∷ 0 ∷ 0 ∷ 0 ∷ 0 ∷ 75 ∷ 0 ∷ []))
unfolding ignored right_trim trim_from front_bytes behind_from columns_from fields comment value_from decimal broken checked has_id has_tag known origin_row editor_row tag_row heading_of end_rules end_of pairs paired parents_written tags_short tags_known parents_allowed word_of phrase_of format_of table_opened table_ended first_column at_start behind_one at_top among_rows among_nodes line_at taken judged after step survey_of beginnings
begins_at_a = tt
