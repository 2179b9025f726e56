-- The file that the program asks about, the parent that openings give, and what a writing gives. By computing.
use mathlib.Core.Path.{◌≡◌, refl}
use Prim.Native.Nat.{ℕ}
use mathlib.Core.List.{List}
use lib.ListN.{get_or, replicate}
use Rattle.rules.specs.Lists.{bytes, inserted, sorted}
use Rattle.rules.specs.Bytes.{ignored}
use Rattle.rules.specs.Texts.{right_trim, trim_from, front_bytes, behind_from}
use Rattle.rules.specs.Columns.{columns_from, fields, comment}
use Rattle.rules.specs.Numbers.{value_from, decimal}
use Rattle.rules.specs.Rules.{broken, checked}
use Rattle.rules.specs.Tables.{has_id, has_tag, known}
use Rattle.rules.specs.Rows.{origin_row, editor_row, tag_row}
use Rattle.rules.specs.Sentences.{heading_of, end_rules, end_of}
use Rattle.rules.specs.Pairs.{pairs, paired}
use Rattle.rules.specs.Nodes.{parents_written, tags_short, tags_known, parents_allowed, word_of, phrase_of}
use Rattle.rules.specs.Keywords.{format_of, table_opened, table_ended, first_column}
use Rattle.rules.specs.Lines.{at_start, behind_one, at_top, among_rows, among_nodes}
use Rattle.rules.specs.Phases.{line_at, taken, judged, after, step}
use Rattle.rules.specs.Sheets.{edge_list}
use Rattle.rules.specs.Survey.{survey_of}
use Rattle.rules.specs.SentenceFrom.{ended_line, heading_alone, sentence_from}
use Rattle.rules.specs.Opening.{after_opening, after_opening_at, no_edges}
use Rattle.rules.specs.Meaning.{meaning_of}
use Rattle.rules.specs.Tidy.{digits_within, digits_of, parted, tidy_text}
use Rattle.rules.specs.Writing.{tidy_of, after_writing}
use Rattle.list_owner.specs.Promise.{first_parent_of, first_parent_at, length_of}

abbrev pub asked : List ℕ
asked =
    bytes "#FORMAT 3\n#BOT ORIGIN\n1 lab\n#EOT ORIGIN\n#BOT EDITOR\n2 kim Kim\n#EOT EDITOR\n#BOS 7 2 0 1\nJa ITJ -- -- 500 SB 501\n#500 S -- -- 501\n#501 S -- -- 0\n#EOS 7\n"

pub parent_told : (first_parent_of (after_opening asked 7 (replicate 10759 0) (replicate 8192 0) (replicate 11009 0) no_edges)).parent ≡ 501
unfolding ignored right_trim trim_from front_bytes behind_from columns_from fields comment value_from decimal broken checked has_id has_tag known origin_row editor_row tag_row heading_of end_rules end_of pairs paired parents_written tags_short tags_known parents_allowed word_of phrase_of format_of table_opened table_ended first_column at_start behind_one at_top among_rows among_nodes line_at taken judged after step survey_of edge_list after_opening
parent_told = refl

pub parent_there : (first_parent_at (after_opening_at asked 74 (replicate 11009 0) no_edges)).parent ≡ 501
unfolding ignored right_trim trim_from front_bytes behind_from columns_from fields comment value_from decimal broken checked has_id has_tag known origin_row editor_row tag_row heading_of end_rules end_of pairs paired parents_written tags_short tags_known parents_allowed word_of phrase_of format_of table_opened table_ended first_column at_start behind_one at_top among_rows among_nodes line_at taken judged after step survey_of ended_line heading_alone sentence_from edge_list after_opening_at
parent_there = refl

pub length_told : (length_of (after_writing asked (replicate 10759 0) (replicate 8192 0) (replicate 11009 0) no_edges (replicate 256 0))).written ≡ 150
unfolding ignored right_trim trim_from front_bytes behind_from columns_from fields comment value_from decimal broken checked has_id has_tag known origin_row editor_row tag_row heading_of end_rules end_of pairs paired parents_written tags_short tags_known parents_allowed word_of phrase_of format_of table_opened table_ended first_column at_start behind_one at_top among_rows among_nodes line_at taken judged after step survey_of inserted sorted meaning_of digits_within digits_of parted tidy_text tidy_of after_writing
length_told = refl

pub tab_told : get_or (length_of (after_writing asked (replicate 10759 0) (replicate 8192 0) (replicate 11009 0) no_edges (replicate 256 0))).output 23 0 ≡ 9
unfolding ignored right_trim trim_from front_bytes behind_from columns_from fields comment value_from decimal broken checked has_id has_tag known origin_row editor_row tag_row heading_of end_rules end_of pairs paired parents_written tags_short tags_known parents_allowed word_of phrase_of format_of table_opened table_ended first_column at_start behind_one at_top among_rows among_nodes line_at taken judged after step survey_of inserted sorted meaning_of digits_within digits_of parted tidy_text tidy_of after_writing
tab_told = refl
