-- Wrong readings of how long a tidy text may be, each refuted by a file: of one ORIGIN row with its %% glued to its texts the tidy
-- text is 2 bytes longer than the file, of 256 such rows 512. By computing.
use Prim.Native.Nat.{ℕ, ◌+◌, ◌≤◌}
use native.Mathlib.Omega.{arith}
use mathlib.Core.Path.{◌≡◌, refl}
use mathlib.Core.List.{List, ◌++◌, map}
use lib.ListN.{length}
use Rattle.rules.specs.Lists.{bytes, joined, counting, inserted, sorted}
use Rattle.rules.specs.Bytes.{ignored}
use Rattle.rules.specs.Texts.{right_trim, trim_from, front_bytes, behind_from}
use Rattle.rules.specs.Columns.{columns_from, fields, comment}
use Rattle.rules.specs.Numbers.{row_limit, value_from, decimal}
use Rattle.rules.specs.Rules.{broken, checked}
use Rattle.rules.specs.Tables.{has_id, has_tag, known}
use Rattle.rules.specs.Rows.{origin_row, editor_row, tag_row}
use Rattle.rules.specs.Sentences.{heading_of, end_rules, end_of}
use Rattle.rules.specs.Pairs.{pairs, paired}
use Rattle.rules.specs.Nodes.{parents_written, tags_short, tags_known, parents_allowed, word_of, phrase_of}
use Rattle.rules.specs.Keywords.{format_of, table_opened, table_ended, first_column}
use Rattle.rules.specs.Lines.{at_start, behind_one, at_top, among_rows, among_nodes}
use Rattle.rules.specs.Phases.{line_at, taken, judged, after, step}
use Rattle.rules.specs.Survey.{survey_of}
use Rattle.rules.specs.Meaning.{meaning_of}
use Rattle.rules.specs.Tidy.{digits_within, digits_of, parted, tidy_text}
use Rattle.rules.specs.Writing.{tidy_of}

-- ---- one row

abbrev pub one_glued : List ℕ
one_glued = bytes "#FORMAT 3\n#BOT ORIGIN\n1 a%%b\n#EOT ORIGIN\n#BOT EDITOR\n#EOT EDITOR\n"

pub one_accepted : (survey_of one_glued).refusal ≡ 0
unfolding ignored right_trim trim_from front_bytes behind_from columns_from fields comment value_from decimal broken checked has_id has_tag known origin_row editor_row tag_row heading_of end_rules end_of pairs paired parents_written tags_short tags_known parents_allowed word_of phrase_of format_of table_opened table_ended first_column at_start behind_one at_top among_rows among_nodes line_at taken judged after step survey_of
one_accepted = refl

pub one_longer : length (tidy_of one_glued) ≡ length one_glued + 2
unfolding ignored right_trim trim_from front_bytes behind_from columns_from fields comment value_from decimal broken checked has_id has_tag known origin_row editor_row tag_row heading_of end_rules end_of pairs paired parents_written tags_short tags_known parents_allowed word_of phrase_of format_of table_opened table_ended first_column at_start behind_one at_top among_rows among_nodes line_at taken judged after step survey_of inserted sorted meaning_of digits_within digits_of parted tidy_text tidy_of
one_longer = refl

-- ---- as many rows as a table may have

-- rows with the ids from 1 on
unfoldable pub rows_glued : ℕ → List ℕ
unfolding digits_of
rows_glued n = joined (map (λ (id : ℕ). digits_of id ++ bytes " a%%b\n") (counting 1 n))

unfoldable pub all_glued : List ℕ
unfolding rows_glued
all_glued = bytes "#FORMAT 3\n#BOT ORIGIN\n" ++ rows_glued row_limit ++ bytes "#EOT ORIGIN\n#BOT EDITOR\n#EOT EDITOR\n"

pub all_accepted : (survey_of all_glued).refusal ≡ 0
unfolding all_glued rows_glued ignored right_trim trim_from front_bytes behind_from columns_from fields comment value_from decimal broken checked has_id has_tag known origin_row editor_row tag_row heading_of end_rules end_of pairs paired parents_written tags_short tags_known parents_allowed word_of phrase_of format_of table_opened table_ended first_column at_start behind_one at_top among_rows among_nodes line_at taken judged after step survey_of digits_within digits_of
all_accepted = refl

pub all_longer : length (tidy_of all_glued) ≡ length all_glued + 512
unfolding all_glued rows_glued ignored right_trim trim_from front_bytes behind_from columns_from fields comment value_from decimal broken checked has_id has_tag known origin_row editor_row tag_row heading_of end_rules end_of pairs paired parents_written tags_short tags_known parents_allowed word_of phrase_of format_of table_opened table_ended first_column at_start behind_one at_top among_rows among_nodes line_at taken judged after step survey_of inserted sorted meaning_of digits_within digits_of parted tidy_text tidy_of
all_longer = refl

-- ---- wrong statements

-- it is not longer; a byte less will do
pub tidy_never_longer : ((f : List ℕ) → (survey_of f).refusal ≡ 0 → length (tidy_of f) ≤ length f) → ⊥
tidy_never_longer h = omega (arith, h one_glued one_accepted, one_longer)

pub tidy_room_of_511 : ((f : List ℕ) → (survey_of f).refusal ≡ 0 → length (tidy_of f) ≤ length f + 511) → ⊥
tidy_room_of_511 h = omega (arith, h all_glued all_accepted, all_longer)
