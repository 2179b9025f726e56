-- Document 01, "Checked by hand": the starred cases, proved together by one statement over a list.
use Prim.Native.Nat.{ℕ}
use Prim.Native.String.{String}
use mathlib.Core.Bool.{Bool}
use mathlib.Core.List.{List, [], ◌∷◌, ◌++◌}
use lib.ListN.{take, drop}
use lib.Dec.{T}
use Rattle.rules.specs.Lists.{bytes, every, same, inserted, sorted}
use Rattle.rules.specs.Bytes.{ignored}
use Rattle.rules.specs.Texts.{right_trim, trim_from, front_bytes, behind_from}
use Rattle.rules.specs.Columns.{columns_from, fields, comment}
use Rattle.rules.specs.Numbers.{value_from, decimal}
use Rattle.rules.specs.Rules.{broken, checked}
use Rattle.rules.specs.Tables.{has_id, has_tag, known}
use Rattle.rules.specs.Rows.{origin_row, editor_row, tag_row}
use Rattle.rules.specs.Sentences.{heading_of, end_rules, end_of}
use Rattle.rules.specs.Pairs.{pairs, paired}
use Rattle.rules.specs.Nodes.{parents_written, tags_short, tags_known, parents_allowed, word_of, phrase_of}
use Rattle.rules.specs.Keywords.{format_of, table_opened, table_ended, first_column}
use Rattle.rules.specs.Lines.{at_start, behind_one, at_top, among_rows, among_nodes}
use Rattle.rules.specs.Phases.{line_at, taken, judged, after, step}
use Rattle.rules.specs.Survey.{Told, told, survey_of}
use Rattle.rules.specs.Meaning.{meaning_of}
use Rattle.rules.specs.Tidy.{digits_within, digits_of, parted, tidy_text}
use Rattle.rules.specs.Writing.{tidy_of}

abbrev pub file_a : List ℕ
file_a =
    bytes "#FORMAT 3\n#BOT ORIGIN\n1 lab\n#EOT ORIGIN\n#BOT EDITOR\n2 kim Kim\n#EOT EDITOR\n#BOS 7 2 0 1\nJa ITJ -- -- 500\n#500 S -- -- 0\n#EOS 7\n"

-- A with other bytes in place of those from a place up to another
abbrev pub changed : ℕ → ℕ → String → List ℕ
changed from to s = take from file_a ++ bytes s ++ drop to file_a

-- refusal, place, sentences, sound end
abbrev pub four_numbers : Told → List ℕ
four_numbers t = t.refusal ∷ t.place ∷ t.sentences ∷ t.sound_end ∷ []

pub record Case : Type 0 where
  pub file : List ℕ
  pub tells : List ℕ

abbrev pub case : List ℕ → ℕ → ℕ → ℕ → ℕ → Case
case f refusal place sentences sound = record { file = f; tells = refusal ∷ place ∷ sentences ∷ sound ∷ [] }

abbrev pub starred_cases : List Case
starred_cases =
    case file_a 0 126 1 126
    ∷ case (take 125 file_a) 3 119 0 0
    ∷ case (take 119 file_a) 23 119 0 0
    ∷ case (take 74 file_a) 0 74 0 0
    ∷ case (take 40 file_a) 13 40 0 0
    ∷ case (take 0 file_a) 9 0 0 0
    ∷ case (changed 8 9 "4") 9 0 0 0
    ∷ case (changed 85 86 "2") 15 85 0 0
    ∷ case (changed 100 103 "501") 22 119 0 0
    ∷ case (changed 117 118 "500") 19 117 0 0
    ∷ case (changed 104 108 "#501") 21 119 0 0
    ∷ case (changed 124 125 "8") 20 119 0 0
    ∷ []

abbrev pub holds : Case → Bool
holds c = same (four_numbers (told (survey_of c.file))) c.tells

pub starred : T (every holds starred_cases)
unfolding ignored right_trim trim_from front_bytes behind_from columns_from fields comment value_from decimal broken checked has_id has_tag known origin_row editor_row tag_row heading_of end_rules end_of pairs paired parents_written tags_short tags_known parents_allowed word_of phrase_of format_of table_opened table_ended first_column at_start behind_one at_top among_rows among_nodes line_at taken judged after step survey_of
starred = tt

-- the tidy text of A is A with tabs in lines 3, 6, 9 and 10
abbrev pub tidy_a : List ℕ
tidy_a =
    bytes "#FORMAT 3\n#BOT ORIGIN\n1\tlab\n#EOT ORIGIN\n#BOT EDITOR\n2\tkim\tKim\n#EOT EDITOR\n#BOS 7 2 0 1\nJa\tITJ\t--\t--\t500\n#500\tS\t--\t--\t0\n#EOS 7\n"

pub tidy_of_a : T (same (tidy_of file_a) tidy_a)
unfolding ignored right_trim trim_from front_bytes behind_from columns_from fields comment value_from decimal broken checked has_id has_tag known origin_row editor_row tag_row heading_of end_rules end_of pairs paired parents_written tags_short tags_known parents_allowed word_of phrase_of format_of table_opened table_ended first_column at_start behind_one at_top among_rows among_nodes line_at taken judged after step survey_of inserted sorted meaning_of digits_within digits_of parted tidy_text tidy_of
tidy_of_a = tt
