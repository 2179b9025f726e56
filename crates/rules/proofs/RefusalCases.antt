-- Document 01, "The numbers of refusal": for each rule of a line a smallest file that breaks it alone, and the number and place
-- that it gets. Computed together.
use Prim.Native.Nat.{ℕ}
use Prim.Native.String.{String}
use mathlib.Core.Path.{◌≡◌, refl}
use mathlib.Core.Bool.{true}
use mathlib.Core.List.{List, [], ◌∷◌, ◌++◌}
use lib.ListN.{replicate}
use lib.Dec.{T}
use Rattle.rules.specs.Lists.{bytes, every}
use Rattle.rules.specs.Bytes.{ignored}
use Rattle.rules.specs.Texts.{right_trim, trim_from, front_bytes, behind_from}
use Rattle.rules.specs.Columns.{columns_from, fields, comment}
use Rattle.rules.specs.Numbers.{value_from, decimal}
use Rattle.rules.specs.Rules.{broken, checked}
use Rattle.rules.specs.Tables.{has_id, has_tag, known}
use Rattle.rules.specs.Rows.{origin_row, editor_row, tag_row}
use Rattle.rules.specs.Sentences.{heading_of, end_rules, end_of}
use Rattle.rules.specs.Pairs.{pairs, paired}
use Rattle.rules.specs.Nodes.{parents_written, tags_short, tags_known, parents_allowed, word_of, phrase_of}
use Rattle.rules.specs.Keywords.{format_of, table_opened, table_ended, first_column}
use Rattle.rules.specs.Lines.{at_start, behind_one, at_top, among_rows, among_nodes}
use Rattle.rules.specs.Phases.{line_at, taken, judged, after, step}
use Rattle.rules.specs.Survey.{survey_of}
use Rattle.rules.proofs.CheckedByHand.{Case, case, holds}

-- ---- what stands in front of the line in question

abbrev alone : String → List ℕ
alone s = bytes s

abbrev pub behind_format : String → List ℕ
behind_format s = bytes "#FORMAT 3\n" ++ bytes s

abbrev pub behind_tables : String → List ℕ
behind_tables s = behind_format "#BOT ORIGIN\n1 lab\n#EOT ORIGIN\n#BOT EDITOR\n2 kim Kim\n#EOT EDITOR\n" ++ bytes s

abbrev pub inside : String → List ℕ
inside s = behind_tables "#BOS 7 2 0 1\n" ++ bytes s

-- so many equal bytes, and the line's end
abbrev pub run : ℕ → String → String → List ℕ
run n letter s = joined_run n (bytes letter) ++ bytes s
  where
    joined_run : ℕ → List ℕ → List ℕ
    joined_run n [] = []
    joined_run n (b ∷ bs) = replicate n b

-- a line that can't stand here, by its keyword
abbrev cannot_stand : List Case
cannot_stand =
    case (behind_format "#EOS 1\n") 6 10 0 0
    ∷ case (behind_format " x\n") 6 10 0 0
    ∷ case (inside "#x\n") 6 87 0 0
    ∷ case (behind_format "#BOT ORIGIN\n1 lab\n#EOT ORIGIN\n#BOT ORIGIN\n") 6 40 0 0
    ∷ case (behind_format "#BOT ORIGIN\n#EOT EDITOR\n") 6 22 0 0
    ∷ case (inside "#500 S -- -- 0\nJa ITJ -- -- 0\n") 6 102 0 0
    ∷ case (inside "#EOS 7\n#BOT WORDTAG\n") 6 94 1 94
    ∷ case (behind_format "#BOT FOO\n") 6 10 0 0
    ∷ case (behind_format "#BOT FOO x\n") 6 10 0 0
    ∷ case (behind_format "#BOT ORIGIN\n#EOT FOO\n") 6 22 0 0
    ∷ case (behind_format "#BOT ORIGIN\n#EOT EDITOR x\n") 6 22 0 0
    ∷ []

-- a phrase's line, a lone # and an unknown keyword outside a sentence: in front of all, among the tables, in a table, behind a sentence
abbrev no_sentence : List Case
no_sentence =
    case (alone "#500\n") 6 0 0 0
    ∷ case (alone "#\n") 6 0 0 0
    ∷ case (alone "#x\n") 6 0 0 0
    ∷ case (behind_format "#500\n") 6 10 0 0
    ∷ case (behind_format "#\n") 6 10 0 0
    ∷ case (behind_format "#x\n") 6 10 0 0
    ∷ case (behind_format "#500 S -- -- 0\n") 6 10 0 0
    ∷ case (behind_format "#BOT ORIGIN\n#500\n") 6 22 0 0
    ∷ case (behind_format "#BOT ORIGIN\n#\n") 6 22 0 0
    ∷ case (behind_format "#BOT ORIGIN\n#x\n") 6 22 0 0
    ∷ case (behind_format "#BOT ORIGIN\n#500 S -- -- 0\n") 6 22 0 0
    ∷ case (inside "#EOS 7\n#500\n") 6 94 1 94
    ∷ case (inside "#EOS 7\n#\n") 6 94 1 94
    ∷ case (inside "#EOS 7\n#x\n") 6 94 1 94
    ∷ []

-- a column is missing, or there is one too many
abbrev wrong_columns : List Case
wrong_columns =
    case (alone "#FORMAT\n") 7 0 0 0
    ∷ case (behind_format "#BOT\n") 7 10 0 0
    ∷ case (behind_format "#BOT ORIGIN\n1\n") 7 22 0 0
    ∷ case (behind_format "#BOT EDITOR\n1 x\n") 7 22 0 0
    ∷ case (behind_format "#BOT NODETAG\n1 S\n") 7 23 0 0
    ∷ case (behind_format "#BOT WORDTAG\n1 NN Y\n") 7 23 0 0
    ∷ case (behind_tables "#BOS 7 2 0\n") 7 74 0 0
    ∷ case (behind_tables "#BOS 7 2 0 1 x\n") 7 74 0 0
    ∷ case (inside "Ja ITJ -- --\n") 7 87 0 0
    ∷ case (inside "Ja ITJ -- -- 0 SB\n") 7 87 0 0
    ∷ case (inside "#500 S -- --\n") 7 87 0 0
    ∷ case (inside "#EOS\n") 7 87 0 0
    ∷ case (alone "#FORMAT 3 x\n") 7 0 0 0
    ∷ case (behind_format "#BOT ORIGIN x\n") 7 10 0 0
    ∷ case (behind_format "#BOT ORIGIN\n#EOT\n") 7 22 0 0
    ∷ case (behind_format "#BOT ORIGIN\n#EOT ORIGIN x\n") 7 22 0 0
    ∷ case (inside "#EOS 7 8\n") 7 87 0 0
    ∷ case (inside "#500\n") 7 87 0 0
    ∷ []

-- a number is badly written or outside its range
abbrev bad_numbers : List Case
bad_numbers =
    case (alone "#FORMAT 03\n") 8 8 0 0
    ∷ case (behind_format "#BOT ORIGIN\n0 lab\n") 8 22 0 0
    ∷ case (behind_format "#BOT EDITOR\n-2 kim Kim\n") 8 22 0 0
    ∷ case (behind_format "#BOT NODETAG\n65536 S x\n") 8 23 0 0
    ∷ case (behind_tables "#BOS 0 2 0 1\n") 8 79 0 0
    ∷ case (behind_tables "#BOS 7 x 0 1\n") 8 81 0 0
    ∷ case (behind_tables "#BOS 7 2 4294967296 1\n") 8 83 0 0
    ∷ case (behind_tables "#BOS 7 2 0 0\n") 8 85 0 0
    ∷ case (inside "Ja ITJ -- -- 499\n") 8 100 0 0
    ∷ case (inside "Ja ITJ -- -- 0 SB 0\n") 8 105 0 0
    ∷ case (inside "#499 S -- -- 0\n") 8 87 0 0
    ∷ case (inside "#EOS 65536\n") 8 92 0 0
    ∷ []

-- a text is too long, a tag is %%, a flag isn't Y or N
abbrev pub bad_texts : List Case
bad_texts =
    case (behind_format "#BOT ORIGIN\n1 " ++ run 129 "n" "\n") 10 24 0 0
    ∷ case (behind_format "#BOT ORIGIN\n1 n %% " ++ run 161 "c" "\n") 10 29 0 0
    ∷ case (behind_format "#BOT EDITOR\n1 " ++ run 17 "l" " n\n") 10 24 0 0
    ∷ case (behind_format "#BOT EDITOR\n1 l " ++ run 41 "n" "\n") 10 26 0 0
    ∷ case (behind_format "#BOT NODETAG\n1 TTTTTTTTTTT d\n") 10 25 0 0
    ∷ case (behind_format "#BOT NODETAG\n1 %% d\n") 10 25 0 0
    ∷ case (behind_format "#BOT WORDTAG\n1 NN X d\n") 10 28 0 0
    ∷ case (behind_format "#BOT NODETAG\n1 S " ++ run 81 "d" "\n") 10 27 0 0
    ∷ case (inside "Ja TTTTTTTTTTT -- -- 0\n") 10 90 0 0
    ∷ case (inside "Ja T " ++ run 33 "m" " -- 0\n") 10 92 0 0
    ∷ case (inside "Ja T -- eeeeeeeeeee 500\n") 10 95 0 0
    ∷ case (inside "Ja T -- -- 0 sssssssssss 500\n") 10 100 0 0
    ∷ case (inside "#500 TTTTTTTTTTT -- -- 0\n") 10 92 0 0
    ∷ []

-- a row's id is repeated or out of order, a tag repeated, reserved or not its row's
abbrev rows_out_of_place : List Case
rows_out_of_place =
    case (behind_format "#BOT ORIGIN\n1 a\n1 b\n") 11 26 0 0
    ∷ case (behind_format "#BOT EDITOR\n1 a b\n1 c d\n") 11 28 0 0
    ∷ case (behind_format "#BOT NODETAG\n2 S d\n") 11 23 0 0
    ∷ case (behind_format "#BOT NODETAG\n1 -- d\n") 11 23 0 0
    ∷ case (behind_format "#BOT NODETAG\n0 S d\n") 11 23 0 0
    ∷ case (behind_format "#BOT NODETAG\n1 S d\n2 S d\n") 11 29 0 0
    ∷ case (behind_format "#BOT NODETAG\n-1 S d\n") 11 23 0 0
    ∷ case (behind_format "#BOT NODETAG\n1 UNKNOWN d\n") 11 23 0 0
    ∷ []

-- ORIGIN or EDITOR is missing; a sentence number is used before; an editor or origin is unknown
abbrev bad_headings : List Case
bad_headings =
    case (behind_format "#BOT ORIGIN\n1 lab\n#EOT ORIGIN\n#BOS 7 2 0 1\n") 13 40 0 0
    ∷ case (inside "#EOS 7\n#BOS 7 2 0 1\n") 14 94 1 94
    ∷ case (behind_tables "#BOS 7 3 0 1\n") 15 81 0 0
    ∷ case (behind_tables "#BOS 7 2 0 2\n") 15 85 0 0
    ∷ []

-- a phrase number is given twice
abbrev phrase_twice : List Case
phrase_twice =
    case (inside "#500 S -- -- 0\n#500 S -- -- 0\n") 17 102 0 0
    ∷ []

-- a tag is not in its table
abbrev unknown_tags : List Case
unknown_tags =
    case (behind_tables "#BOT WORDTAG\n#EOT WORDTAG\n#BOS 7 2 0 1\nJa ITJ -- -- 0\n") 18 116 0 0
    ∷ case (behind_tables "#BOT MORPHTAG\n#EOT MORPHTAG\n#BOS 7 2 0 1\nJa T m -- 0\n") 18 120 0 0
    ∷ case (behind_tables "#BOT NODETAG\n#EOT NODETAG\n#BOS 7 2 0 1\n#500 S -- -- 0\n") 18 118 0 0
    ∷ case (behind_tables "#BOT EDGETAG\n#EOT EDGETAG\n#BOS 7 2 0 1\nJa T -- e 500\n") 18 121 0 0
    ∷ case (behind_tables "#BOT SECEDGETAG\n#EOT SECEDGETAG\n#BOS 7 2 0 1\nJa T -- -- 0 s 500\n") 18 132 0 0
    ∷ []

-- a parent is not larger, a secondary parent is the node itself, or parent 0 without --
abbrev wrong_parents : List Case
wrong_parents =
    case (inside "Ja T -- SB 0\n") 19 98 0 0
    ∷ case (inside "#501 S -- -- 500\n") 19 100 0 0
    ∷ case (inside "#501 S -- -- 0 s 501\n") 19 104 0 0
    ∷ []

-- several columns at fault: the smallest number, and of its columns the leftmost
abbrev several_columns : List Case
several_columns =
    case (behind_tables "#BOS 7 3 0 2\n") 15 81 0 0
    ∷ case (inside "Ja TTTTTTTTTTT -- -- 499 s 0\n") 8 108 0 0
    ∷ case (inside "#501 S -- -- 500 s 501\n") 19 100 0 0
    ∷ case (inside "#501 S -- -- 502 s 502 s 501 s 501\n") 19 112 0 0
    ∷ []

-- at #EOS: another number, a gap in the phrases, a parent absent
abbrev bad_ends : List Case
bad_ends =
    case (inside "#EOS 8\n") 20 87 0 0
    ∷ case (inside "#501 S -- -- 0\n#EOS 7\n") 21 102 0 0
    ∷ case (inside "Ja T -- -- 500\n#EOS 7\n") 22 102 0 0
    ∷ case (inside "Ja T -- -- 0 s 500\n#EOS 7\n") 22 106 0 0
    ∷ []

pub each_number : T (every holds (cannot_stand ++ no_sentence ++ wrong_columns ++ bad_numbers ++ rows_out_of_place ++ bad_headings ++ phrase_twice ++ unknown_tags ++ wrong_parents ++ several_columns ++ bad_ends))
unfolding ignored right_trim trim_from front_bytes behind_from columns_from fields comment value_from decimal broken checked has_id has_tag known origin_row editor_row tag_row heading_of end_rules end_of pairs paired parents_written tags_short tags_known parents_allowed word_of phrase_of format_of table_opened table_ended first_column at_start behind_one at_top among_rows among_nodes line_at taken judged after step survey_of
each_number = tt

pub each_bad_text : every holds bad_texts ≡ true
unfolding ignored right_trim trim_from front_bytes behind_from columns_from fields comment value_from decimal broken checked has_id has_tag known origin_row editor_row tag_row heading_of end_rules end_of pairs paired parents_written tags_short tags_known parents_allowed word_of phrase_of format_of table_opened table_ended first_column at_start behind_one at_top among_rows among_nodes line_at taken judged after step survey_of
each_bad_text = refl
