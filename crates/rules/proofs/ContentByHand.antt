-- A file written out by hand, and what it contains: tables in another order than their names, one of them with flags, an
-- origin with a comment and one without, comments on #BOS and on nodes, secondary edges, phrases in another order than their
-- numbers, an editor -1, a sentence without words. The grammar says so of this file.
use Prim.Native.Nat.{ℕ}
use Prim.Native.String.{String}
use mathlib.Core.Path.{◌≡◌, refl, subst}
use Rattle.std.specs.Prelude.{None, Some}
use mathlib.Core.List.{List, [], ◌∷◌}
use Rattle.rules.specs.Lists.{bytes}
use Rattle.rules.specs.Bytes.{ignored}
use Rattle.rules.specs.Texts.{right_trim, trim_from, front_bytes, behind_from}
use Rattle.rules.specs.Columns.{columns_from, fields, comment}
use Rattle.rules.specs.Numbers.{value_from, decimal}
use Rattle.rules.specs.Rules.{broken, checked}
use Rattle.rules.specs.Tables.{has_id, has_tag, known}
use Rattle.rules.specs.Rows.{origin_row, editor_row, tag_row}
use Rattle.rules.specs.Sentences.{heading_of, end_rules, end_of}
use Rattle.rules.specs.Pairs.{pairs, paired}
use Rattle.rules.specs.Nodes.{parents_written, tags_short, tags_known, parents_allowed, word_of, phrase_of}
use Rattle.rules.specs.Keywords.{format_of, table_opened, table_ended, first_column}
use Rattle.rules.specs.Lines.{at_start, behind_one, at_top, among_rows, among_nodes}
use Rattle.rules.specs.Phases.{line_at, taken, judged, after, step}
use Rattle.rules.specs.Survey.{survey_of}
use Rattle.rules.specs.GrammarNumbers.{sentence_range}
use Rattle.rules.specs.GrammarContent.{RowContent, EdgeContent, NodeContent, HeadContent, Content}
use Rattle.rules.specs.GrammarSurvey.{content_of}
use Rattle.rules.specs.Grammar.{Contains}
use Rattle.rules.proofs.AcceptedExactly.{accepted_contains}

abbrev pub file_by_hand : List ℕ
file_by_hand =
    bytes "#FORMAT 3\n%% by hand\n#BOT EDITOR\n-1 nn nobody\n2 kim  Kim Berg \n#EOT EDITOR\n#BOT WORDTAG\n-1 UNKNOWN N not known\n0 -- N none\n1 ITJ Y interjection\n#EOT WORDTAG\n#BOT ORIGIN\n1 lab notes %% of 1998 \n3 diary\n#EOT ORIGIN\n#BOS 12 2 915148800 3 %% first one\nJa ITJ -- -- 500 SB 501 %% said\n# -- -- HD 501\n#501 S -- -- 0\n#500 NP Nom.Sg HD 501 OB 501 %%  again\n#EOS 12\n\n#BOS 7 -1 0 1\n#EOS 7\n"

-- ---- what it contains, in the order of the content's fields

abbrev row : ℕ → String → String → ℕ → RowContent
row id1 first second flag = record { id1 = id1; first = bytes first; second = bytes second; flag = flag }

abbrev edge : String → ℕ → EdgeContent
edge label parent = record { label = bytes label; parent = parent }

abbrev node : ℕ → String → String → String → String → ℕ → List EdgeContent → String → NodeContent
node number word tag morphology label parent secondary remark =
    record {
      number = number;
      word = bytes word;
      tag = bytes tag;
      morphology = bytes morphology;
      edge = bytes label;
      parent = parent;
      secondary = secondary;
      comment = bytes remark;
    }

abbrev heading : ℕ → ℕ → ℕ → ℕ → String → HeadContent
heading number editor1 date origin remark =
    record { number = number; editor1 = editor1; date = date; origin = origin; comment = bytes remark }

abbrev pub content_by_hand : Content
content_by_hand =
    record {
      format = 3;
      tables =
          Some (row 2 "lab notes" "of 1998" 0 ∷ row 4 "diary" "" 0 ∷ [])
          ∷ Some (row 0 "nn" "nobody" 0 ∷ row 3 "kim" "Kim Berg" 0 ∷ [])
          ∷ Some (row 0 "UNKNOWN" "not known" 0 ∷ row 1 "--" "none" 0 ∷ row 2 "ITJ" "interjection" 1 ∷ [])
          ∷ None
          ∷ None
          ∷ None
          ∷ None
          ∷ [];
      sentences =
          record {
            heading = heading 12 3 915148800 3 "first one";
            words = node 0 "Ja" "ITJ" "--" "--" 500 (edge "SB" 501 ∷ []) "said" ∷ node 1 "#" "--" "--" "HD" 501 [] "" ∷ [];
            phrases = node 501 "" "S" "--" "--" 0 [] "" ∷ node 500 "" "NP" "Nom.Sg" "HD" 501 (edge "OB" 501 ∷ []) "again" ∷ [];
          }
          ∷ record { heading = heading 7 0 0 1 ""; words = []; phrases = [] }
          ∷ [];
    }

accepted_by_hand : (survey_of file_by_hand).refusal ≡ 0
unfolding ignored right_trim trim_from front_bytes behind_from columns_from fields comment value_from decimal broken checked has_id has_tag known origin_row editor_row tag_row heading_of end_rules end_of pairs paired parents_written tags_short tags_known parents_allowed word_of phrase_of format_of table_opened table_ended first_column at_start behind_one at_top among_rows among_nodes line_at taken judged after step survey_of
accepted_by_hand = refl

read_by_hand : content_of (survey_of file_by_hand) ≡ content_by_hand
unfolding ignored right_trim trim_from front_bytes behind_from columns_from fields comment value_from decimal broken checked has_id has_tag known origin_row editor_row tag_row heading_of end_rules end_of pairs paired parents_written tags_short tags_known parents_allowed word_of phrase_of format_of table_opened table_ended first_column at_start behind_one at_top among_rows among_nodes line_at taken judged after step survey_of
read_by_hand = refl

pub contains_by_hand : Contains sentence_range file_by_hand content_by_hand
contains_by_hand = subst (Contains sentence_range file_by_hand) read_by_hand (accepted_contains file_by_hand accepted_by_hand)
