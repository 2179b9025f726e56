-- A file with all seven tables, flags, comments, ignored lines, phrases and sentences out of order, nested phrases and
-- secondary edges: its survey and its tidy text, and what is told of it when it is cut. By computing.
use Prim.Native.Nat.{ℕ}
use mathlib.Core.List.{List, [], ◌∷◌, ◌++◌}
use lib.ListN.{take}
use lib.Dec.{T}
use Rattle.rules.specs.Lists.{bytes, every, same, inserted, sorted}
use Rattle.rules.specs.Bytes.{ignored}
use Rattle.rules.specs.Texts.{right_trim, trim_from, front_bytes, behind_from}
use Rattle.rules.specs.Columns.{columns_from, fields, comment}
use Rattle.rules.specs.Numbers.{value_from, decimal}
use Rattle.rules.specs.Rules.{broken, checked}
use Rattle.rules.specs.Tables.{has_id, has_tag, known}
use Rattle.rules.specs.Rows.{origin_row, editor_row, tag_row}
use Rattle.rules.specs.Sentences.{heading_of, end_rules, end_of}
use Rattle.rules.specs.Pairs.{pairs, paired}
use Rattle.rules.specs.Nodes.{parents_written, tags_short, tags_known, parents_allowed, word_of, phrase_of}
use Rattle.rules.specs.Keywords.{format_of, table_opened, table_ended, first_column}
use Rattle.rules.specs.Lines.{at_start, behind_one, at_top, among_rows, among_nodes}
use Rattle.rules.specs.Phases.{line_at, taken, judged, after, step}
use Rattle.rules.specs.Survey.{survey_of}
use Rattle.rules.specs.Meaning.{meaning_of}
use Rattle.rules.specs.Tidy.{digits_within, digits_of, parted, tidy_text}
use Rattle.rules.specs.Writing.{tidy_of}
use Rattle.rules.proofs.CheckedByHand.{Case, case, holds}

abbrev pub tables_b : List ℕ
tables_b =
    bytes "#FORMAT 3\n%% two sentences, not in order\n#BOT ORIGIN\n7 Saga  %% old tale \n2  lab notes\n#EOT ORIGIN\n"
    ++ bytes "#BOT EDITOR\n4 kim Kim Lee\n-1 none No one\n#EOT EDITOR\n"
    ++ bytes "#BOT WORDTAG\n-1 UNKNOWN N not known\n0 -- N none\n1 NN Y noun\n2 VB N verb\n#EOT WORDTAG\n"
    ++ bytes "#BOT MORPHTAG\n1 Nom.Sg nominative\n#EOT MORPHTAG\n#BOT SECEDGETAG\n1 RF refers to\n#EOT SECEDGETAG\n"
    ++ bytes "#BOT NODETAG\n1 S clause\n2 NP noun phrase\n#EOT NODETAG\n#BOT EDGETAG\n1 SB subject\n2 HD head\n#EOT EDGETAG\n \n"

abbrev pub file_b : List ℕ
file_b =
    tables_b
    ++ bytes "#BOS 12 4 99 7 %% first \nUlf NN Nom.Sg HD 500\ner VB -- HD 502 %% a verb\n%% between\n"
    ++ bytes "#502 S -- -- 0\n#500 NP -- SB 501 RF 502 RF 501\n#501 NP -- SB 502\n#EOS 12\n"
    ++ bytes "#BOS 3 -1 0 2\n# NN -- -- 0 RF 500 %% \n#500 NP -- -- 0\n#EOS 3\n"

-- whole; cut behind the first sentence, with nothing, other bytes or one more whole sentence behind; cut in the end line of
-- the first sentence and of the second; cut in front of it, and with other bytes behind
abbrev pub cut_cases : List Case
cut_cases =
    case file_b 0 654 2 654
    ∷ case (take 593 file_b) 0 593 1 593
    ∷ case (take 593 file_b ++ bytes "what a restore left\n") 6 593 1 593
    ∷ case (take 593 file_b ++ bytes "what a restore left") 3 593 1 593
    ∷ case (take 593 file_b ++ bytes "#BOS 9 4 1 2\nUlf NN -- -- 0\n#EOS 9\n") 0 628 2 628
    ∷ case (take 593 file_b ++ bytes "#BOS 12 4 1 2\nUlf NN -- -- 0\n#EOS 12\n") 14 593 1 593
    ∷ case (take 592 file_b) 3 585 0 0
    ∷ case (take 591 file_b) 3 585 0 0
    ∷ case (take 653 file_b) 3 647 1 593
    ∷ case (take 647 file_b) 23 647 1 593
    ∷ case (take 647 file_b ++ bytes "#EOS 4\n") 20 647 1 593
    ∷ case (take 437 file_b) 0 437 0 0
    ∷ []

pub cuts_of_b : T (every holds cut_cases)
unfolding ignored right_trim trim_from front_bytes behind_from columns_from fields comment value_from decimal broken checked has_id has_tag known origin_row editor_row tag_row heading_of end_rules end_of pairs paired parents_written tags_short tags_known parents_allowed word_of phrase_of format_of table_opened table_ended first_column at_start behind_one at_top among_rows among_nodes line_at taken judged after step survey_of
cuts_of_b = tt

-- ---- the tidy text, to the byte

abbrev pub tidy_b : List ℕ
tidy_b =
    bytes "#FORMAT 3\n#BOT ORIGIN\n2\tlab notes\n7\tSaga\t%%\told tale\n#EOT ORIGIN\n"
    ++ bytes "#BOT EDITOR\n-1\tnone\tNo one\n4\tkim\tKim Lee\n#EOT EDITOR\n"
    ++ bytes "#BOT WORDTAG\n-1\tUNKNOWN\tN\tnot known\n0\t--\tN\tnone\n1\tNN\tY\tnoun\n2\tVB\tN\tverb\n#EOT WORDTAG\n"
    ++ bytes "#BOT MORPHTAG\n1\tNom.Sg\tnominative\n#EOT MORPHTAG\n"
    ++ bytes "#BOT NODETAG\n1\tS\tclause\n2\tNP\tnoun phrase\n#EOT NODETAG\n#BOT EDGETAG\n1\tSB\tsubject\n2\tHD\thead\n#EOT EDGETAG\n"
    ++ bytes "#BOT SECEDGETAG\n1\tRF\trefers to\n#EOT SECEDGETAG\n"
    ++ bytes "#BOS 3 -1 0 2\n#\tNN\t--\t--\t0\tRF\t500\n#500\tNP\t--\t--\t0\n#EOS 3\n"
    ++ bytes "#BOS 12 4 99 7 %% first\nUlf\tNN\tNom.Sg\tHD\t500\ner\tVB\t--\tHD\t502\t%%\ta verb\n"
    ++ bytes "#500\tNP\t--\tSB\t501\tRF\t502\tRF\t501\n#501\tNP\t--\tSB\t502\n#502\tS\t--\t--\t0\n#EOS 12\n"

pub tidy_of_b : T (same (tidy_of file_b) tidy_b)
unfolding ignored right_trim trim_from front_bytes behind_from columns_from fields comment value_from decimal broken checked has_id has_tag known origin_row editor_row tag_row heading_of end_rules end_of pairs paired parents_written tags_short tags_known parents_allowed word_of phrase_of format_of table_opened table_ended first_column at_start behind_one at_top among_rows among_nodes line_at taken judged after step survey_of inserted sorted meaning_of digits_within digits_of parted tidy_text tidy_of
tidy_of_b = tt
