-- A file whose lines have all that a line may have: seven tables in no order, rows in no order with ids beyond 8, an origin's
-- comment, a word and a phrase with secondary edges and a comment on one line. Its survey and its tidy text, by computing.
use Prim.Native.Nat.{ℕ}
use mathlib.Core.Path.{◌≡◌, refl}
use mathlib.Core.List.{List, ◌++◌}
use lib.Dec.{T}
use Rattle.rules.specs.Lists.{bytes, inserted, sorted}
use Rattle.rules.specs.Bytes.{ignored}
use Rattle.rules.specs.Texts.{right_trim, trim_from, front_bytes, behind_from}
use Rattle.rules.specs.Columns.{columns_from, fields, comment}
use Rattle.rules.specs.Numbers.{value_from, decimal}
use Rattle.rules.specs.Rules.{broken, checked}
use Rattle.rules.specs.Tables.{has_id, has_tag, known}
use Rattle.rules.specs.Rows.{origin_row, editor_row, tag_row}
use Rattle.rules.specs.Sentences.{heading_of, end_rules, end_of}
use Rattle.rules.specs.Pairs.{pairs, paired}
use Rattle.rules.specs.Nodes.{parents_written, tags_short, tags_known, parents_allowed, word_of, phrase_of}
use Rattle.rules.specs.Keywords.{format_of, table_opened, table_ended, first_column}
use Rattle.rules.specs.Lines.{at_start, behind_one, at_top, among_rows, among_nodes}
use Rattle.rules.specs.Phases.{line_at, taken, judged, after, step}
use Rattle.rules.specs.Survey.{survey_of}
use Rattle.rules.specs.Meaning.{meaning_of}
use Rattle.rules.specs.Tidy.{digits_within, digits_of, parted, tidy_text}
use Rattle.rules.specs.Writing.{tidy_of}
use Rattle.rules.proofs.CheckedByHand.{case, holds}

abbrev pub file_d : List ℕ
file_d =
    bytes "#FORMAT 3\n#BOT EDITOR\n12 lea  Lea\tHolm \n8 kim Kim Lee\n%% gone\n-1 none No one\n#EOT EDITOR\n"
    ++ bytes "#BOT SECEDGETAG\n1 RF refers to\n2 SH shared\n#EOT SECEDGETAG\n#BOT ORIGIN\n70 Saga %%old tale\n9 lab\tnotes\n#EOT ORIGIN\n"
    ++ bytes "#BOT NODETAG\n1 S clause\n2 NP noun phrase\n#EOT NODETAG\n#BOT MORPHTAG\n1 Nom.Sg nominative\n#EOT MORPHTAG\n"
    ++ bytes "#BOT WORDTAG\n-1 UNKNOWN N not known\n1 NN Y noun\n2 VB N verb\n#EOT WORDTAG\n#BOT EDGETAG\n1 SB subject\n#EOT EDGETAG\n"
    ++ bytes "#BOS 120 12 99 70 %%  told twice \nUlf NN Nom.Sg SB 500 RF 501 SH 500 %% a  name\n\nging VB -- -- 502 %% went\n"
    ++ bytes "#502 S -- -- 0\n#500 NP Nom.Sg SB 501  SH 502 RF 501 SH 501 %% three edges \n#501 S -- -- 502\n#EOS 120\n"
    ++ bytes "#BOS 13 8 0 9\n#EOS 13\n"

pub survey_of_d : T (holds (case file_d 0 647 2 647))
unfolding ignored right_trim trim_from front_bytes behind_from columns_from fields comment value_from decimal broken checked has_id has_tag known origin_row editor_row tag_row heading_of end_rules end_of pairs paired parents_written tags_short tags_known parents_allowed word_of phrase_of format_of table_opened table_ended first_column at_start behind_one at_top among_rows among_nodes line_at taken judged after step survey_of
survey_of_d = tt

-- ---- the tidy text, to the byte

abbrev pub tidy_d : List ℕ
tidy_d =
    bytes "#FORMAT 3\n#BOT ORIGIN\n9\tlab\tnotes\n70\tSaga\t%%\told tale\n#EOT ORIGIN\n"
    ++ bytes "#BOT EDITOR\n-1\tnone\tNo one\n8\tkim\tKim Lee\n12\tlea\tLea\tHolm\n#EOT EDITOR\n"
    ++ bytes "#BOT WORDTAG\n-1\tUNKNOWN\tN\tnot known\n1\tNN\tY\tnoun\n2\tVB\tN\tverb\n#EOT WORDTAG\n"
    ++ bytes "#BOT MORPHTAG\n1\tNom.Sg\tnominative\n#EOT MORPHTAG\n#BOT NODETAG\n1\tS\tclause\n2\tNP\tnoun phrase\n#EOT NODETAG\n"
    ++ bytes "#BOT EDGETAG\n1\tSB\tsubject\n#EOT EDGETAG\n#BOT SECEDGETAG\n1\tRF\trefers to\n2\tSH\tshared\n#EOT SECEDGETAG\n"
    ++ bytes "#BOS 13 8 0 9\n#EOS 13\n#BOS 120 12 99 70 %% told twice\n"
    ++ bytes "Ulf\tNN\tNom.Sg\tSB\t500\tRF\t501\tSH\t500\t%%\ta  name\nging\tVB\t--\t--\t502\t%%\twent\n"
    ++ bytes "#500\tNP\tNom.Sg\tSB\t501\tSH\t502\tRF\t501\tSH\t501\t%%\tthree edges\n#501\tS\t--\t--\t502\n#502\tS\t--\t--\t0\n#EOS 120\n"

pub tidy_of_d : tidy_of file_d ≡ tidy_d
unfolding ignored right_trim trim_from front_bytes behind_from columns_from fields comment value_from decimal broken checked has_id has_tag known origin_row editor_row tag_row heading_of end_rules end_of pairs paired parents_written tags_short tags_known parents_allowed word_of phrase_of format_of table_opened table_ended first_column at_start behind_one at_top among_rows among_nodes line_at taken judged after step survey_of inserted sorted meaning_of digits_within digits_of parted tidy_text tidy_of
tidy_of_d = refl
