-- Document 01, "The numbers of refusal", 12 and 16: the 257th row of each kind of table, the 501st word and the 513th secondary
-- edge are refused. Computed together.
use Prim.Native.Nat.{ℕ}
use mathlib.Core.List.{List, [], ◌∷◌, ◌++◌, map}
use lib.ListN.{replicate}
use lib.Dec.{T}
use Rattle.rules.specs.Lists.{bytes, every, counting, joined}
use Rattle.rules.specs.Bytes.{ignored}
use Rattle.rules.specs.Texts.{right_trim, trim_from, front_bytes, behind_from}
use Rattle.rules.specs.Columns.{columns_from, fields, comment}
use Rattle.rules.specs.Numbers.{value_from, decimal}
use Rattle.rules.specs.Rules.{broken, checked}
use Rattle.rules.specs.Tables.{has_id, has_tag, known}
use Rattle.rules.specs.Rows.{origin_row, editor_row, tag_row}
use Rattle.rules.specs.Sentences.{heading_of, end_rules, end_of}
use Rattle.rules.specs.Pairs.{pairs, paired}
use Rattle.rules.specs.Nodes.{parents_written, tags_short, tags_known, parents_allowed, word_of, phrase_of}
use Rattle.rules.specs.Keywords.{format_of, table_opened, table_ended, first_column}
use Rattle.rules.specs.Lines.{at_start, behind_one, at_top, among_rows, among_nodes}
use Rattle.rules.specs.Phases.{line_at, taken, judged, after, step}
use Rattle.rules.specs.Survey.{survey_of}
use Rattle.rules.specs.Tidy.{digits_within, digits_of}
use Rattle.rules.proofs.CheckedByHand.{Case, case, holds}
use Rattle.rules.proofs.RefusalCases.{behind_format, inside}

-- a word with so many secondary edges
abbrev edged : ℕ → List ℕ
edged n = inside "Ja T -- -- 0" ++ joined (replicate n (bytes " s 500")) ++ bytes "\n"

-- a phrase with so many secondary edges
abbrev edged_phrase : ℕ → List ℕ
edged_phrase n = inside "#500 S -- -- 0" ++ joined (replicate n (bytes " s 501")) ++ bytes "\n"

abbrev worded : ℕ → List ℕ
worded n = inside "" ++ joined (replicate n (bytes "w T -- -- 0\n"))

-- a table with so many rows
abbrev rowed : ℕ → List ℕ
rowed n = behind_format "#BOT ORIGIN\n" ++ joined (map (λ (k : ℕ). digits_of k ++ bytes " x\n") (counting 1 n))

abbrev editor_rowed : ℕ → List ℕ
editor_rowed n = behind_format "#BOT EDITOR\n" ++ joined (map (λ (k : ℕ). digits_of k ++ bytes " x y\n") (counting 1 n))

abbrev tag_rowed : ℕ → List ℕ
tag_rowed n = behind_format "#BOT NODETAG\n" ++ joined (map (λ (k : ℕ). digits_of k ++ bytes " " ++ digits_of k ++ bytes " y\n") (counting 1 n))

abbrev limit_cases : List Case
limit_cases =
    case (edged 513) 16 87 0 0
    ∷ case (edged_phrase 513) 16 87 0 0
    ∷ case (worded 501) 16 6087 0 0
    ∷ case (rowed 257) 12 1450 0 0
    ∷ case (editor_rowed 257) 12 1962 0 0
    ∷ case (tag_rowed 257) 12 2367 0 0
    ∷ []

pub each_limit : T (every holds limit_cases)
unfolding ignored right_trim trim_from front_bytes behind_from columns_from fields comment value_from decimal broken checked has_id has_tag known origin_row editor_row tag_row heading_of end_rules end_of pairs paired parents_written tags_short tags_known parents_allowed word_of phrase_of format_of table_opened table_ended first_column at_start behind_one at_top among_rows among_nodes line_at taken judged after step survey_of digits_within digits_of
each_limit = tt
