-- Tags explained from a small file and a small list: refusal, which of the two, start and bytes, case by case. By computing.
use Prim.Native.Nat.{ℕ}
use mathlib.Core.Bool.{Bool, ◌&&◌}
use mathlib.Core.List.{List, [], ◌∷◌, ◌++◌}
use lib.ListN.{take}
use lib.Dec.{T, eqb}
use Rattle.rules.specs.Lists.{bytes, every, same}
use Rattle.rules.specs.Bytes.{ignored}
use Rattle.rules.specs.Texts.{right_trim, trim_from, front_bytes, behind_from}
use Rattle.rules.specs.Columns.{columns_from, fields, comment}
use Rattle.rules.specs.Numbers.{value_from, decimal}
use Rattle.rules.specs.Rules.{broken, checked}
use Rattle.rules.specs.Tables.{has_id, has_tag, known}
use Rattle.rules.specs.Rows.{origin_row, editor_row, tag_row}
use Rattle.rules.specs.Sentences.{heading_of, end_rules, end_of}
use Rattle.rules.specs.Pairs.{pairs, paired}
use Rattle.rules.specs.Nodes.{parents_written, tags_short, tags_known, parents_allowed, word_of, phrase_of}
use Rattle.rules.specs.Keywords.{format_of, table_opened, table_ended, first_column}
use Rattle.rules.specs.Lines.{at_start, behind_one, at_top, among_rows, among_nodes}
use Rattle.rules.specs.Phases.{line_at, taken, judged, after, step}
use Rattle.rules.specs.Survey.{survey_of}
use Rattle.rules.specs.Explaining.{Explanation, described, explained}

abbrev top : List ℕ
top = bytes "#FORMAT 3\n#BOT ORIGIN\n#EOT ORIGIN\n#BOT EDITOR\n#EOT EDITOR\n"

-- a file with one tag table, and a list with two
abbrev ours : List ℕ
ours = top ++ bytes "#BOT WORDTAG\n1 NN Y noun\n#EOT WORDTAG\n"

abbrev tags : List ℕ
tags = top ++ bytes "#BOT WORDTAG\n0 -- N none\n1 NN Y other\n2 VB Y verb\n#EOT WORDTAG\n#BOT NODETAG\n1 S clause\n#EOT NODETAG\n"

pub record Case : Type 0 where
  pub file : List ℕ
  pub list : List ℕ
  pub place : ℕ
  pub tag : List ℕ
  pub refusal : ℕ
  pub of : ℕ
  pub start : ℕ
  pub part : List ℕ

abbrev tells : Explanation → Case → Bool
tells e c = eqb e.refusal c.refusal && eqb e.of c.of && eqb e.part.start c.start && same e.part.bytes c.part

abbrev holds : Case → Bool
holds c = tells (explained (survey_of c.file) (survey_of c.list) c.place c.tag) c

abbrev asked : ℕ → List ℕ → ℕ → ℕ → ℕ → List ℕ → Case
asked place tag refusal of start part = record { file = ours; list = tags; place = place; tag = tag; refusal = refusal; of = of; start = start; part = part }

abbrev between : List ℕ → List ℕ → ℕ → List ℕ → ℕ → ℕ → ℕ → List ℕ → Case
between file list place tag refusal of start part = record { file = file; list = list; place = place; tag = tag; refusal = refusal; of = of; start = start; part = part }

-- the file's table; the list has it too, with another row, and rows that the file lacks
abbrev cases : List Case
cases =
    asked 3 (bytes "NN") 0 1 78 (bytes "noun")
    ∷ asked 3 (bytes "VB") 26 0 0 []
    ∷ asked 3 (bytes "--") 0 1 0 []
    ∷ asked 3 (bytes "UNKNOWN") 0 1 0 []
    ∷ between tags ours 3 (bytes "--") 0 1 78 (bytes "none")
    -- only the list has the table
    ∷ asked 5 (bytes "S") 0 2 138 (bytes "clause")
    ∷ asked 5 (bytes "--") 0 2 0 []
    ∷ asked 5 (bytes "NP") 26 0 0 []
    -- neither has it
    ∷ asked 4 (bytes "--") 26 0 0 []
    -- no tag table
    ∷ asked 0 (bytes "--") 26 0 0 []
    ∷ asked 2 (bytes "--") 26 0 0 []
    ∷ asked 8 (bytes "--") 26 0 0 []
    -- tags that no row can carry
    ∷ asked 3 [] 26 0 0 []
    ∷ asked 3 (bytes "%%") 26 0 0 []
    -- refused: the file, and the list even where the file could answer
    ∷ between (take 9 ours) [] 3 (bytes "NN") 3 0 0 []
    ∷ between ours (take 22 tags) 3 (bytes "NN") 23 0 0 []
    ∷ []

pub explained_by_hand : T (every holds cases)
unfolding ignored right_trim trim_from front_bytes behind_from columns_from fields comment value_from decimal broken checked has_id has_tag known origin_row editor_row tag_row heading_of end_rules end_of pairs paired parents_written tags_short tags_known parents_allowed word_of phrase_of format_of table_opened table_ended first_column at_start behind_one at_top among_rows among_nodes line_at taken judged after step survey_of described
explained_by_hand = tt
