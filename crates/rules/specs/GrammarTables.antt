-- What a table of a file is. Document 01, "The file from top to bottom": `#BOT NAME`, rows, `#EOT NAME`; what its rows are
-- together, and which of them can be cited.
use Rattle.std.specs.Prelude.{ℕ, ◌≤◌, ◌<◌, ◌≡◌, ◌⊎◌, ◌↔◌, Bool, List, [], ◌∷◌, ◌++◌, map, length, get_or, eqb, Option, None, Some}
use Rattle.rules.specs.Lists.{pick, bytes, counting, Each}
use Rattle.rules.specs.GrammarNumbers.{table_rows}
use Rattle.rules.specs.GrammarNames.{no_tag, unknown_tag, titles, of_origin, of_editor, of_wordtag}
use Rattle.rules.specs.GrammarContent.{RowContent}
use Rattle.rules.specs.GrammarLines.{In, Differ}
use Rattle.rules.specs.GrammarColumns.{Columns}
use Rattle.rules.specs.GrammarRows.{RowLine, row_says, ids1, firsts, OriginRow, EditorRow, TagRow}

-- which of the seven tables it is, from ORIGIN, 0, to SECEDGETAG, 6; its lines
pub record TableLines : Type 0 where
  pub which : ℕ
  pub bot : List ℕ
  pub rows : List RowLine
  pub eot : List ℕ

-- ---- a table's rows together

-- ids stand in order: -1 if given, 0 if given, then 1, 2, 3 without a gap (each here with one added)
pub record IdsInOrder (ids : List ℕ) : Type 0 where
  pub minus_given : Bool
  pub zero_given : Bool
  pub others : ℕ
  pub are : ids ≡ pick minus_given (0 ∷ []) [] ++ pick zero_given (1 ∷ []) [] ++ counting 2 others

-- row -1 carries UNKNOWN, row 0 --, no other row carries either
pub record Carries (r : RowLine) : Type 0 where
  pub minus : r.id1 ≡ 0 ↔ r.first ≡ unknown_tag
  pub zero_row : r.id1 ≡ 1 ↔ r.first ≡ no_tag

pub record TagTable (which : ℕ) (rows : List RowLine) : Type 0 where
  pub each_row : Each (TagRow which) rows
  pub in_order : IdsInOrder (ids1 rows)
  pub carried : Each Carries rows
  pub tags_differ : Differ (firsts rows)

pub record OriginTable (rows : List RowLine) : Type 0 where
  pub each_row : Each OriginRow rows
  pub ids_differ : Differ (ids1 rows)

pub record EditorTable (rows : List RowLine) : Type 0 where
  pub each_row : Each EditorRow rows
  pub ids_differ : Differ (ids1 rows)

pub record RowsFit (which : ℕ) (rows : List RowLine) : Type 0 where
  pub at_most : length rows ≤ table_rows
  pub of_origins : which ≡ of_origin → OriginTable rows
  pub of_editors : which ≡ of_editor → EditorTable rows
  pub of_tags : of_wordtag ≤ which → TagTable which rows

-- a keyword and the name of a table, and nothing else
abbrev pub Names : List ℕ → ℕ → List ℕ → Type 0
Names keyword which line = Columns line (keyword ∷ get_or titles which [] ∷ [])

pub record TableFits (t : TableLines) : Type 0 where
  pub one_of_seven : t.which < 7
  pub begins : Names (bytes "#BOT") t.which t.bot
  pub rows_fit : RowsFit t.which t.rows
  pub ends : Names (bytes "#EOT") t.which t.eot

abbrev pub table_lines : TableLines → List (List ℕ)
table_lines t = t.bot ∷ map (λ (r : RowLine). r.line) t.rows ++ (t.eot ∷ [])

-- ---- the tables of a file

abbrev pub whiches : List TableLines → List ℕ
whiches ts = map (λ (t : TableLines). t.which) ts

-- each at most once, in any order; the first two must be there
pub record TablesFit (ts : List TableLines) : Type 0 where
  pub each_table : Each TableFits ts
  pub once : Differ (whiches ts)
  pub origin_there : In of_origin (whiches ts)
  pub editor_there : In of_editor (whiches ts)

-- the rows of the table at a place, if the file has it
abbrev pub rows_named : List TableLines → ℕ → Option (List RowContent)
rows_named [] which = None
rows_named (t ∷ ts) which = let others = rows_named ts which in pick (eqb t.which which) (Some (map row_says t.rows)) others

-- what the tables say, in the order of the seven names
abbrev pub tables_say : List TableLines → List (Option (List RowContent))
tables_say ts = map (rows_named ts) (counting 0 7)

-- one more than an id that a row of the file's table has
abbrev pub HasRow : List TableLines → ℕ → ℕ → Type 0
HasRow ts which id1 = (t : TableLines) × (In t ts) × (t.which ≡ which) × (In id1 (ids1 t.rows))

-- a tag must stand in its table if the file has that table; -- and UNKNOWN always may
abbrev pub Known : List TableLines → ℕ → List ℕ → Type 0
Known ts which tag = (tag ≡ no_tag) ⊎ (tag ≡ unknown_tag) ⊎ ((t : TableLines) → In t ts → t.which ≡ which → In tag (firsts t.rows))
