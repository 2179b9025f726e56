-- What is known of a reading between two lines, beside where it stands: of the table sheet, of the sentence being read, and
-- of the marks of its phrases.
use Prim.Native.Nat.{ℕ, suc, ◌≤◌, ◌<◌}
use mathlib.Core.Path.{◌≡◌}
use mathlib.Core.Bool.{true, false}
use Rattle.std.specs.Prelude.{None}
use mathlib.Core.List.{List, ◌++◌}
use lib.ListN.{length, get_or}
use Rattle.rules.specs.Lists.{every, member}
use Rattle.rules.specs.Numbers.{word_limit, edge_limit, sentence_number}
use Rattle.rules.specs.Tables.{Tables, Row, table}
use Rattle.rules.specs.Sentences.{Sentence, listed, edges_of}
use Rattle.rules.specs.Sheets.{table_count, table_sheet}
use Rattle.rules.specs.Phases.{Phase, start, top, in_table, in_sentence, behind_sentence, tables_at}
use Rattle.rules.proofs.NoGap.{NewNumbers}
use Rattle.rules.proofs.NoAbsent.{climbing}
use Rattle.table_sheet.specs.OpenSheets.{open_sheet}
use Rattle.table_sheet.specs.Standing.{RowsHaveRoom, TablesHaveRoom, RowsStand, TablesStand}
use Rattle.nodes.specs.NodeLines.{marked}

-- rows of a table that is being read stand in the sheet already, its count is still 0
abbrev pub sheet_of : Phase → List ℕ
sheet_of start = table_sheet (tables_at start)
sheet_of (top p) = table_sheet p.tables
sheet_of (in_table p n rs) = open_sheet p.tables n rs
sheet_of (in_sentence p s) = table_sheet p.tables
sheet_of (behind_sentence p) = table_sheet p.tables

-- ---- what is known

pub record TablesKept (file : List ℕ) (ts : Tables) : Type 0 where
  pub fit : TablesHaveRoom ts
  pub stand : TablesStand file ts

pub record RowsKept (file : List ℕ) (ts : Tables) (n : ℕ) (rs : List Row) : Type 0 where
  pub tables : TablesKept file ts
  pub place : n < table_count
  pub absent : table n ts ≡ None
  pub few : RowsHaveRoom rs
  pub stand : RowsStand file rs

-- ns are the numbers of the sentences handed out
pub record SentenceKept (file ns : List ℕ) (ts : Tables) (s : Sentence) : Type 0 where
  pub tables : TablesKept file ts
  pub number : s.heading.number ≤ sentence_number.highest
  pub unused : member s.heading.number ns ≡ false
  pub words : length s.words ≤ word_limit
  pub edges : edges_of s ≤ edge_limit
  pub numbered : NewNumbers s.phrases
  pub climb : every climbing (s.words ++ s.phrases) ≡ true

abbrev pub Known : List ℕ → List ℕ → Phase → Type 0
Known file ns start = Unit {0}
Known file ns (top p) = TablesKept file p.tables
Known file ns (in_table p n rs) = RowsKept file p.tables n rs
Known file ns (in_sentence p s) = SentenceKept file ns p.tables s
Known file ns (behind_sentence p) = TablesKept file p.tables

-- no mark is larger than this
abbrev pub Stamped : List ℕ → ℕ → Type 0
Stamped marks stamp = (k : ℕ) → get_or marks k 0 ≤ stamp

-- in a sentence the marks with its stamp tell its phrases
pub record Telling (marks : List ℕ) (count : ℕ) (s : Sentence) : Type 0 where
  pub stamped : Stamped marks (suc count)
  pub tell : (n : ℕ) → marked marks (suc count) n ≡ listed s.phrases n

-- count is the number of sentences handed out
abbrev pub Marks : List ℕ → ℕ → Phase → Type 0
Marks marks count start = Stamped marks count
Marks marks count (top p) = Stamped marks count
Marks marks count (in_table p n rs) = Stamped marks count
Marks marks count (in_sentence p s) = Telling marks count s
Marks marks count (behind_sentence p) = Stamped marks count
