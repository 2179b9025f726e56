-- What a line is taken for, told by what a reading keeps: its state, the table sheet, the seen set, and the marks of the
-- phrase numbers that the sentence has.
use Rattle.std.specs.Prelude.{ℕ, ◌+◌, ◌≤◌, ◌≡◌, List, length, leb, eqb}
use Rattle.rules.specs.Lists.{pick}
use Rattle.rules.specs.Bytes.{ignored}
use Rattle.rules.specs.Texts.{Text}
use Rattle.rules.specs.Numbers.{file_limit, edge_limit}
use Rattle.rules.specs.Rules.{Verdict, granted}
use Rattle.rules.specs.Sentences.{SoFar}
use Rattle.rules.specs.Keywords.{first_column}
use Rattle.rules.specs.Sheets.{row_place, seen_set_size}
use Rattle.rules.specs.Lines.{Taking, ignored_line, at_start, behind_one, at_top, among_rows, among_nodes}
use Rattle.seen.specs.Bits.{bit_at}
use Rattle.table_sheet.specs.SheetRows.{rows_from, tables_in}
use Rattle.table_sheet.specs.Outlines.{Outlined}
use Rattle.citations.specs.Tabled.{Tabled}
use Rattle.tables.specs.RowRules.{RowsReady}
use Rattle.nodes.specs.NodeLines.{marked}
use Rattle.judging.specs.States.{table_open, rows_open}
use Rattle.judging.specs.declared.state.Tally.{Tally}
use Rattle.judging.specs.declared.state.Phase.{Phase}
use Rattle.judging.specs.declared.state.Phase.TheVariants.{Start, Top, InTable, InSentence, Behind}
use Rattle.judging.specs.declared.state.State.{State}

abbrev pub so_far_by : Tally → List ℕ → ℕ → SoFar
so_far_by t marks stamp =
    record {
      number = t.number;
      words = t.words;
      no_phrase = eqb t.phrases 0;
      edges = t.edges;
      given_before = marked marks stamp;
      no_gap = eqb t.highest_phrase (499 + t.phrases);
      no_absent = leb t.highest_parent (499 + t.phrases);
    }

module _ (file : List ℕ) (line : Text) (s : State) (sheet seen marks : List ℕ) where
  unfoldable pub line_by : Phase → Verdict Taking
  line_by Start = at_start line (first_column line)
  line_by Top = at_top line (first_column line) (tables_in file sheet) (bit_at seen)
  line_by (InTable n rows) = among_rows line (first_column line) n (rows_from file sheet (row_place n 0) rows)
  line_by (InSentence t) =
      among_nodes line (first_column line) s.format (tables_in file sheet) (so_far_by t marks (s.handed + 1))
  line_by Behind = behind_one line (first_column line) (tables_in file sheet) (bit_at seen)

  unfoldable pub judged_by : Verdict Taking
  unfolding line_by
  judged_by = pick (ignored line.bytes) (granted ignored_line) (line_by s.phase)

-- ---- what the judges need

-- the table sheet can be looked up, and the seen set
pub record Ready (file sheet seen : List ℕ) : Type 0 where
  pub tabled : Tabled file sheet
  pub set : length seen ≡ seen_set_size

-- a sentence can be counted on
pub record Countable (t : Tally) (handed : ℕ) : Type 0 where
  pub edges : t.edges ≤ edge_limit
  pub phrases : t.phrases ≤ file_limit
  pub stamp : handed ≤ file_limit

abbrev pub Judgeable : List ℕ → State → List ℕ → List ℕ → Phase → Type 0
Judgeable file s sheet seen Start = Unit {0}
Judgeable file s sheet seen Top = Ready file sheet seen
Judgeable file s sheet seen (InTable n rows) = RowsReady file sheet n rows
Judgeable file s sheet seen (InSentence t) = Ready file sheet seen × Countable t s.handed
Judgeable file s sheet seen Behind = Ready file sheet seen

-- the outlines of the rows of the table that is being read are noted; where none is, there is no row
abbrev pub RowsOutlined : List ℕ → List ℕ → List ℕ → Phase → Type 0
RowsOutlined outlines file sheet phase =
    Outlined outlines file sheet (table_open phase) (row_place (table_open phase) 0) (rows_open phase)
