-- What the reading of a file within the limit leaves is what its survey says: it can be printed from, and its tidy text is what
-- is printed.
use Prim.Native.Nat.{ℕ, ◌≤◌}
use native.Mathlib.Omega.{arith}
use mathlib.Core.Path.{◌≡◌, sym, ap, ap₂, ◌∙◌, subst}
use mathlib.Core.Bool.{true}
use mathlib.Core.List.{List}
use lib.ListN.{length}
use Rattle.rules.specs.Lists.{Each}
use Rattle.rules.specs.Reading.{begin, read, numbers}
use Rattle.rules.specs.Sheets.{table_sheet, seen_set}
use Rattle.rules.specs.Survey.{Survey, answered, told, survey_of, file_fits}
use Rattle.rules.specs.Index.{beginnings, index_size}
use Rattle.rules.specs.Meaning.{meant_tables}
use Rattle.rules.specs.Tables.{Tables}
use Rattle.rules.specs.Tidy.{tables_text}
use Rattle.rules.specs.Writing.{tidy_of}
use Rattle.rules.proofs.Beginnings.{begins_there}
use Rattle.rules.proofs.KeptReading.{survey_read}
use Rattle.reading.specs.Closing.{read_as, FileRead}
use Rattle.reading.specs.declared.Read.{Read}
use Rattle.table_sheet.specs.SheetRows.{tables_in}
use Rattle.printing.specs.Over.{Put}
use Rattle.printing.proofs.PutLaws.{put_then}
use Rattle.table_text.specs.TablesShown.{tables_most}
use Rattle.table_text.specs.WholeSheets.{WholeSheet}
use Rattle.writing.specs.TextParts.{format_text, sentences_text, parts_text, sentences_most, file_most}
use Rattle.writing.specs.Ready.{Entry}
use Rattle.writing.proofs.SentencesByNumber.{tidy_by_parts}
use Rattle.writing.proofs.HandedReady.{entries_ready}
use Rattle.citations.proofs.SurveyedTables.{tables_back}
use Rattle.writing.proofs.TablesKnown.{tables_told}

-- ---- the parts one behind the other

pub parts_put : (file : List ℕ) (tables : Tables) (begins : List ℕ) {out : List ℕ} {headed : ℕ} {front : List ℕ} {tabled : ℕ} {between : List ℕ} {end : ℕ} {after : List ℕ}
    → Put (length format_text) format_text 0 out headed front → Put tables_most (tables_text 0 (meant_tables tables)) headed front tabled between
    → Put sentences_most (sentences_text file begins) tabled between end after → Put file_most (parts_text file tables begins) 0 out end after
unfolding parts_text
parts_put file tables begins p q r = put_then (put_then p q) r

-- ---- a file that is read

module _ (file : List ℕ) (h : file_fits file ≡ true) (x : Read) (tables seen begins : List ℕ) (size : ℕ) (f : FileRead (read begin file) x tables seen 0 size begins) where
  abbrev v : Survey
  v = survey_of file

  is : survey_of file ≡ answered (read begin file)
  is = survey_read file h

  pub answer_is : x ≡ read_as (told v)
  answer_is = f.answer ∙ ap (λ (s : Survey). read_as (told s)) (sym is)

  pub tables_are : tables ≡ table_sheet v.tables
  tables_are = f.tables_are ∙ ap (λ (s : Survey). table_sheet s.tables) (sym is)

  pub seen_is : seen ≡ seen_set (numbers v.handed)
  seen_is = f.seen_is ∙ ap (λ (s : Survey). seen_set (numbers s.handed)) (sym is)

  begins_are : beginnings 0 size v.handed ≡ begins
  begins_are = ap (λ (s : Survey). beginnings 0 size s.handed) is ∙ sym f.begins_are

  pub told_tables : WholeSheet file tables
  told_tables = subst (WholeSheet file) (sym tables_are) (tables_told file)

  module _ (e : size ≡ index_size) where
    index_is : beginnings 0 index_size v.handed ≡ begins
    index_is = ap (λ (n : ℕ). beginnings 0 n v.handed) (sym e) ∙ begins_are

    pub begins_ready : Each (Entry file) begins
    begins_ready = subst (Each (Entry file)) index_is (entries_ready file)

    pub begins_few : length begins ≤ index_size
    begins_few = let l : length begins ≡ index_size = ap length (sym index_is) ∙ (begins_there file index_size).count in omega (arith, l)

    pub text_is : v.refusal ≡ 0 → tidy_of file ≡ parts_text file (tables_in file tables) begins
    text_is z = tidy_by_parts file z ∙ ap₂ (parts_text file) (sym (ap (tables_in file) tables_are ∙ tables_back file)) index_is
