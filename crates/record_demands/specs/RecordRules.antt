-- What openings and writings with a list of records answer and leave: what the rules say of records; number by number what is
-- demanded of the openings and the writing with plain numbers; and after 1 and 2 the very records that were lent.
use Rattle.std.specs.Prelude.{ℕ, ◌≡◌, List}
use Rattle.rules.specs.Opening.{after_opening, after_opening_at}
use Rattle.rules.specs.Writing.{after_writing}
use Rattle.rules.specs.Layout.{flat_list}
use Rattle.rules.specs.LentBuffers.{AllSized, TooLong}
use Rattle.rules.specs.IndexRules.{SentenceSized}
use Rattle.writing.specs.declared.Written.{Written}
use Rattle.edges.specs.declared.Edge.{Edge}
use Rattle.opened_demands.specs.Calls.{left, left_there}
use Rattle.opened_demands.specs.OpenedRules.{OpenedByNumber, OpenedAtPlace}
use Rattle.written_demands.specs.Writings.{text_left}
use Rattle.written_demands.specs.WrittenRules.{WrittenAsCalled}
use Rattle.record_demands.specs.Records.{told_all, records_left, records_there, text_of_records}

-- the numbers of a list of records, four for each
abbrev pub numbers_told : List Edge → List ℕ
numbers_told es = flat_list (told_all es)

pub record RecordsOpened (file : List ℕ) (n : ℕ) (tables seen sheet : List ℕ) (edges : List Edge)
    (r : ℕ) (tables' seen' sheet' : List ℕ) (edges' : List Edge) : Type 0 where
  pub whole : records_left r tables' seen' sheet' edges' ≡ after_opening file n tables seen sheet (told_all edges)
  pub flat : OpenedByNumber file n tables seen sheet (numbers_told edges) (left r tables' seen' sheet' (numbers_told edges'))
  pub wrong_size : (AllSized tables seen sheet (told_all edges) → ⊥) → edges' ≡ edges
  pub too_long : AllSized tables seen sheet (told_all edges) → TooLong file → edges' ≡ edges

pub record RecordsOpenedAt (file : List ℕ) (at : ℕ) (sheet : List ℕ) (edges : List Edge)
    (r : ℕ) (sheet' : List ℕ) (edges' : List Edge) : Type 0 where
  pub whole : records_there r sheet' edges' ≡ after_opening_at file at sheet (told_all edges)
  pub flat : OpenedAtPlace file at sheet (numbers_told edges) (left_there r sheet' (numbers_told edges'))
  pub wrong_size : (SentenceSized sheet (told_all edges) → ⊥) → edges' ≡ edges
  pub too_long : SentenceSized sheet (told_all edges) → TooLong file → edges' ≡ edges

pub record RecordsWritten (file tables seen sheet : List ℕ) (edges : List Edge) (output : List ℕ)
    (r : Written) (tables' seen' sheet' : List ℕ) (edges' : List Edge) (output' : List ℕ) : Type 0 where
  pub whole : text_of_records r tables' seen' sheet' edges' output' ≡ after_writing file tables seen sheet (told_all edges) output
  pub flat : WrittenAsCalled file tables seen sheet (numbers_told edges) output
      (text_left r tables' seen' sheet' (numbers_told edges') output')
  pub wrong_size : (AllSized tables seen sheet (told_all edges) → ⊥) → edges' ≡ edges
  pub too_long : AllSized tables seen sheet (told_all edges) → TooLong file → edges' ≡ edges
