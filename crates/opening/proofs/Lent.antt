-- What an opening answers and leaves in the lent buffers, for each way out.
use Prim.Native.Nat.{ℕ}
use mathlib.Core.Path.{◌≡◌, refl, sym, ap, ap₂, ◌∙◌}
use mathlib.Core.Bool.{Bool, true, false, ◌&&◌}
use Rattle.std.specs.Prelude.{Option, None, Some}
use mathlib.Core.List.{List}
use lib.ListN.{length}
use lib.Dec.{eqb}
use borrow.Author.Tests.{eqb-true}
use Rattle.rules.specs.Lists.{pick}
use Rattle.rules.specs.Numbers.{edge_limit}
use Rattle.rules.specs.Sentences.{Sentence}
use Rattle.rules.specs.Reading.{numbers}
use Rattle.rules.specs.Sheets.{table_sheet, seen_set, sentence_sheet_size, EdgeRecord}
use Rattle.rules.specs.Survey.{Survey, survey_of, sheets_fit, file_fits}
use Rattle.rules.specs.SentenceFrom.{sentence_from}
use Rattle.rules.specs.Opening.{sentence_of, opened, opened_as, after_opening, after_opening_at}
use Rattle.rules.specs.Layout.{flat_list}
use Rattle.rules.proofs.Conjunctions.{and_right}
use Rattle.opening.specs.FlatLists.{edge_records, flat_size}
use Rattle.opening.specs.Promise.{all_flat_fit, flat_fits, OpenedFlat, flattened, after_opening_flat, outcome, OpenedFlatAt, flattened_at, after_opening_flat_at, outcome_at}
use Rattle.opening.proofs.Flattened.{length_records, flat_records}

-- the list's length is tested as numbers; as records it then has its own
module _ (front : Bool) (edges : List ℕ) where
  pub records_fit : eqb (length edges) flat_size ≡ true → (front && eqb (length (edge_records edge_limit edges)) edge_limit) ≡ (front && eqb (length edges) flat_size)
  records_fit e = rw (length_records edge_limit edges, e)

back_flat : (edges : List ℕ) → eqb (length edges) flat_size ≡ true → flat_list (edge_records edge_limit edges) ≡ edges
back_flat edges e = flat_records edge_limit edges (eqb-true (length edges) flat_size e)

-- ---- by the sentence's number

abbrev filled : Survey → OpenedFlatAt → OpenedFlat
filled v o = outcome o.answer (table_sheet v.tables) (seen_set (numbers v.handed)) o.sheet o.edges

flat_opened : (v : Survey) (s : Option Sentence) → flattened (opened v s) ≡ filled v (flattened_at (opened_as s))
flat_opened v None = refl
flat_opened v (Some s) = refl

module _ (file : List ℕ) (n : ℕ) (tables seen sheet edges : List ℕ) where
  abbrev Promised : ℕ → List ℕ → List ℕ → List ℕ → List ℕ → Type 0
  Promised r tables' seen' sheet' edges' = outcome r tables' seen' sheet' edges' ≡ after_opening_flat file n tables seen sheet edges

  abbrev es : List EdgeRecord
  es = edge_records edge_limit edges

  abbrev front : Bool
  front = sheets_fit tables seen && eqb (length sheet) sentence_sheet_size

  pub unfit : all_flat_fit tables seen sheet edges ≡ false → Promised 1 tables seen sheet edges
  unfolding after_opening_flat after_opening
  unfit e = go (eqb (length edges) flat_size) refl where
    go : (t : Bool) → eqb (length edges) flat_size ≡ t → outcome 1 tables seen sheet edges
        ≡ pick t (flattened (after_opening file n tables seen sheet es)) (outcome 1 tables seen sheet edges)
    go true l = rw (records_fit front edges l, e, back_flat edges l)
    go false l = refl

  module _ (fits : all_flat_fit tables seen sheet edges ≡ true) where
    long : eqb (length edges) flat_size ≡ true
    long = and_right front (eqb (length edges) flat_size) fits

    pub too_long : file_fits file ≡ false → Promised 2 tables seen sheet edges
    unfolding after_opening_flat after_opening
    too_long h = rw (records_fit front edges long, fits, long, h, back_flat edges long)

    -- what the file is read as, and the sentence opened, if it is handed out
    pub opens : file_fits file ≡ true → (s : Option Sentence) → s ≡ sentence_of n (survey_of file).handed → (r : ℕ) (tables' seen' sheet' edges' : List ℕ)
        → tables' ≡ table_sheet (survey_of file).tables → seen' ≡ seen_set (numbers (survey_of file).handed)
        → outcome_at r sheet' edges' ≡ flattened_at (opened_as s) → Promised r tables' seen' sheet' edges'
    unfolding after_opening_flat after_opening
    opens h s q r tables' seen' sheet' edges' t u o =
        ap₂ (λ (a b : List ℕ). outcome r a b sheet' edges') t u
        ∙ ap (filled (survey_of file)) o ∙ sym (flat_opened (survey_of file) s) ∙ ap (λ (x : Option Sentence). flattened (opened (survey_of file) x)) q
        ∙ rw (records_fit front edges long, fits, long, h) refl

-- ---- by the place of its first line

module _ (file : List ℕ) (at : ℕ) (sheet edges : List ℕ) where
  abbrev PromisedAt : ℕ → List ℕ → List ℕ → Type 0
  PromisedAt r sheet' edges' = outcome_at r sheet' edges' ≡ after_opening_flat_at file at sheet edges

  pub unfit_at : flat_fits sheet edges ≡ false → PromisedAt 1 sheet edges
  unfolding after_opening_flat_at after_opening_at
  unfit_at e = go (eqb (length edges) flat_size) refl where
    go : (t : Bool) → eqb (length edges) flat_size ≡ t → outcome_at 1 sheet edges
        ≡ pick t (flattened_at (after_opening_at file at sheet (edge_records edge_limit edges))) (outcome_at 1 sheet edges)
    go true l = rw (records_fit (eqb (length sheet) sentence_sheet_size) edges l, e, back_flat edges l)
    go false l = refl

  module _ (fits : flat_fits sheet edges ≡ true) where
    long_at : eqb (length edges) flat_size ≡ true
    long_at = and_right (eqb (length sheet) sentence_sheet_size) (eqb (length edges) flat_size) fits

    pub too_long_at : file_fits file ≡ false → PromisedAt 2 sheet edges
    unfolding after_opening_flat_at after_opening_at
    too_long_at h = rw (records_fit (eqb (length sheet) sentence_sheet_size) edges long_at, fits, long_at, h, back_flat edges long_at)

    pub opens_at : file_fits file ≡ true → (r : ℕ) (sheet' edges' : List ℕ) → outcome_at r sheet' edges' ≡ flattened_at (opened_as (sentence_from file at))
        → PromisedAt r sheet' edges'
    unfolding after_opening_flat_at after_opening_at
    opens_at h r sheet' edges' o = o ∙ rw (records_fit (eqb (length sheet) sentence_sheet_size) edges long_at, fits, long_at, h) refl
