-- What the survey answers in each of the three cases of rules/Survey: a size that is wrong, a file too long, a file that
-- is read.
use Prim.Native.Nat.{ℕ}
use mathlib.Core.Path.{◌≡◌, refl, ap, ◌∙◌}
use mathlib.Core.Bool.{true, false, ◌&&◌}
use mathlib.Core.List.{List}
use lib.ListN.{length}
use lib.Dec.{eqb}
use borrow.Author.Tests.{eq-eqb, eqb-true}
use Rattle.rules.specs.Sheets.{table_sheet_size, seen_set_size}
use Rattle.rules.proofs.Conjunctions.{and_left, and_right}
use Rattle.rules.specs.Index.{beginnings, index_size, after_indexing}
use Rattle.rules.specs.Reading.{begin, read}
use Rattle.rules.specs.Survey.{nothing_read, told, sheets_fit, file_fits, survey_of, after_survey}
use Rattle.reading.specs.Closing.{FileRead}
use Rattle.reading.specs.declared.Read.{Read}
use Rattle.survey.specs.declared.Surveyed.{Surveyed}
use Rattle.survey.specs.Promise.{outcome, as_surveyed, surveyed_as, indexed}

-- the sheets that fit have their sizes
pub fitting : (sheet seen : List ℕ) → sheets_fit sheet seen ≡ true → (length sheet ≡ table_sheet_size) × (length seen ≡ seen_set_size)
fitting sheet seen e = (
  eqb-true (length sheet) table_sheet_size (and_left (eqb (length sheet) table_sheet_size) (eqb (length seen) seen_set_size) e),
  eqb-true (length seen) seen_set_size (and_right (eqb (length sheet) table_sheet_size) (eqb (length seen) seen_set_size) e),
)

module _ (file sheet seen : List ℕ) (r : Surveyed) where
  abbrev Promised : List ℕ → List ℕ → Type 0
  Promised sheet' seen' = outcome r sheet' seen' ≡ after_survey file sheet seen

  pub unsized : sheets_fit sheet seen ≡ false → r ≡ as_surveyed (told (nothing_read 1)) → Promised sheet seen
  unfolding after_survey
  unsized h q = rw (h, q)

  pub too_long : sheets_fit sheet seen ≡ true → file_fits file ≡ false → r ≡ as_surveyed (told (nothing_read 2)) → Promised sheet seen
  unfolding after_survey
  too_long h i q = rw (h, i, q)

  pub read_whole : (sheet' seen' begins : List ℕ) (from size : ℕ) (x : Read) → sheets_fit sheet seen ≡ true → file_fits file ≡ true
      → r ≡ surveyed_as x → FileRead (read begin file) x sheet' seen' from size begins → Promised sheet' seen'
  unfolding after_survey survey_of
  read_whole sheet' seen' begins from size x h i q f = rw (h, i, q, f.answer, f.tables_are, f.seen_is)

-- ---- the index

module _ (file sheet seen places : List ℕ) (r : Surveyed) where
  abbrev Indexes : List ℕ → List ℕ → List ℕ → Type 0
  Indexes sheet' seen' places' = indexed r sheet' seen' places' ≡ after_indexing file sheet seen places

  pub unsized_index : (sheets_fit sheet seen && eqb (length places) index_size) ≡ false → r ≡ as_surveyed (told (nothing_read 1)) → Indexes sheet seen places
  unfolding after_indexing
  unsized_index h q = rw (h, q)

  module _ (sized : sheets_fit sheet seen ≡ true) (long : length places ≡ index_size) where
    pub too_long_index : file_fits file ≡ false → r ≡ as_surveyed (told (nothing_read 2)) → Indexes sheet seen places
    unfolding after_indexing
    too_long_index i q = rw (sized, eq-eqb (length places) index_size long, i, q)

    pub read_index : (sheet' seen' begins : List ℕ) (x : Read) → file_fits file ≡ true → r ≡ surveyed_as x
        → FileRead (read begin file) x sheet' seen' 0 (length places) begins → Indexes sheet' seen' begins
    unfolding after_indexing survey_of
    read_index sheet' seen' begins x i q f =
        ap (λ (b : List ℕ). indexed r sheet' seen' b) (f.begins_are ∙ ap (λ (n : ℕ). beginnings 0 n (read begin file).handed) long)
        ∙ rw (sized, eq-eqb (length places) index_size long, i, q, f.answer, f.tables_are, f.seen_is) refl
