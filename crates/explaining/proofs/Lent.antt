-- What an explaining answers and leaves in the lent buffers, for each way out; and what a survey on the way leaves.
use Prim.Native.Nat.{ℕ, ◌+◌, ◌-◌, ◌≤◌}
use native.Mathlib.Omega.{arith}
use mathlib.Core.Path.{◌≡◌, refl, sym, ap, ap₂, ◌∙◌}
use mathlib.Core.Bool.{true, false, ◌&&◌}
use mathlib.Core.List.{List}
use lib.ListN.{length, take, drop, replicate}
use lib.Dec.{eqb}
use borrow.Author.Tests.{eq-eqb, ne_eqb, le-leb}
use Rattle.rules.specs.Numbers.{file_limit}
use Rattle.rules.specs.Tables.{Tables, there}
use Rattle.rules.specs.Sheets.{table_sheet_size, seen_set_size, table_sheet}
use Rattle.rules.specs.Places.{LiesIn}
use Rattle.rules.specs.Survey.{survey_of, sheets_fit, file_fits, SurveyOutcome, after_survey}
use Rattle.survey.specs.declared.Surveyed.{Surveyed}
use Rattle.survey.specs.Promise as survey
use Rattle.table_sheet.specs.SheetRows.{tables_in}
use Rattle.survey.proofs.Lent.{fitting}
use Rattle.rules.specs.Explaining.{tag_rows, description, refused_by, part_of, explained, ExplainingOutcome, after_explaining}
use Rattle.explaining.specs.declared.Explained.{Explained}
use Rattle.explaining.specs.Promise.{as_explained, Placed, placed, place_outcome, part_told, part_outcome, tag_count, Telling}
use Rattle.rules.proofs.LiesInside.{lies_inside}
use Rattle.citations.proofs.SurveyedTables.{tables_back}
use Rattle.rules.proofs.ExplainedThere.{part_stands}
use Rattle.explaining.proofs.TagTables.{sheet_tells, file_has, file_lacks}

-- ---- a survey on the way

still_fit : (sheet seen sheet' seen' : List ℕ) → length sheet' ≡ length sheet → length seen' ≡ length seen → sheets_fit sheet seen ≡ true → sheets_fit sheet' seen' ≡ true
still_fit sheet seen sheet' seen' p q e = ap₂ (λ (m n : ℕ). eqb m table_sheet_size && eqb n seen_set_size) p q ∙ e

pub record Left (file : List ℕ) (r : Surveyed) (sheet seen : List ℕ) : Type 0 where
  pub refusal : r.refusal ≡ (survey_of file).refusal
  pub tables : sheet ≡ table_sheet (survey_of file).tables
  pub fits : sheets_fit sheet seen ≡ true

pub surveyed : (file sheet seen : List ℕ) (r : Surveyed) (sheet' seen' : List ℕ) → sheets_fit sheet seen ≡ true → length file ≤ file_limit
    → length sheet' ≡ length sheet → length seen' ≡ length seen
    → survey.outcome r sheet' seen' ≡ after_survey file sheet seen → Left file r sheet' seen'
unfolding after_survey
surveyed file sheet seen r sheet' seen' fits short p q e =
    let o = rw (fits, le-leb (length file) file_limit short) at e in
    record {
      refusal = ap (λ (x : SurveyOutcome). x.answer.refusal) o;
      tables = ap (λ (x : SurveyOutcome). x.tables) o;
      fits = still_fit sheet seen sheet' seen' p q fits;
    }

module _ (file : List ℕ) (r : Surveyed) (sheet seen : List ℕ) (left : Left file r sheet seen) where
  pub telling : Telling file sheet
  telling = rw left.tables (sheet_tells file)

  pub as_read : (of place : ℕ) (tag : List ℕ) → as_explained (part_of of (description (tables_in file sheet) place tag)) ≡ as_explained (part_of of (description (survey_of file).tables place tag))
  as_read of place tag =
      ap (λ (ts : Tables). as_explained (part_of of (description ts place tag))) (ap (tables_in file) left.tables ∙ tables_back file)

  pub has_table : (place : ℕ) → (tag_count sheet place ≡ 0 → ⊥) → there (tag_rows place (survey_of file).tables) ≡ true
  has_table place d = file_has file place (λ z. d (ap (λ (l : List ℕ). tag_count l place) left.tables ∙ z))

  pub lacks_table : (place : ℕ) → tag_count sheet place ≡ 0 → there (tag_rows place (survey_of file).tables) ≡ false
  lacks_table place e = file_lacks file place (sym (ap (λ (l : List ℕ). tag_count l place) left.tables) ∙ e)

-- ---- both read

module _ (file list : List ℕ) (place : ℕ) (tag : List ℕ) (r : Explained) where
  abbrev Told : Type 0
  Told = r ≡ as_explained (explained (survey_of file) (survey_of list) place tag)

  pub file_refused : ((survey_of file).refusal ≡ 0 → ⊥) → r ≡ as_explained (refused_by (survey_of file).refusal) → Told
  file_refused d e = e ∙ rw (ne_eqb (survey_of file).refusal 0 d) refl

  module _ (accepted : (survey_of file).refusal ≡ 0) where
    pub list_refused : ((survey_of list).refusal ≡ 0 → ⊥) → r ≡ as_explained (refused_by (survey_of list).refusal) → Told
    list_refused d e = e ∙ rw (eq-eqb (survey_of file).refusal 0 accepted, ne_eqb (survey_of list).refusal 0 d) refl

    module _ (both : (survey_of list).refusal ≡ 0) where
      pub from_file : there (tag_rows place (survey_of file).tables) ≡ true → r ≡ as_explained (part_of 1 (description (survey_of file).tables place tag)) → Told
      from_file h e = e ∙ rw (eq-eqb (survey_of file).refusal 0 accepted, eq-eqb (survey_of list).refusal 0 both, h) refl

      pub from_list : there (tag_rows place (survey_of file).tables) ≡ false → r ≡ as_explained (part_of 2 (description (survey_of list).tables place tag)) → Told
      from_list h e = e ∙ rw (eq-eqb (survey_of file).refusal 0 accepted, eq-eqb (survey_of list).refusal 0 both, h) refl

-- ---- with lent buffers

module _ (file list : List ℕ) (place : ℕ) (tag sheet seen : List ℕ) (r : Explained) where
  abbrev Promised : List ℕ → List ℕ → Type 0
  Promised sheet' seen' = place_outcome r sheet' seen' ≡ placed (after_explaining file list place tag sheet seen)

  pub unsized : sheets_fit sheet seen ≡ false → r ≡ as_explained (refused_by 1) → Promised sheet seen
  unfolding after_explaining
  unsized h e = rw (h, e)

  module _ (fits : sheets_fit sheet seen ≡ true) where
    pub too_long : file_fits file ≡ false → r ≡ as_explained (refused_by 2) → Promised sheet seen
    unfolding after_explaining
    too_long h e = rw (fits, h, e)

    module _ (short : file_fits file ≡ true) where
      pub too_long_list : file_fits list ≡ false → r ≡ as_explained (refused_by 2) → Promised sheet seen
      unfolding after_explaining
      too_long_list h e = rw (fits, short, h, e)

      pub explained_whole : file_fits list ≡ true → r ≡ as_explained (explained (survey_of file) (survey_of list) place tag)
          → (sheet' seen' sheet'' seen'' : List ℕ) → length sheet' ≡ length sheet → length seen' ≡ length seen
          → sheet'' ≡ replicate (length sheet') 0 → seen'' ≡ replicate (length seen') 0 → Promised sheet'' seen''
      unfolding after_explaining
      explained_whole h e sheet' seen' sheet'' seen'' p q s t =
          let f = fitting sheet seen fits in
          ap₂ (place_outcome r) (s ∙ ap (λ (n : ℕ). replicate n 0) (p ∙ f.0)) (t ∙ ap (λ (n : ℕ). replicate n 0) (q ∙ f.1))
          ∙ ap (λ (x : Explained). place_outcome x (replicate table_sheet_size 0) (replicate seen_set_size 0)) e
          ∙ rw (fits, short, h) refl

-- ---- as a part

module _ (file list : List ℕ) (place : ℕ) (tag sheet seen : List ℕ) (r : Explained) (sheet' seen' : List ℕ)
    (e : place_outcome r sheet' seen' ≡ placed (after_explaining file list place tag sheet seen)) where
  abbrev o : ExplainingOutcome
  o = after_explaining file list place tag sheet seen

  told_so : r ≡ as_explained o.answer
  told_so = ap (λ (x : Placed). x.answer) e

  -- from the one of the two that has these bytes
  module _ (whole : List ℕ) (lies : LiesIn whole o.answer.part) where
    inside : r.start + r.len ≤ length whole
    inside =
        omega (
          arith,
          ap (λ (x : Explained). x.start) told_so,
          ap (λ (x : Explained). x.len) told_so,
          lies_inside whole o.answer.part lies,
        )

    its_bytes : take (r.start + r.len - r.start) (drop r.start whole) ≡ o.answer.part.bytes
    its_bytes =
        ap (λ (n : ℕ). take n (drop r.start whole)) (let m : r.start + r.len - r.start ≡ r.len = omega arith in m)
        ∙ ap (λ (x : Explained). take x.len (drop x.start whole)) told_so
        ∙ lies.found

    as_part : part_outcome r.refusal (take (r.start + r.len - r.start) (drop r.start whole)) sheet' seen' ≡ part_told o
    as_part =
        ap₂ (λ (n : ℕ) (bytes : List ℕ). part_outcome n bytes sheet' seen') (ap (λ (x : Explained). x.refusal) told_so) its_bytes
        ∙ ap₂ (part_outcome o.answer.refusal o.answer.part.bytes) (ap (λ (x : Placed). x.tables) e) (ap (λ (x : Placed). x.seen) e)

  module _ (of_list : r.of ≡ 2) where
    in_list : LiesIn list o.answer.part
    in_list = (part_stands file list place tag sheet seen).in_list (sym (ap (λ (x : Explained). x.of) told_so) ∙ of_list)

    pub inside_list : r.start + r.len ≤ length list
    inside_list = inside list in_list

    pub list_part : part_outcome r.refusal (take (r.start + r.len - r.start) (drop r.start list)) sheet' seen' ≡ part_told o
    list_part = as_part list in_list

  module _ (other : r.of ≡ 2 → ⊥) where
    in_file : LiesIn file o.answer.part
    in_file = (part_stands file list place tag sheet seen).in_file (λ z. other (ap (λ (x : Explained). x.of) told_so ∙ z))

    pub inside_file : r.start + r.len ≤ length file
    inside_file = inside file in_file

    pub file_part : part_outcome r.refusal (take (r.start + r.len - r.start) (drop r.start file)) sheet' seen' ≡ part_told o
    file_part = as_part file in_file
