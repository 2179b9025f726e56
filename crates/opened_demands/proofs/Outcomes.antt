-- What openings leave where sizes are right and the file is no longer than the limit: nothing of what was lent. From there:
-- each call has one outcome.
use Prim.Native.Nat.{ℕ}
use mathlib.Core.Path.{◌≡◌, refl, sym, ap, ap₂, ◌∙◌}
use mathlib.Core.Bool.{true}
use Rattle.std.specs.Prelude.{Option, None, Some}
use mathlib.Core.List.{List}
use lib.ListN.{length}
use borrow.Author.Tests.{eq-eqb}
use Rattle.rules.specs.Numbers.{edge_limit}
use Rattle.rules.specs.Sentences.{Sentence}
use Rattle.rules.specs.Sheets.{EdgeRecord}
use Rattle.rules.specs.Survey.{Survey, survey_of}
use Rattle.rules.specs.SentenceFrom.{sentence_from}
use Rattle.rules.specs.Opening.{Opened, OpenedAt, sentence_of, opened, opened_as, after_opening}
use Rattle.rules.specs.Layout.{flat_list}
use Rattle.rules.specs.LentBuffers.{WithinLimit}
use Rattle.rules.specs.LentBuffers as records_of
use Rattle.rules.proofs.Sizes.{within_fits}
use Rattle.rules.proofs.OpenedExactly.{opens}
use Rattle.opening.specs.FlatLists.{edge_records}
use Rattle.opening.specs.Promise.{flat_fits, OpenedFlat, after_opening_flat, OpenedFlatAt, after_opening_flat_at}
use Rattle.opening.proofs.Flattened.{length_records, flat_none}
use Rattle.opening.proofs.Lent.{opens_at}
use Rattle.opened_demands.specs.Calls.{FlatSized, AllFlatSized, Left, left, LeftThere, left_there, nothing}

-- ---- outcomes as the contracts of openings say them, and as they are said here

abbrev pub as_left : OpenedFlat → Left
as_left o = left o.answer o.tables o.seen o.sheet o.edges

abbrev pub as_there : OpenedFlatAt → LeftThere
as_there o = left_there o.answer o.sheet o.edges

abbrev pub after_flat : List ℕ → ℕ → List ℕ → List ℕ → List ℕ → List ℕ → Left
after_flat file n tables seen sheet edges = as_left (after_opening_flat file n tables seen sheet edges)

abbrev pub after_flat_at : List ℕ → ℕ → List ℕ → List ℕ → LeftThere
after_flat_at file at sheet edges = as_there (after_opening_flat_at file at sheet edges)

-- the list of records as plain numbers
abbrev pub numbers_of : Opened → Left
numbers_of o = left o.answer o.tables o.seen o.sheet (flat_list o.edges)

abbrev pub numbers_there : OpenedAt → LeftThere
numbers_there o = left_there o.answer o.sheet (flat_list o.edges)

-- what is left of the sentence
abbrev pub part : Left → LeftThere
part o = left_there o.answer o.sheet o.edges

-- ---- by the sentence's number

module _ (tables seen sheet edges : List ℕ) (sized : AllFlatSized tables seen sheet edges) where
  abbrev es : List EdgeRecord
  es = edge_records edge_limit edges

  pub as_records : records_of.AllSized tables seen sheet es
  as_records = record { sheets = sized.sheets; sentence_sheet_lem = sized.sentence.sentence_sheet_lem; edge_list_lem = length_records edge_limit edges }

  module _ (file : List ℕ) (n : ℕ) where
    pub by_records : after_flat file n tables seen sheet edges ≡ numbers_of (after_opening file n tables seen sheet es)
    unfolding after_opening_flat
    by_records = rw (eq-eqb (length edges) 2048 sized.sentence.edge_list_lem) refl

    pub opened_flat : WithinLimit file → after_flat file n tables seen sheet edges ≡ numbers_of (opened (survey_of file) (sentence_of n (survey_of file).handed))
    opened_flat fits = by_records ∙ ap numbers_of (opens file n tables seen sheet es as_records fits)

pub part_opened : (v : Survey) (o : Option Sentence) → part (numbers_of (opened v o)) ≡ numbers_there (opened_as o)
part_opened v None = refl
part_opened v (Some s) = refl

pub nothing_flat : numbers_there (opened_as None) ≡ nothing
nothing_flat = ap (left_there 24 (opened_as None).sheet) (flat_none edge_limit)

-- ---- at a place

pub opened_flat_at : (file : List ℕ) (at : ℕ) (sheet edges : List ℕ) → FlatSized sheet edges → WithinLimit file
    → after_flat_at file at sheet edges ≡ numbers_there (opened_as (sentence_from file at))
opened_flat_at file at sheet edges sized fits =
    let o = opened_as (sentence_from file at) in
    let right : flat_fits sheet edges ≡ true = rw (eq-eqb (length sheet) 11009 sized.sentence_sheet_lem, eq-eqb (length edges) 2048 sized.edge_list_lem) refl in
    ap as_there (sym (opens_at file at sheet edges right (within_fits file fits) o.answer o.sheet (flat_list o.edges) refl))

-- ---- one outcome: of the same lent, and of whatever buffers of the right size held before

module _ (file : List ℕ) (n : ℕ) (tables seen sheet edges tables2 seen2 sheet2 edges2 : List ℕ) (left left2 : Left)
    (p : left ≡ after_flat file n tables seen sheet edges) (q : left2 ≡ after_flat file n tables2 seen2 sheet2 edges2) where
  pub opened_only : tables ≡ tables2 → seen ≡ seen2 → sheet ≡ sheet2 → edges ≡ edges2 → left ≡ left2
  opened_only t s h e =
      p ∙ ap₂ (λ (a b : List ℕ). after_flat file n a b sheet edges) t s ∙ ap₂ (λ (a b : List ℕ). after_flat file n tables2 seen2 a b) h e ∙ sym q

  pub opened_fresh : WithinLimit file → AllFlatSized tables seen sheet edges → AllFlatSized tables2 seen2 sheet2 edges2 → left ≡ left2
  opened_fresh fits sized sized2 = p ∙ opened_flat tables seen sheet edges sized file n fits ∙ sym (q ∙ opened_flat tables2 seen2 sheet2 edges2 sized2 file n fits)

module _ (file : List ℕ) (at : ℕ) (sheet edges sheet2 edges2 : List ℕ) (left left2 : LeftThere)
    (p : left ≡ after_flat_at file at sheet edges) (q : left2 ≡ after_flat_at file at sheet2 edges2) where
  pub opened_at_only : sheet ≡ sheet2 → edges ≡ edges2 → left ≡ left2
  opened_at_only h e = p ∙ ap₂ (λ (a b : List ℕ). after_flat_at file at a b) h e ∙ sym q

  pub opened_at_fresh : WithinLimit file → FlatSized sheet edges → FlatSized sheet2 edges2 → left ≡ left2
  opened_at_fresh fits sized sized2 = p ∙ opened_flat_at file at sheet edges sized fits ∙ sym (q ∙ opened_flat_at file at sheet2 edges2 sized2 fits)
