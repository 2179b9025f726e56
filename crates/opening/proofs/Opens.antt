-- From what is read and found to what an opening answers.
use Prim.Native.Nat.{ℕ, zero, suc, ◌-◌}
use native.Mathlib.Nat.{suc-sub-suc, sub-zero}
use mathlib.Core.Path.{◌≡◌, refl, sym, ap, ap₂, ◌∙◌}
use mathlib.Core.Bool.{Bool, true, false, ◌&&◌, false≢true}
use Rattle.std.specs.Prelude.{Option, None, Some}
use mathlib.Core.Logic.{◌≢◌}
use mathlib.Core.List.{List}
use lib.ListN.{length, get_or, replicate}
use lib.Dec.{eqb}
use borrow.Author.Tests.{eqb-true}
use Rattle.rules.specs.Numbers.{edge_limit}
use Rattle.rules.specs.Sentences.{Sentence}
use Rattle.rules.specs.Sheets.{sentence_sheet_size, table_sheet, seen_set}
use Rattle.rules.specs.Reading.{begin, read, numbers}
use Rattle.rules.specs.Survey.{Survey, survey_of, sheets_fit, file_fits, answered}
use Rattle.rules.specs.Index.{beginning, beginnings}
use Rattle.rules.specs.SentenceFrom.{sentence_from}
use Rattle.rules.specs.Opening.{sentence_of, opened_as}
use Rattle.rules.proofs.Conjunctions.{and_left, and_right}
use Rattle.rules.proofs.AtIndex.{at_index, not_at_index}
use Rattle.sentences.specs.SentenceRead.{SentenceRead}
use Rattle.reading.specs.Closing.{FileRead}
use Rattle.reading.specs.declared.Read.{Read}
use Rattle.opening.specs.FlatLists.{flat_size}
use Rattle.opening.specs.Promise.{all_flat_fit, flat_fits, noted_sentence, outcome_at, flattened_at, outcome, after_opening_flat}
use Rattle.opening.proofs.Flattened.{flat_none, flat_list_lem}
use Rattle.opening.proofs.Lent.{opens}

-- ---- the sentence at a place

module _ (sheet edges : List ℕ) where
  pub there : (s : Option Sentence) (r : Bool) → SentenceRead s r sheet edges → r ≡ true → outcome_at 0 sheet edges ≡ flattened_at (opened_as s)
  there None r h e = absurd (false≢true (sym h.answer ∙ e))
  there (Some s) r h e = ap₂ (outcome_at 0) h.sheet_is (h.edges_are ∙ sym (flat_list_lem s))

  pub not_there : (s : Option Sentence) (r : Bool) → SentenceRead s r sheet edges → r ≡ false → outcome_at 24 sheet edges ≡ flattened_at (opened_as s)
  not_there None r h e = ap₂ (outcome_at 24) h.sheet_is (h.edges_are ∙ sym (flat_none edge_limit))
  not_there (Some s) r h e = absurd (false≢true (sym e ∙ h.answer))

-- ---- the sentence that begins as noted

module _ (file : List ℕ) (noted : ℕ) where
  pub not_begun : (sheet edges sheet' edges' : List ℕ) → length sheet ≡ sentence_sheet_size → length edges ≡ flat_size
      → sheet' ≡ replicate (length sheet) 0 → edges' ≡ replicate (length edges) 0 → noted ≡ 0
      → outcome_at 24 sheet' edges' ≡ flattened_at (opened_as (noted_sentence file noted))
  not_begun sheet edges sheet' edges' l m p q e =
      ap₂ (outcome_at 24) (p ∙ ap (λ (n : ℕ). replicate n 0) l) (q ∙ ap (λ (n : ℕ). replicate n 0) m ∙ sym (flat_none edge_limit))
      ∙ ap (λ (n : ℕ). flattened_at (opened_as (noted_sentence file n))) (sym e)

  begun_there : (n : ℕ) → n ≢ 0 → sentence_from file (n - 1) ≡ noted_sentence file n
  begun_there zero ne = absurd (ne refl)
  begun_there (suc n) ne = ap (sentence_from file) (suc-sub-suc n 0 ∙ sub-zero n)

  pub as_begun : noted ≢ 0 → flattened_at (opened_as (sentence_from file (noted - 1))) ≡ flattened_at (opened_as (noted_sentence file noted))
  as_begun ne = ap (λ (s : Option Sentence). flattened_at (opened_as s)) (begun_there noted ne)

-- ---- the sizes

and_assoc : (a b c : Bool) → (a && b && c) ≡ (a && (b && c))
and_assoc true b c = refl
and_assoc false b c = refl

module _ (tables seen sheet edges : List ℕ) where
  abbrev both : Bool
  both = sheets_fit tables seen && flat_fits sheet edges

  pub all_fit_lem : both ≡ all_flat_fit tables seen sheet edges
  all_fit_lem = sym (and_assoc (sheets_fit tables seen) (eqb (length sheet) sentence_sheet_size) (eqb (length edges) flat_size))

pub flat_fitting : (sheet edges : List ℕ) → flat_fits sheet edges ≡ true → (length sheet ≡ sentence_sheet_size) × (length edges ≡ flat_size)
flat_fitting sheet edges e =
    let a : Bool = eqb (length sheet) sentence_sheet_size in
    let b : Bool = eqb (length edges) flat_size in
    (eqb-true (length sheet) sentence_sheet_size (and_left a b e), eqb-true (length edges) flat_size (and_right a b e))

-- ---- the sentence of a number

module _ (file : List ℕ) (n : ℕ) where
  as_noted : (noted : ℕ) → beginning (survey_of file).handed n ≡ noted → noted_sentence file noted ≡ sentence_of n (survey_of file).handed
  as_noted zero e = sym (not_at_index file n e)
  as_noted (suc at) e = at_index file n at e

  as_read : file_fits file ≡ true → answered (read begin file) ≡ survey_of file
  unfolding survey_of
  as_read h = rw h refl

  first_noted : (begins : List ℕ) (size : ℕ) → file_fits file ≡ true → begins ≡ beginnings n size (read begin file).handed → size ≡ 1
      → beginning (survey_of file).handed n ≡ get_or begins 0 0
  unfolding beginnings survey_of
  first_noted begins size h e l = rw (e, l, h) refl

  pub opened_by_number : (tables seen sheet edges : List ℕ) (x : Read) (tables' seen' begins : List ℕ) (size : ℕ) (r : ℕ) (sheet' edges' : List ℕ)
      → all_flat_fit tables seen sheet edges ≡ true → file_fits file ≡ true → FileRead (read begin file) x tables' seen' n size begins → size ≡ 1
      → outcome_at r sheet' edges' ≡ flattened_at (opened_as (noted_sentence file (get_or begins 0 0)))
      → outcome r tables' seen' sheet' edges' ≡ after_opening_flat file n tables seen sheet edges
  opened_by_number tables seen sheet edges x tables' seen' begins size r sheet' edges' fits h f l o =
      opens file n tables seen sheet edges fits h (sentence_of n (survey_of file).handed) refl r tables' seen' sheet' edges'
      (f.tables_are ∙ ap (λ (v : Survey). table_sheet v.tables) (as_read h)) (f.seen_is ∙ ap (λ (v : Survey). seen_set (numbers v.handed)) (as_read h))
      (o ∙ ap (λ (s : Option Sentence). flattened_at (opened_as s)) (as_noted (get_or begins 0 0) (first_noted begins size h f.begins_are l)))
