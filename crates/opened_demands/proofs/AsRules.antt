-- What the contracts of the openings say, in the rules' own words: each refusal, and what each buffer then holds. From the
-- rules of openings with a list of records, by whether the buffers have their sizes.
use Prim.Native.Nat.{ℕ}
use mathlib.Core.Path.{◌≡◌, refl, sym, ap, ◌∙◌, subst}
use mathlib.Core.Logic.{◌↔◌}
use mathlib.Core.Bool.{true, false, ◌&&◌}
use Rattle.std.specs.Prelude.{Some}
use mathlib.Core.List.{List}
use lib.ListN.{length, replicate}
use lib.Dec.{eqb}
use borrow.Author.Tests.{eq-eqb, eqb-true}
use Rattle.rules.specs.Lists.{member}
use Rattle.rules.specs.Numbers.{edge_limit}
use Rattle.rules.specs.Sentences.{Sentence}
use Rattle.rules.specs.Reading.{numbers}
use Rattle.rules.specs.Sheets.{EdgeRecord, sentence_sheet, edge_list}
use Rattle.rules.specs.Survey.{SurveyOutcome, survey_of, sheets_fit}
use Rattle.rules.specs.SentenceFrom.{sentence_from}
use Rattle.rules.specs.Opening.{after_opening_at}
use Rattle.rules.specs.Layout.{zero_record, flat_list}
use Rattle.rules.specs.LentBuffers.{OpeningRule}
use Rattle.rules.specs.IndexRules.{SentenceSized, OpeningAtRule}
use Rattle.rules.proofs.Conjunctions.{and_left, and_right, false_if_never}
use Rattle.rules.proofs.Sizes.{sheets_fit_lem, fit_sheets, long_misfits, wrong_sizes}
use Rattle.rules.proofs.OpenedExactly.{opened_exactly}
use Rattle.rules.proofs.OpenedThere.{opened_at_exactly}
use Rattle.opening.specs.FlatLists.{edge_records}
use Rattle.opening.specs.Promise.{all_flat_fit, flat_fits, after_opening_flat_at}
use Rattle.opening.proofs.Flattened.{length_records, flat_none}
use Rattle.opening.proofs.Lent.{unfit, too_long, unfit_at, too_long_at}
use Rattle.opened_demands.specs.Calls.{FlatSized, AllFlatSized, Left, left, LeftThere, left_there}
use Rattle.opened_demands.specs.OpenedRules.{OpenedByNumber, OpenedAtPlace}
use Rattle.opened_demands.proofs.Outcomes.{as_left, as_there, after_flat, after_flat_at, numbers_of, numbers_there, as_records, by_records}

-- ---- sizes

module _ (sheet edges : List ℕ) where
  pub sized_sentence : flat_fits sheet edges ≡ true → FlatSized sheet edges
  sized_sentence e =
      record {
        sentence_sheet_lem = eqb-true (length sheet) 11009 (and_left (eqb (length sheet) 11009) (eqb (length edges) 2048) e);
        edge_list_lem = eqb-true (length edges) 2048 (and_right (eqb (length sheet) 11009) (eqb (length edges) 2048) e);
      }

  pub fits_sentence : FlatSized sheet edges → flat_fits sheet edges ≡ true
  fits_sentence s = rw (eq-eqb (length sheet) 11009 s.sentence_sheet_lem, eq-eqb (length edges) 2048 s.edge_list_lem) refl

  pub misfits_sentence : (FlatSized sheet edges → ⊥) → flat_fits sheet edges ≡ false
  misfits_sentence other = false_if_never (flat_fits sheet edges) (λ e. other (sized_sentence e))

module _ (tables seen sheet edges : List ℕ) where
  abbrev front : Type 0
  front = sheets_fit tables seen && eqb (length sheet) 11009 ≡ true

  pub fits_all : AllFlatSized tables seen sheet edges → all_flat_fit tables seen sheet edges ≡ true
  fits_all s =
      rw (sheets_fit_lem tables seen s.sheets, eq-eqb (length sheet) 11009 s.sentence.sentence_sheet_lem, eq-eqb (length edges) 2048 s.sentence.edge_list_lem) refl

  pub misfits_all : (AllFlatSized tables seen sheet edges → ⊥) → all_flat_fit tables seen sheet edges ≡ false
  misfits_all other =
      false_if_never (all_flat_fit tables seen sheet edges)
      (λ e.
      let f : front = and_left (sheets_fit tables seen && eqb (length sheet) 11009) (eqb (length edges) 2048) e in
      other (record {
        sheets = fit_sheets tables seen (and_left (sheets_fit tables seen) (eqb (length sheet) 11009) f);
        sentence =
            record {
              sentence_sheet_lem = eqb-true (length sheet) 11009 (and_right (sheets_fit tables seen) (eqb (length sheet) 11009) f);
              edge_list_lem = eqb-true (length edges) 2048 (and_right (sheets_fit tables seen && eqb (length sheet) 11009) (eqb (length edges) 2048) e);
            };
      }))

-- ---- by the sentence's number

module _ (file : List ℕ) (n : ℕ) (tables seen sheet edges : List ℕ) (o : Left) (p : o ≡ after_flat file n tables seen sheet edges) where
  abbrev es : List EdgeRecord
  es = edge_records edge_limit edges

  rule : OpeningRule file n tables seen sheet es
  rule = opened_exactly file n tables seen sheet es

  -- the survey's sheets, under an answer, a sheet and a list
  abbrev over : ℕ → List ℕ → List EdgeRecord → SurveyOutcome → Left
  over a h list v = left a v.tables v.seen h (flat_list list)

  pub by_number_lem : OpenedByNumber file n tables seen sheet edges o
  by_number_lem =
      record {
        wrong_size = λ other. p ∙ sym (ap as_left (unfit file n tables seen sheet edges (misfits_all tables seen sheet edges other)));
        too_long = λ s h. p ∙ sym (ap as_left (too_long file n tables seen sheet edges (fits_all tables seen sheet edges s) (long_misfits file h)));
        exactly =
            λ s h.
            subst (λ (x : Left). (x.answer ≡ 0) ↔ (member n (numbers (survey_of file).handed) ≡ true)) (sym (p ∙ by_records tables seen sheet edges s file n))
            (rule.exactly (as_records tables seen sheet edges s) h);
        given =
            λ s h before g back e q.
            p ∙ by_records tables seen sheet edges s file n
            ∙ ap numbers_of (rule.given (as_records tables seen sheet edges s) h before g back e q)
            ∙ ap (over 0 (sentence_sheet g.sentence) (edge_list g.sentence)) ((wrong_sizes file tables seen).filled s.sheets h);
        absent =
            λ s h e.
            p ∙ by_records tables seen sheet edges s file n
            ∙ ap numbers_of (rule.absent (as_records tables seen sheet edges s) h e)
            ∙ ap (over 24 (replicate 11009 0) (replicate 512 zero_record)) ((wrong_sizes file tables seen).filled s.sheets h)
            ∙ ap (left 24 _ _ (replicate 11009 0)) (flat_none edge_limit);
      }

-- ---- at a place

module _ (file : List ℕ) (at : ℕ) (sheet edges : List ℕ) (o : LeftThere) (p : o ≡ after_flat_at file at sheet edges) where
  abbrev list : List EdgeRecord
  list = edge_records edge_limit edges

  there : OpeningAtRule file at sheet list
  there = opened_at_exactly file at sheet list

  sized_list : FlatSized sheet edges → SentenceSized sheet list
  sized_list s = record { sentence_sheet_lem = s.sentence_sheet_lem; edge_list_lem = length_records edge_limit edges }

  records_at : FlatSized sheet edges → after_flat_at file at sheet edges ≡ numbers_there (after_opening_at file at sheet list)
  unfolding after_opening_flat_at
  records_at s = rw (eq-eqb (length edges) 2048 s.edge_list_lem) refl

  pub at_place : OpenedAtPlace file at sheet edges o
  at_place =
      record {
        wrong_size = λ other. p ∙ sym (ap as_there (unfit_at file at sheet edges (misfits_sentence sheet edges other)));
        too_long = λ s h. p ∙ sym (ap as_there (too_long_at file at sheet edges (fits_sentence sheet edges s) (long_misfits file h)));
        exactly =
            λ s h.
            subst (λ (x : LeftThere). (x.answer ≡ 0) ↔ ((s : Sentence) × (sentence_from file at ≡ Some s))) (sym (p ∙ records_at s))
            (there.exactly (sized_list s) h);
        given = λ s h t e. p ∙ records_at s ∙ ap numbers_there (there.given (sized_list s) h t e);
        absent =
            λ s h e.
            p ∙ records_at s ∙ ap numbers_there (there.absent (sized_list s) h e) ∙ ap (left_there 24 (replicate 11009 0)) (flat_none edge_limit);
      }
