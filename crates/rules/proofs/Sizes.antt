-- Buffers of their fixed sizes pass the test, and no others do; so a survey refuses by 1 and by 2 as it must.
use Prim.Native.Nat.{ℕ}
use native.Mathlib.Omega.{arith}
use mathlib.Core.Path.{◌≡◌, ap₂}
use mathlib.Core.Bool.{true, false, ◌&&◌}
use mathlib.Core.List.{List}
use lib.ListN.{length}
use lib.Dec.{eqb}
use borrow.Author.Tests.{eq-eqb, eqb-true, le-leb, lt-leb}
use Rattle.rules.specs.Numbers.{file_limit}
use Rattle.rules.specs.Sheets.{EdgeRecord}
use Rattle.rules.specs.Survey.{file_fits, sheets_fit, after_survey}
use Rattle.rules.specs.Opening.{all_fit}
use Rattle.rules.specs.LentBuffers.{SheetsSized, AllSized, WithinLimit, TooLong, SurveyRule}
use Rattle.rules.proofs.Conjunctions.{and_left, and_right, false_if_never}

-- ---- sizes

module _ (tables seen : List ℕ) where
  pub sheets_fit_lem : SheetsSized tables seen → sheets_fit tables seen ≡ true
  sheets_fit_lem s = ap₂ ◌&&◌ (eq-eqb (length tables) 10759 s.table_sheet_lem) (eq-eqb (length seen) 8192 s.seen_set_lem)

  pub fit_sheets : sheets_fit tables seen ≡ true → SheetsSized tables seen
  fit_sheets e =
      record {
        table_sheet_lem = eqb-true (length tables) 10759 (and_left (eqb (length tables) 10759) (eqb (length seen) 8192) e);
        seen_set_lem = eqb-true (length seen) 8192 (and_right (eqb (length tables) 10759) (eqb (length seen) 8192) e);
      }

  sheets_misfit : (SheetsSized tables seen → ⊥) → sheets_fit tables seen ≡ false
  sheets_misfit other = false_if_never (sheets_fit tables seen) (λ e. other (fit_sheets e))

  module _ (sheet : List ℕ) (edges : List EdgeRecord) where
    pub all_fit_lem : AllSized tables seen sheet edges → all_fit tables seen sheet edges ≡ true
    all_fit_lem s =
        ap₂ ◌&&◌ (ap₂ ◌&&◌ (sheets_fit_lem s.sheets) (eq-eqb (length sheet) 11009 s.sentence_sheet_lem)) (eq-eqb (length edges) 512 s.edge_list_lem)

    pub all_misfit : (AllSized tables seen sheet edges → ⊥) → all_fit tables seen sheet edges ≡ false
    all_misfit other =
        false_if_never (all_fit tables seen sheet edges)
        (λ e.
        let front : sheets_fit tables seen && eqb (length sheet) 11009 ≡ true = and_left (sheets_fit tables seen && eqb (length sheet) 11009) (eqb (length edges) 512) e in
        other (record {
          sheets = fit_sheets (and_left (sheets_fit tables seen) (eqb (length sheet) 11009) front);
          sentence_sheet_lem = eqb-true (length sheet) 11009 (and_right (sheets_fit tables seen) (eqb (length sheet) 11009) front);
          edge_list_lem = eqb-true (length edges) 512 (and_right (sheets_fit tables seen && eqb (length sheet) 11009) (eqb (length edges) 512) e);
        }))

pub within_fits : (file : List ℕ) → WithinLimit file → file_fits file ≡ true
within_fits file h = le-leb (length file) file_limit (omega (arith, h))

pub long_misfits : (file : List ℕ) → TooLong file → file_fits file ≡ false
long_misfits file h = lt-leb (length file) file_limit h

-- ---- a survey

pub wrong_sizes : (file tables seen : List ℕ) → SurveyRule file tables seen
unfolding after_survey
wrong_sizes file tables seen =
    record {
      wrong_size = λ other. rw (sheets_misfit tables seen other);
      too_long = λ s h. rw (sheets_fit_lem tables seen s, long_misfits file h);
      filled = λ s h. rw (sheets_fit_lem tables seen s, within_fits file h);
    }
