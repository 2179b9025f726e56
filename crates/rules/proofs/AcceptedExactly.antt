-- Demand 2, its first half: with buffers of the right size a file is accepted exactly if it follows the format 3 paper as
-- our rules fix it; and what is read of it is what the grammar says that it contains. Contains says what a file is, surveyOf
-- how one is read; each of the two ways is a theorem of its own.
use Prim.Native.Nat.{ℕ}
use mathlib.Core.Path.{◌≡◌, refl, sym, ◌∙◌, subst}
use mathlib.Core.Logic.{◌↔◌}
use mathlib.Core.Bool.{Bool, true, false}
use mathlib.Core.List.{List}
use Rattle.rules.specs.Survey.{survey_of, sheets_fit, file_fits, after_survey}
use Rattle.rules.specs.GrammarNumbers.{sentence_range}
use Rattle.rules.specs.GrammarContent.{Content}
use Rattle.rules.specs.GrammarSurvey.{content_of}
use Rattle.rules.specs.Grammar.{Contains, Fits}
use Rattle.rules.proofs.AcceptedFits.{accepted_fits}
use Rattle.rules.proofs.FitsAccepted.{contains_read}

fits_accepted : (file : List ℕ) → Fits file → (survey_of file).refusal ≡ 0
fits_accepted file f = (contains_read file f.0 f.1).0

pub accepted_exactly : (file : List ℕ) → ((survey_of file).refusal ≡ 0) ↔ Fits file
accepted_exactly file = (accepted_fits file, fits_accepted file)

-- tables and sentences are read as they are written, text by text and number by number
pub as_written : (file : List ℕ) (content : Content) → Contains sentence_range file content → content_of (survey_of file) ≡ content
as_written file content c = (contains_read file content c).1

-- a file contains one thing only
pub one_reading : (file : List ℕ) (c d : Content) → Contains sentence_range file c → Contains sentence_range file d → c ≡ d
one_reading file c d p q = sym (as_written file c p) ∙ as_written file d q

-- an accepted file contains what is read of it
pub accepted_contains : (file : List ℕ) → (survey_of file).refusal ≡ 0 → Contains sentence_range file (content_of (survey_of file))
accepted_contains file z =
    let f = accepted_fits file z in
    subst (Contains sentence_range file) (sym (as_written file f.0 f.1)) f.1

-- what a survey with lent buffers answers
answer_is : (file tables seen : List ℕ) → sheets_fit tables seen ≡ true → (after_survey file tables seen).answer.refusal ≡ (survey_of file).refusal
unfolding after_survey survey_of
answer_is file tables seen h = by (file_fits file) refl
  where
    by : (t : Bool) → file_fits file ≡ t → (after_survey file tables seen).answer.refusal ≡ (survey_of file).refusal
    by true e = rw (h, e)
    by false e = rw (h, e)

pub accepted_with_buffers : (file tables seen : List ℕ) → sheets_fit tables seen ≡ true → ((after_survey file tables seen).answer.refusal ≡ 0) ↔ Fits file
accepted_with_buffers file tables seen h =
    (λ z. accepted_fits file (sym (answer_is file tables seen h) ∙ z), λ f. answer_is file tables seen h ∙ fits_accepted file f)
