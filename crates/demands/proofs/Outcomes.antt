-- What the contract of survey says leaves no second outcome; refusals 1 and 2 change nothing; what buffers held before never
-- shows. By the three cases of after_survey. The functions of src/ have Promised from the contract of the survey they call.
use Prim.Native.Nat.{ℕ, ◌≤◌, ◌<◌}
use mathlib.Core.Path.{◌≡◌, sym, ap, ap₂, ◌∙◌}
use mathlib.Core.Bool.{true, false}
use mathlib.Core.List.{List}
use lib.ListN.{length}
use borrow.Author.Tests.{le-leb, lt-leb}
use Rattle.rules.specs.Numbers.{file_limit}
use Rattle.rules.specs.Reading.{numbers}
use Rattle.rules.specs.Sheets.{table_sheet, seen_set}
use Rattle.rules.specs.Survey.{SurveyOutcome, survey_of, told, nothing_read, sheets_fit, after_survey}
use Rattle.survey.specs.Promise.{outcome, as_surveyed}
use Rattle.demands.specs.Surveying.{Surveying, Readable, SameOutcome, Untouched, Promised}

-- ---- after_survey, case by case

module _ (f tables seen : List ℕ) where
  after_wrong_size : sheets_fit tables seen ≡ false
      → after_survey f tables seen ≡ record { answer = told (nothing_read 1); tables = tables; seen = seen }
  unfolding after_survey
  after_wrong_size e = rw e

  after_too_long : sheets_fit tables seen ≡ true → file_limit < length f
      → after_survey f tables seen ≡ record { answer = told (nothing_read 2); tables = tables; seen = seen }
  unfolding after_survey
  after_too_long e h = rw (e, lt-leb (length f) file_limit h)

  pub after_read : sheets_fit tables seen ≡ true → length f ≤ file_limit
      → after_survey f tables seen
      ≡ record { answer = told (survey_of f); tables = table_sheet (survey_of f).tables; seen = seen_set (numbers (survey_of f).handed) }
  unfolding after_survey
  after_read e h = rw (e, le-leb (length f) file_limit h)

-- ---- an outcome tells what was answered and left

same_outcome : (c d : Surveying) → outcome c.answer c.tables_left c.seen_left ≡ outcome d.answer d.tables_left d.seen_left → SameOutcome c d
same_outcome c d e =
    record {
      answer = ap (λ (o : SurveyOutcome). as_surveyed o.answer) e;
      tables = ap (λ (o : SurveyOutcome). o.tables) e;
      seen = ap (λ (o : SurveyOutcome). o.seen) e;
    }

-- for the same file and the same buffers lent there is one outcome
pub only_outcome : (c d : Surveying) → Promised c → Promised d → c.file ≡ d.file → c.tables ≡ d.tables → c.seen ≡ d.seen → SameOutcome c d
only_outcome c d p q f t s =
    same_outcome c d
    (p ∙ ap (λ (l : List ℕ). after_survey l c.tables c.seen) f ∙ ap₂ (λ (t s : List ℕ). after_survey d.file t s) t s ∙ sym q)

-- whatever buffers of the right size held before
pub old_never_shows : (c d : Surveying) → Promised c → Promised d → c.file ≡ d.file → Readable c.file c.tables c.seen → Readable d.file d.tables d.seen → SameOutcome c d
old_never_shows c d p q f k l =
    same_outcome c d
    (p ∙ after_read c.file c.tables c.seen k.sized k.short
    ∙ ap (λ (g : List ℕ). record { answer = told (survey_of g); tables = table_sheet (survey_of g).tables; seen = seen_set (numbers (survey_of g).handed) }) f
    ∙ sym (q ∙ after_read d.file d.tables d.seen l.sized l.short))

-- ---- 1 and 2

untouched : (c : Surveying) (n : ℕ) → Promised c
    → after_survey c.file c.tables c.seen ≡ record { answer = told (nothing_read n); tables = c.tables; seen = c.seen } → Untouched c n
untouched c n p e =
    record {
      answer = ap (λ (o : SurveyOutcome). as_surveyed o.answer) (p ∙ e);
      tables = ap (λ (o : SurveyOutcome). o.tables) (p ∙ e);
      seen = ap (λ (o : SurveyOutcome). o.seen) (p ∙ e);
    }

pub wrong_size : (c : Surveying) → Promised c → sheets_fit c.tables c.seen ≡ false → Untouched c 1
wrong_size c p e = untouched c 1 p (after_wrong_size c.file c.tables c.seen e)

pub too_long : (c : Surveying) → Promised c → sheets_fit c.tables c.seen ≡ true → file_limit < length c.file → Untouched c 2
too_long c p k h = untouched c 2 p (after_too_long c.file c.tables c.seen k h)
