-- What the entry of an index gives: one more than the place where the sentence of its number begins, or 0.
use Rattle.std.specs.Prelude.{ℕ, suc, ◌≡◌, ◌≢◌, List}
use Rattle.rules.specs.Survey.{SurveyOutcome}
use Rattle.rules.specs.Index.{Indexed}
use Rattle.survey.specs.declared.Surveyed.{Surveyed}
use Rattle.opened_demands.specs.Calls.{LeftThere, left_there, nothing}
use Rattle.opened_demands.specs.OpenedRules.{OpenedAtPlace}

-- what a survey and an index answer and leave, as the rules bundle it
abbrev pub survey_left : Surveyed → List ℕ → List ℕ → SurveyOutcome
survey_left r tables seen =
    record {
      answer = record { refusal = r.refusal; place = r.place; sentences = r.sentences; sound_end = r.sound_end };
      tables = tables;
      seen = seen;
    }

abbrev pub index_left : Surveyed → List ℕ → List ℕ → List ℕ → Indexed
index_left r tables seen places = record { answer = (survey_left r tables seen).answer; tables = tables; seen = seen; places = places }

-- what an opening at an entry of the index leaves: 24 and the buffers as lent, or what the place in front of it gives
pub record OpenedAtEntry (file : List ℕ) (entry : ℕ) (sheet edges : List ℕ) (o : LeftThere) : Type 0 where
  pub no_entry : entry ≡ 0 → o ≡ left_there 24 sheet edges
  pub there : (at : ℕ) → entry ≡ suc at → OpenedAtPlace file at sheet edges o

-- the entry of a number, what opening the number left, and what opening at the entry left
pub record SameThere (entry : ℕ) (by_number there : LeftThere) : Type 0 where
  pub found : entry ≢ 0 → by_number.answer ≡ 0
  pub same : entry ≢ 0 → there ≡ by_number
  pub absent : entry ≡ 0 → by_number ≡ nothing
