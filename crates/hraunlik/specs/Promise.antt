-- What a caller in another language has after a survey: the refusal, the three numbers lent and the two buffers, as
-- one outcome of rules/Survey.
use Rattle.std.specs.Prelude.{ℕ, List}
use Rattle.rules.specs.Index.{Indexed}
use Rattle.rules.specs.Survey.{SurveyOutcome}
use Rattle.writing.specs.Promise.{WrittenFlat}
use Rattle.explaining.specs.Promise.{Placed}

abbrev pub outcome : ℕ → ℕ → ℕ → ℕ → List ℕ → List ℕ → SurveyOutcome
outcome refusal place sentences sound_end tables seen =
    record {
      answer = record { refusal = refusal; place = place; sentences = sentences; sound_end = sound_end };
      tables = tables;
      seen = seen;
    }

-- and after an index, the list of beginnings too
abbrev pub indexed : ℕ → ℕ → ℕ → ℕ → List ℕ → List ℕ → List ℕ → Indexed
indexed refusal place sentences sound_end tables seen places =
    record { answer = (outcome refusal place sentences sound_end tables seen).answer; tables = tables; seen = seen; places = places }

-- after a writing: the refusal, the two numbers lent, the five buffers
abbrev pub written_told : ℕ → ℕ → ℕ → List ℕ → List ℕ → List ℕ → List ℕ → List ℕ → WrittenFlat
written_told refusal place length tables seen sheet edges output =
    record {
      answer = record { refusal = refusal; place = place; written = length };
      tables = tables;
      seen = seen;
      sheet = sheet;
      edges = edges;
      output = output;
    }

-- after an explaining: the refusal, the three numbers lent, the two buffers
abbrev pub explained_told : ℕ → ℕ → ℕ → ℕ → List ℕ → List ℕ → Placed
explained_told refusal of start length tables seen =
    record { answer = record { refusal = refusal; of = of; start = start; len = length }; tables = tables; seen = seen }
