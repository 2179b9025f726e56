-- The promise: what the survey answers and leaves in the two buffers, as one outcome of rules/Survey.
use Rattle.std.specs.Prelude.{ℕ, List}
use Rattle.rules.specs.Survey.{Told, SurveyOutcome}
use Rattle.rules.specs.Index.{Indexed}
use Rattle.reading.specs.declared.Read.{Read}
use Rattle.survey.specs.declared.Surveyed.{Surveyed}

abbrev pub outcome : Surveyed → List ℕ → List ℕ → SurveyOutcome
outcome r tables seen =
    record {
      answer = record { refusal = r.refusal; place = r.place; sentences = r.sentences; sound_end = r.sound_end };
      tables = tables;
      seen = seen;
    }

-- the four numbers that are told
abbrev pub as_surveyed : Told → Surveyed
as_surveyed t = record { refusal = t.refusal; place = t.place; sentences = t.sentences; sound_end = t.sound_end }

abbrev pub surveyed_as : Read → Surveyed
surveyed_as r = record { refusal = r.refusal; place = r.place; sentences = r.sentences; sound_end = r.sound_end }

-- ---- the index

abbrev pub indexed : Surveyed → List ℕ → List ℕ → List ℕ → Indexed
indexed r tables seen places = record { answer = (outcome r tables seen).answer; tables = tables; seen = seen; places = places }
