-- `borders::survey_across` meets its contract: both outcomes are what the contracts of survey and hraunlik_survey say, which is one.
use mathlib.Core.Path.{sym, ap₂, ◌∙◌}
use Rattle.rules.specs.Survey.{after_survey}
use Rattle.borders.proofs.survey_across.Goals as goal

pub returns : goal.returns
returns c t s = c.survey-first.ensures ∙ ap₂ (after_survey _) t s ∙ sym c.hraunlik_survey-refusal.ensures
