-- `demands::accepts` meets its contract: what is accepted fits and is read as written, by what the survey's contract says.
use mathlib.Core.Path.{refl}
use borrow.Author.Tests.{eqb-true, eq-eqb}
use Rattle.demands.specs.Surveying.{Surveying, surveying, Promised}
use Rattle.demands.proofs.Accepted.{accepted_by_survey, accepted_as_written}
use Rattle.demands.proofs.accepts.Goals as goal

pub returns : goal.returns
returns c =
    let call : Surveying = let a = c.args in
    surveying a.file.now a.sheet.now a.seen.now c.survey-answer.result c.survey-answer.new.sheet c.survey-answer.new.seen in
    let met : Promised call = c.survey-answer.ensures in
    let refusal = c.survey-answer.result.refusal in
    record {
      exactly = λ k.
          let exactly = accepted_by_survey call met k in
          (λ t. exactly.0 (eqb-true refusal 0 t), λ f. eq-eqb refusal 0 (exactly.1 f));
      written = λ t. accepted_as_written call met (eqb-true refusal 0 t);
      whole = (c.survey-answer.result, refl, met);
    }
