-- The writing's own promise, of buffers of zeros; what is told as written lies within the output.
use Rattle.std.proofs.Common.{ap, sym, subst}
use Rattle.writing.specs.Promise.{WrittenFlat}
use Rattle.neaten.specs.Answers.{IsPrefixLen}
use Rattle.neaten.proofs.WithinOutput.{within_output}
use Rattle.neaten.proofs.write_tidy.Goals as goal

pub returns : goal.returns
returns c =
    let e = c.write_flat.ensures in
    (ap (λ (o : WrittenFlat). o.answer) e, ap (λ (o : WrittenFlat). o.output) e, subst (λ (o : WrittenFlat). IsPrefixLen o.answer.written o.output) (sym e) (within_output _ _ _ _ _ _))
