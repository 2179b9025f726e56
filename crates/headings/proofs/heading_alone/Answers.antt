-- `headings::heading_alone` meets its contract: what the line says by itself, as a step.
use Rattle.columns.specs.Lines.{text_in}
use Rattle.std.proofs.Common.{rules}
use mathlib.Core.Path.{sym}
use Rattle.headings.proofs.HeadingSteps.{alone_said, alone_failed}
use Rattle.headings.proofs.heading_alone.Goals as goal

pub returns-in_err-said : goal.returns-in_err-said
returns-in_err-said c = rw (alone_failed (text_in c.args.line.now) _ (sym c.in_err-said.ensures)) (search rules)

pub returns : goal.returns
returns c = sym (alone_said (text_in c.args.line.now) _ (sym c.in_ok-said.ensures))
