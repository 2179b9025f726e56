-- `steps::column_fault` meets its contract: a column's place is its span's.
use mathlib.Core.Path.{ap, ◌∙◌}
use Rattle.columns.specs.declared.listing.Span.{Span}
use Rattle.steps.specs.Faults.{fault}
use Rattle.steps.proofs.column_fault.Goals as goal

pub returns : goal.returns
returns c = c.text_fault.ensures ∙ ap (λ (p : Span). fault c.args.number p.start) c.column_span.ensures
