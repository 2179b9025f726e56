use mathlib.Core.Path.{ap, ◌∙◌}
use Rattle.rules.specs.Texts.{Text}
use Rattle.steps.specs.Faults.{fault}
use Rattle.nodes.proofs.ListedFields.{field_of, at_column, at_field}
use Rattle.nodes.proofs.node_lines.NodeLine.field_fault.Goals as goal

pub column_fault-requires : goal.column_fault-requires
column_fault-requires c = at_column c.args.self.now.line (field_of c.args.self.now.whole _ c.requires)

pub returns : goal.returns
returns c = c.column_fault.ensures ∙ ap (λ (t : Text). fault c.args.number t.start) (at_field c.args.self.now.line (field_of c.args.self.now.whole _ c.requires))
