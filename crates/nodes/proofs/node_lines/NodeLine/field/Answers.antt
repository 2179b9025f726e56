use mathlib.Core.Path.{ap, ◌∙◌}
use Rattle.rules.specs.Texts.{Text}
use Rattle.nodes.proofs.ListedFields.{field_of, at_column, at_field}
use Rattle.nodes.proofs.node_lines.NodeLine.field.Goals as goal

pub column_text-requires : goal.column_text-requires
column_text-requires c = at_column c.args.self.now.line (field_of c.args.self.now.whole _ c.requires)

pub returns : goal.returns
returns c = c.column_text.ensures ∙ ap (λ (t : Text). t.bytes) (at_field c.args.self.now.line (field_of c.args.self.now.whole _ c.requires))
