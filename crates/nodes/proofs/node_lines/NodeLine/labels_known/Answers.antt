use borrow.Author.Rules.{rules}
use mathlib.Core.Path.{refl}
use Rattle.table_sheet.specs.SheetRows.{tables_in}
use Rattle.nodes.specs.NodeLines.{label_known}
use Rattle.nodes.proofs.node_lines.NodeLine.labels_known.Goals as goal

pub returns : goal.returns
returns c = c.ask_pairs.ensures (label_known (tables_in c.args.self.now.line.file.now c.args.sheet.now)) (record { told = λ j b h e. search rules; fault = λ j. refl })
