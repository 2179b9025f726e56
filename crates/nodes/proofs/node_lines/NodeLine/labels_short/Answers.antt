use borrow.Author.Rules.{rules}
use mathlib.Core.Path.{refl}
use Rattle.nodes.specs.NodeLines.{label_short}
use Rattle.nodes.proofs.node_lines.NodeLine.labels_short.Goals as goal

pub returns : goal.returns
returns c = c.ask_pairs.ensures label_short (record { told = λ j b h e. search rules; fault = λ j. refl })
