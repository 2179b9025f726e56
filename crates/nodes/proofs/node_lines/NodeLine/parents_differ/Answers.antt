use borrow.Author.Rules.{rules}
use mathlib.Core.Path.{refl}
use Rattle.nodes.specs.NodeLines.{parent_differs}
use Rattle.nodes.proofs.node_lines.NodeLine.parents_differ.Goals as goal

pub returns : goal.returns
returns c = c.ask_pairs.ensures (parent_differs c.args.number) (record { told = λ j b h e. search rules; fault = λ j. refl })
