-- `nodes::NodeLine::judge` meets its contract: where a parent is written, it is the line's.
use mathlib.Core.Path.{sym, ap, ◌∙◌}
use Rattle.nodes.specs.declared.pairs.Parents.{Parents}
use Rattle.nodes.proofs.Judgements.{none_broken}
use Rattle.nodes.proofs.node_lines.NodeLine.judge.Goals as goal

pub parents_allowed-requires : goal.parents_allowed-requires
parents_allowed-requires c =
    let written = none_broken _ _ _ (sym (c.parents_written.ensures 0) ∙ c.in_ok-parents.was) in
    sym (ap (λ (x : Parents). x.parent) written.1)
