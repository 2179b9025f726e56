use Rattle.nodes.proofs.node_lines.NodeLine.is_short.Goals as goal

pub returns : goal.returns
returns c = rw (c.tag_limit.ensures, c.field.ensures)
