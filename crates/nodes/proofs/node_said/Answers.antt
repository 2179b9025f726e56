use native.Mathlib.Omega.{arith}
use mathlib.Core.Path.{sym, ap, ◌∙◌}
use lib.ListN.{length-map}
use Rattle.rules.specs.Pairs.{as_edge}
use Rattle.rules.specs.Nodes.{its_pairs}
use Rattle.columns.specs.Listing.{span_of}
use Rattle.nodes.specs.NodeLines.{fields_of}
use Rattle.nodes.proofs.ListedFields.{at_column, at_field, first_of, half_pairs}
use Rattle.nodes.proofs.node_said.Goals as goal

pub column_span-tag-requires : goal.column_span-tag-requires
column_span-tag-requires c = at_column c.args.node.now.line (first_of c.args.node.now.whole 1 (omega arith))

pub column_span-morphology-requires : goal.column_span-morphology-requires
column_span-morphology-requires c = at_column c.args.node.now.line (first_of c.args.node.now.whole 2 (omega arith))

pub column_span-edge-requires : goal.column_span-edge-requires
column_span-edge-requires c = at_column c.args.node.now.line (first_of c.args.node.now.whole 3 (omega arith))

pub comment-comment-requires : goal.comment-comment-requires
comment-comment-requires c = c.args.node.now.whole.counted

pub returns : goal.returns
returns c format t a b h =
    let fs = fields_of c.args.node.now.line in
    rw (
      c.column_span-tag.ensures ∙ ap span_of (at_field c.args.node.now.line (first_of c.args.node.now.whole 1 (omega arith))),
      c.column_span-morphology.ensures ∙ ap span_of (at_field c.args.node.now.line (first_of c.args.node.now.whole 2 (omega arith))),
      c.column_span-edge.ensures ∙ ap span_of (at_field c.args.node.now.line (first_of c.args.node.now.whole 3 (omega arith))),
      c.comment-comment.ensures,
      c.count_pairs-edges.ensures ∙ half_pairs fs _ (sym c.args.node.now.whole.counted) ∙ sym (length-map (its_pairs format fs) as_edge),
      a,
      b,
      h,
    )
