-- `sentences::pairs::put_pairs` meets its contract: what is still to be put makes the list that all pairs make.
use native.Mathlib.Omega.{arith}
use Prim.Native.Nat.{ℕ, ◌+◌, ◌*◌, ◌<◌}
use lib.ListN.{length}
use mathlib.Core.Path.{sym, ap, ◌∙◌}
use mathlib.Core.List.{List}
use Rattle.rules.specs.Texts.{Text}
use Rattle.rules.specs.Numbers.{phrase_number, number, value}
use Rattle.columns.specs.Listing.{span_of}
use Rattle.nodes.specs.NodeLines.{fields_of}
use Rattle.nodes.proofs.ListedFields.{at_column, at_field}
use Rattle.sentences.proofs.PairEdges.{putting_start, label_at, parent_at, putting_more, putting_end}
use Rattle.sentences.proofs.pairs.put_pairs.Goals as goal

pub column_span-label-requires : goal.column_span-label-requires
column_span-label-requires c =
    let label : 5 + 2 * c.loop-j.j < length (fields_of c.args.line.now) = label_at _ c.requires.0 c.loop-j.invariant c.loop-j-test.true in
    at_column c.args.line.now label

pub column_text-text-requires : goal.column_text-text-requires
column_text-text-requires c =
    let parent : 5 + 2 * c.loop-j.j + 1 < length (fields_of c.args.line.now) = parent_at _ c.requires.0 c.loop-j.invariant c.loop-j-test.true in
    at_column c.args.line.now parent

pub put_edge-requires : goal.put_edge-requires
put_edge-requires c = omega (arith, c.loop-j.invariant.room, c.requires.1, c.loop-j-test.true)

pub loop-j-preserved : goal.loop-j-preserved
loop-j-preserved c =
    let label : 5 + 2 * c.loop-j.j < length (fields_of c.args.line.now) = label_at _ c.requires.0 c.loop-j.invariant c.loop-j-test.true in
    let parent : 5 + 2 * c.loop-j.j + 1 < length (fields_of c.args.line.now) = parent_at _ c.requires.0 c.loop-j.invariant c.loop-j-test.true in
    putting_more _ c.requires.0 c.loop-j.invariant c.loop-j-test.true c.requires.1 _ _ _
    (c.column_span-label.ensures ∙ ap span_of (at_field c.args.line.now label))
    (c.parent_in-parent.ensures ∙ ap (λ (bs : List ℕ). value (number phrase_number bs)) (c.column_text-text.ensures ∙ ap (λ (x : Text). x.bytes) (at_field c.args.line.now parent)))
    c.put_edge.ensures c.put_edge.auto.list

pub returns : goal.returns
returns c = putting_end _ c.requires.0 c.loop-j.invariant c.loop-j-test.false

pub loop-j-init : goal.loop-j-init
loop-j-init c = putting_start _ _ _ _ c.requires.2

pub shape_of-edges : goal.shape_of-edges
shape_of-edges c = c.loop-j.invariant.room ∙ sym c.requires.2
