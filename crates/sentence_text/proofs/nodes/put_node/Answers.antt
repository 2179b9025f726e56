-- `nodes::put_node` meets its contract: first column, others, edges, comment and newline are the line.
-- No loop.
use native.Mathlib.Omega.{arith}
use Prim.Native.Nat.{◌≤◌}
use lib.ListN.{get_or}
use Rattle.printing.proofs.PutLaws.{put_then, put_as}
use Rattle.sentence_text.specs.SheetRead.{edges_on_sheet, edges_counted}
use Rattle.sentence_text.proofs.LineTexts.{node_text_lem}
use Rattle.sentence_text.proofs.FirstEdges.{first_low, length_edges}
use Rattle.sentence_text.proofs.nodes.put_node.Goals as goal

pub put_edges-edged-requires : goal.put_edges-edged-requires
put_edges-edged-requires c =
    let a = c.args in
    let p = c.requires in
    let es = edges_on_sheet a.sheet.now a.list.now in
    let first : get_or a.firsts.now a.node 0 ≤ edges_counted a.sheet.now =
    omega (arith, p.1.first a.node (omega arith), first_low 0 a.node es, length_edges a.list.now 0 (edges_counted a.sheet.now)) in
    (p.0.each_edge, first, p.0.few, omega arith)

pub returns : goal.returns
returns c =
    let a = c.args in
    let p = c.requires in
    put_as (node_text_lem a.file.now a.sheet.now a.list.now a.node _ (p.1.first a.node p.2))
    (put_then
    (put_then (put_then c.put_first-named.ensures c.put_columns-columned.ensures) c.put_edges-edged.ensures)
    c.put_rest.ensures)
