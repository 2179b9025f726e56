-- `nodes::put_nodes` meets its contract: the lines of as many nodes as were passed are put.
use native.Mathlib.Omega.{arith}
use Prim.Native.Nat.{ℕ, ◌+◌, ◌-◌}
use mathlib.Core.Path.{◌≡◌, ap}
use Rattle.printing.proofs.PutLaws.{put_then, put_as, put_wider, put_none}
use Rattle.rules.specs.Tidy.{node_line}
use Rattle.sentence_text.specs.SheetRead.{node_in, edges_on_sheet}
use Rattle.sentence_text.proofs.NodesAlong.{node_more}
use Rattle.sentence_text.proofs.nodes.put_nodes.Goals as goal

pub loop-node-init : goal.loop-node-init
loop-node-init c =
    let z : c.args.from - c.args.from ≡ 0 = omega arith in
    rw z (put_none c.args.at c.args.out.now)

pub loop-node-preserved : goal.loop-node-preserved
loop-node-preserved c =
    let a = c.args in
    let l = c.loop-node in
    let k = l.node - a.from in
    let node = node_in a.file.now a.sheet.now (edges_on_sheet a.sheet.now a.list.now) in
    let here : l.node ≡ a.from + k = omega arith in
    let next : l.node + 1 - a.from ≡ k + 1 = omega arith in
    rw next
    (put_wider (omega arith)
    (put_as (node_more node a.from k)
    (put_then l.invariant (put_as (ap (λ (j : ℕ). node_line (node j)) here) c.put_node-end.ensures))))
