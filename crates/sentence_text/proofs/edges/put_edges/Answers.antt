-- `edges::put_edges` meets its contract: what is put and what is left are the edges that stand together (`EdgesAlong.Going`).
use native.Mathlib.Omega.{arith}
use Rattle.printing.proofs.PutLaws.{put_wider}
use Rattle.sentence_text.proofs.EdgesAlong.{going_start, going_next, going_stop, going_end}
use Rattle.sentence_text.proofs.edges.put_edges.Goals as goal

pub loop-k-init : goal.loop-k-init
loop-k-init c =
    let a = c.args in
    going_start a.file.now a.edges.now a.node a.first a.count a.at a.out.now c.requires.1

pub returns-then-edges-place : goal.returns-then-edges-place
returns-then-edges-place c =
    let a = c.args in
    let l = c.loop-k in
    put_wider (omega (arith, l.invariant.to)) (going_stop a.file.now a.edges.now a.node a.first a.count a.at a.out.now l.k l.end l.out l.invariant (omega arith) (λ z. omega (arith, z)))

pub loop-k-preserved : goal.loop-k-preserved
loop-k-preserved c =
    let a = c.args in
    let l = c.loop-k in
    going_next a.file.now a.edges.now a.node a.first a.count a.at a.out.now l.k l.end l.out l.invariant (omega arith) (omega arith) c.put_edge-end.ensures

pub returns : goal.returns
returns c =
    let a = c.args in
    let l = c.loop-k in
    put_wider (omega (arith, l.invariant.to)) (going_end a.file.now a.edges.now a.node a.first a.count a.at a.out.now l.k l.end l.out l.invariant (omega arith))
