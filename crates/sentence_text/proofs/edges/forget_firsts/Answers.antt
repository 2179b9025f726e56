-- `edges::forget_firsts` meets its contract: the entry of each node that no edge from here on names is 0.
use native.Mathlib.Omega.{arith}
use Prim.Native.Nat.{◌-◌, ◌*◌}
use mathlib.Core.Path.{◌≡◌, sym}
use Rattle.sentence_sheet.specs.FlatEdges.{edge_width}
use Rattle.sentence_text.specs.EdgesRead.{edge_record_at, edges_from}
use Rattle.sentence_text.proofs.ForgottenFirsts.{forgetting_start, forgetting_more, forgetting_end}
use Rattle.sentence_text.proofs.EdgesAlong.{edges_cons, edges_over}
use Rattle.sentence_text.proofs.edges.forget_firsts.Goals as goal

pub loop-k-init : goal.loop-k-init
loop-k-init c =
    let a = c.args in
    let n : a.count - 0 ≡ a.count = omega arith in
    rw n (forgetting_start (edges_from a.edges.now 0 a.count) 0 _ c.requires.2)

pub loop-k-preserved : goal.loop-k-preserved
loop-k-preserved c =
    let a = c.args in
    let l = c.loop-k in
    let k = l.k in
    forgetting_more (edge_record_at a.edges.now (edge_width * k)) _ l.firsts (c.requires.3 k (omega arith))
    (rw (sym (edges_cons a.edges.now k a.count (omega arith))) l.invariant)

pub returns : goal.returns
returns c =
    let a = c.args in
    let l = c.loop-k in
    forgetting_end l.firsts (rw (edges_over a.edges.now (edge_width * l.k) l.k a.count (omega arith)) at l.invariant)
