-- `edges::note_firsts` meets its contract: the edges from those noted on have their first places noted.
use native.Mathlib.Omega.{arith}
use Prim.Native.Nat.{suc, ◌+◌, ◌-◌, ◌*◌}
use mathlib.Core.Path.{◌≡◌}
use Rattle.sentence_sheet.specs.FlatEdges.{edge_width}
use Rattle.sentence_text.specs.EdgesRead.{edge_record_at}
use Rattle.sentence_text.proofs.FirstEdges.{firsts_none, firsts_more}
use Rattle.sentence_text.proofs.EdgesAlong.{edges_cons, edges_over}
use Rattle.sentence_text.proofs.edges.note_firsts.Goals as goal

pub loop-k-init : goal.loop-k-init
loop-k-init c =
    let a = c.args in
    rw (edges_over a.edges.now (edge_width * a.count) a.count a.count (omega arith), c.requires.2) (firsts_none a.count)

pub loop-k-preserved : goal.loop-k-preserved
loop-k-preserved c =
    let a = c.args in
    let l = c.loop-k in
    let k = l.k - 1 in
    let up : k + 1 ≡ l.k = omega arith in
    let sup : suc k ≡ l.k = omega arith in
    rw (edges_cons a.edges.now k a.count (omega arith), up)
    (firsts_more (edge_record_at a.edges.now (edge_width * k)) _ k l.firsts (c.requires.3 k (omega arith)) (rw sup l.invariant))
