use Rattle.nodes.proofs.PairWalks.{along_start, along_end, pair_there, pairs_over, asked_more, asked_stop}
use Rattle.nodes.proofs.node_lines.NodeLine.ask_pairs.Goals as goal

pub loop-j-init : goal.loop-j-init
loop-j-init g c q a = along_start c.args.self.now.whole q

pub returns-then-not-holds : goal.returns-then-not-holds
returns-then-not-holds g c q a =
    asked_stop c.args.self.now.whole c.loop-j.j (c.loop-j.invariant q a) (pair_there c.args.self.now.whole c.count_pairs-j-end.ensures c.loop-j-test.true)
    a c.holds.ensures c.field_fault.ensures c.if-not-holds.true

pub loop-j-preserved : goal.loop-j-preserved
loop-j-preserved g c q a =
    asked_more c.args.self.now.whole c.loop-j.j (c.loop-j.invariant q a) (pair_there c.args.self.now.whole c.count_pairs-j-end.ensures c.loop-j-test.true)
    a c.holds.ensures c.if-not-holds.false

pub returns : goal.returns
returns g c q a = along_end c.args.self.now.whole (c.loop-j.invariant q a) (pairs_over c.args.self.now.whole c.count_pairs-j-end.ensures c.loop-j-test.false)
