-- `edges::fill` meets its contract: each turn fills one record more, up to the count.
use Rattle.std.proofs.Common.{◌≡◌, ◌<◌, ◌++◌, length, drop, set, ap, ap₂, ◌∙◌, arith}
use Rattle.edges.specs.Edges.{first_edges}
use Rattle.edges.proofs.Filled.{none_filled, one_more}
use Rattle.edges.proofs.fill.Goals as goal

pub loop-k-init : goal.loop-k-init
loop-k-init c = none_filled c.args.numbers.now c.args.edges.now

pub loop-k-preserved : goal.loop-k-preserved
loop-k-preserved c =
    let within : c.loop-k.k < length c.args.edges.now = omega arith in
    ap₂ (λ es e. set es c.loop-k.k e) c.loop-k.invariant c.edge_at.ensures ∙ one_more c.args.numbers.now c.args.edges.now c.loop-k.k within

pub returns : goal.returns
returns c =
    let all : c.loop-k.k ≡ c.args.count = omega arith in
    c.loop-k.invariant ∙ ap (λ k. first_edges c.args.numbers.now k ++ drop k c.args.edges.now) all
