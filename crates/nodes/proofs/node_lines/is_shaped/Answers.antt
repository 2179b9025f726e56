use native.Mathlib.Omega.{arith}
use mathlib.Core.Path.{sym, ap, ◌∙◌}
use Prim.Native.Nat.{◌<◌, ◌≤◌}
use mathlib.Core.Bool.{Bool, ◌&&◌}
use lib.ListN.{length, drop}
use borrow.Author.Tests.{le-leb, lt-leb}
use Rattle.rules.specs.Pairs.{paired}
use Rattle.nodes.proofs.ListedFields.{even_paired}
use Rattle.nodes.proofs.node_lines.is_shaped.Goals as goal

pub returns-then-count-lt5 : goal.returns-then-count-lt5
returns-then-count-lt5 c format fs e =
    let h : length fs < 5 = omega (arith, c.if-count-lt5.true) in
    ap (λ (t : Bool). t && paired (drop 5 fs)) (sym (lt-leb 5 (length fs) h))

pub returns : goal.returns
returns c format fs e =
    let h : 5 ≤ length fs = omega (arith, c.if-count-lt5.false) in
    even_paired fs c.args.count e ∙ ap (λ (t : Bool). t && paired (drop 5 fs)) (sym (le-leb 5 (length fs) h))
