use native.Mathlib.Omega.{arith}
use mathlib.Core.Path.{ap, ◌∙◌}
use Prim.Native.Nat.{◌-◌, ◌≤◌}
use lib.ListN.{length, drop, length-drop}
use lib.Seq.{take_all}
use Rattle.nodes.proofs.ListedFields.{first_of, some_bytes}
use Rattle.nodes.proofs.node_lines.NodeLine.behind_hash.Goals as goal

pub returns : goal.returns
returns c =
    let bs = c.field-first.result.now in
    let h : length (drop 1 bs) ≤ length bs - 1 = omega (arith, length-drop 1 bs) in
    take_all (length bs - 1) (drop 1 bs) h ∙ ap (drop 1) c.field-first.ensures

pub slice_bounds-result-count : goal.slice_bounds-result-count
slice_bounds-result-count c =
    let some : 1 ≤ length c.field-first.result.now = omega (arith, some_bytes c.args.self.now.line (first_of c.args.self.now.whole 0 (omega arith)), ap length c.field-first.ensures) in
    omega (arith, some)

pub slice_bounds-result-start : goal.slice_bounds-result-start
slice_bounds-result-start c =
    let some : 1 ≤ length c.field-first.result.now = omega (arith, some_bytes c.args.self.now.line (first_of c.args.self.now.whole 0 (omega arith)), ap length c.field-first.ensures) in
    omega (arith, some)
