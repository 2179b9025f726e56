-- `lines::read_twice` meets its contract: a line that may be read is listed.
use native.Mathlib.Omega.{arith}
use mathlib.Core.Path.{◌≡◌, sym, ◌∙◌}
use Rattle.std.specs.Prelude.{Ok}
use Rattle.lines.specs.LineEnds.{line_end}
use Rattle.lines.proofs.Lines.{at_behind, at_below, at_place, at_short}
use Rattle.lines.proofs.FoundLines.{found_twice}
use Rattle.lines.proofs.read_twice.Goals as goal

pub read_line-requires : goal.read_line-requires
read_line-requires c =
    let q : line_end c.args.file.now c.args.from ≡ Ok c.in_ok-end.end = sym c.line_end.ensures ∙ c.in_ok-end.was in
    let file = c.args.file.now in
    let from = c.args.from in
    (at_behind file from _ q, omega (arith, at_below file from _ q), omega (arith, at_place file from _ q, at_short file from _ q), c.requires.1)

pub returns : goal.returns
returns c =
    let q : line_end c.args.file.now c.args.from ≡ Ok c.in_ok-end.end = sym c.line_end.ensures ∙ c.in_ok-end.was in
    found_twice c.args.file.now c.args.from _ _ _ _ c.requires.1 q c.read_line.ensures
