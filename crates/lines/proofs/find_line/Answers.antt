-- `lines::find_line` meets its contract: a line that one pass took, or one that was read twice.
use Rattle.lines.proofs.FoundLines.{found_at_once}
use Rattle.lines.proofs.find_line.Goals as goal

pub returns-then-any : goal.returns-then-any
returns-then-any c = found_at_once c.args.file.now c.args.from _ _ _ c.read_at_once.ensures c.in-Some.is

pub returns-then-not-of_node : goal.returns-then-not-of_node
returns-then-not-of_node c = c.read_twice.ensures

pub returns : goal.returns
returns c = c.read_twice-2.ensures
