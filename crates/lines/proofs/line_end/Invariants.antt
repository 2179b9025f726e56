-- `lines::line_end` meets its contract. The loop's invariant: what is still to be found from here on, `scan`, is what the
-- line's start asks for.
use mathlib.Core.Path.{◌≡◌}
use Rattle.lines.specs.LineEnds.{line_end}
use Rattle.lines.proofs.Scan.{scan}
use Rattle.lines.proofs.line_end.Given as goal

abbrev pub invariant-loop-at : goal.invariant-loop-at
invariant-loop-at l = scan l.file l.from l.at l.sound ≡ line_end l.file l.from
