-- `reading::take_lines` meets its contract: between two lines what it keeps is what the rules' reading has, and the outlines
-- of the open table's rows are noted. The measure is what is left of the file.
use Prim.Native.Nat.{◌-◌}
use lib.ListN.{length}
use Rattle.judging.specs.Judging.{RowsOutlined}
use Rattle.reading.specs.Effects.{kept}
use Rattle.reading.proofs.Going.{Going}
use Rattle.reading.proofs.take_lines.Given as goal

abbrev pub invariant-loop-at : goal.invariant-loop-at
invariant-loop-at l =
    Going l.file l.from (length l.initial.begins) l.at (kept l.s l.sheet l.seen l.marks l.begins) × RowsOutlined l.outlines l.file l.sheet l.s.phase

abbrev pub decreases-loop-at : goal.decreases-loop-at
decreases-loop-at l =
    length l.file - l.at
