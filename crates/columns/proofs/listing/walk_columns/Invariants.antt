-- `columns::listing::walk_columns` meets its contract. The invariant, `Walking`: the columns in front of the cursor are
-- listed, and those from it on are the others. The measure is what is left of the line.
use Prim.Native.Nat.{◌-◌}
use lib.ListN.{length}
use Rattle.columns.proofs.Walks.{Walking}
use Rattle.columns.proofs.listing.walk_columns.Given as goal

abbrev pub invariant-loop-column : goal.invariant-loop-column
invariant-loop-column l = Walking l.line l.from l.start l.initial.places l.places l.cursor.at l.count

abbrev pub decreases-loop-column : goal.decreases-loop-column
decreases-loop-column l = length l.line - l.cursor.at
