-- `sentences::take_nodes` meets its contract: between two lines what it keeps is what the rules' sentence so far has. The
-- measure is what is left of the file.
use Prim.Native.Nat.{◌-◌}
use lib.ListN.{length}
use Rattle.sentences.specs.Keeping.{stored}
use Rattle.sentences.specs.Beginnings.{begun_at}
use Rattle.sentences.proofs.Gathering.{Gathering}
use Rattle.sentences.proofs.take_nodes.Given as goal

abbrev pub invariant-loop-at : goal.invariant-loop-at
invariant-loop-at l =
    Gathering l.file (begun_at l.file l.initial.t.start) l.handed l.at (stored l.t l.sheet l.edges l.marks)

abbrev pub decreases-loop-at : goal.decreases-loop-at
decreases-loop-at l =
    length l.file - l.at
