-- `printing::copy` meets its contract: as many of the text's bytes as were stored have gone over the output lent.
use mathlib.Core.Path.{◌≡◌}
use lib.ListN.{length, take}
use Rattle.printing.specs.Over.{over}
use Rattle.printing.proofs.copy.Given as goal

abbrev pub invariant-loop-i : goal.invariant-loop-i
invariant-loop-i l = (l.out ≡ over l.at (take l.i l.text) l.initial.out) × (length l.out ≡ length l.initial.out)
