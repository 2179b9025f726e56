-- `columns::skip_run` meets its contract. The invariant: from the loop's place on, the run goes as far as from `at` on.
use Prim.Native.Nat.{◌+◌, ◌≤◌, max}
use mathlib.Core.Path.{◌≡◌}
use lib.ListN.{length, drop}
use Rattle.columns.specs.Leading.{run_length, in_run}
use Rattle.columns.proofs.skip_run.Given as goal

abbrev pub invariant-loop-end : goal.invariant-loop-end
invariant-loop-end l = (l.end ≤ max l.at (length l.head)) × (l.at + run_length (in_run l.in_column) (drop l.at l.head) ≡ l.end + run_length (in_run l.in_column) (drop l.end l.head))
