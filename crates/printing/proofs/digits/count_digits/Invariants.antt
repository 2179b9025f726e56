-- `digits::count_digits` meets its contract: the digits passed and those of what is left are the number's.
-- The measure is what is left.
use Prim.Native.Nat.{◌+◌, ◌≤◌}
use mathlib.Core.Path.{◌≡◌}
use lib.ListN.{length}
use Rattle.rules.specs.Tidy.{digits_of}
use Rattle.printing.proofs.digits.count_digits.Given as goal

abbrev pub invariant-loop-left : goal.invariant-loop-left
invariant-loop-left l = (l.count + length (digits_of l.left) ≡ length (digits_of l.n) + 1) × (length (digits_of l.n) ≤ 10)

abbrev pub decreases-loop-left : goal.decreases-loop-left
decreases-loop-left l = l.left
