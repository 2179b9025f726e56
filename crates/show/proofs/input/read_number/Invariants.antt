-- The number stays below 65,536.
use Rattle.std.proofs.Common.{◌≤◌}
use Rattle.show.proofs.input.read_number.Given as goal

abbrev pub invariant-loop : goal.invariant-loop
invariant-loop g l = l.number ≤ 65535
