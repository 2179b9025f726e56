-- `numbers::within` meets its contract. The loop's invariant: the value so far, which is not past the highest, and
-- the bytes that are left make the answer of the whole column.
use Prim.Native.Nat.{◌≤◌}
use mathlib.Core.Path.{◌≡◌}
use lib.ListN.{drop}
use Rattle.rules.specs.Numbers.{number}
use Rattle.numbers.specs.Kinds.{kind}
use Rattle.numbers.proofs.Walk.{number_from}
use Rattle.numbers.proofs.within.Given as goal

abbrev pub invariant-loop-b : goal.invariant-loop-b
invariant-loop-b g l = record {
  bounded : l.value ≤ g.row.HIGHEST;
  answer : number_from (kind g.row.LOWEST g.row.HIGHEST) l.value (drop l.b-index l.s) ≡ number (kind g.row.LOWEST g.row.HIGHEST) l.s;
}
