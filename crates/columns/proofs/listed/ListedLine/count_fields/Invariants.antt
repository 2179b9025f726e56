-- `columns::ListedLine::count_fields` meets its contract. The invariant: the fields from the loop's column on, and the columns
-- in front of it, are as many as the fields.
use Prim.Native.Nat.{◌+◌}
use mathlib.Core.Path.{◌≡◌}
use lib.ListN.{length, drop}
use Rattle.rules.specs.Columns.{fields}
use Rattle.columns.specs.Lines.{columns_in}
use Rattle.columns.proofs.listed.ListedLine.count_fields.Given as goal

abbrev pub invariant-loop-k : goal.invariant-loop-k
invariant-loop-k l = l.k + length (fields (drop l.k (columns_in l.self))) ≡ length (fields (columns_in l.self))
