-- `texts::percents_from` meets its contract: from the loop's place on, the signs stand where they stand from `at` on.
use mathlib.Core.Path.{◌≡◌}
use Prim.Native.Nat.{◌+◌}
use lib.ListN.{length, drop}
use Rattle.rules.specs.Texts.{front_bytes}
use Rattle.texts.proofs.percents_from.Given as goal

abbrev pub invariant-loop-i : goal.invariant-loop-i
invariant-loop-i l = l.at + length (front_bytes (drop l.at l.head)) ≡ l.i + length (front_bytes (drop l.i l.head))
