-- `texts::trimmed_end` meets its contract: up to the loop's place the trimmed text is the one up to the head's end.
use Prim.Native.Nat.{◌≤◌}
use mathlib.Core.Path.{◌≡◌}
use lib.ListN.{drop}
use Rattle.rules.specs.Texts.{right_trim}
use Rattle.texts.proofs.Trims.{between}
use Rattle.texts.proofs.trimmed_end.Given as goal

abbrev pub invariant-loop-last : goal.invariant-loop-last
invariant-loop-last l = (l.start ≤ l.last) × (right_trim (drop l.start l.head) ≡ right_trim (between l.head l.start l.last))
