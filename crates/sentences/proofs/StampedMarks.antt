-- Marks that are none larger than so much: zeros are, and what was so is so of one more.
use Prim.Native.Nat.{ℕ, ◌+◌}
use native.Mathlib.Omega.{arith}
use mathlib.Core.List.{List}
use lib.ListN.{replicate, length-replicate}
use Rattle.judging.proofs.Counts.{none_marked}
use Rattle.sentences.specs.Keeping.{MarkedUpTo}

pub zeros_marked : MarkedUpTo 0 (replicate 500 0)
zeros_marked = record { size = length-replicate {A = ℕ} 500 0; none_larger = none_marked 500 }

pub marked_further : {n : ℕ} {marks : List ℕ} → MarkedUpTo n marks → MarkedUpTo (n + 1) marks
marked_further m = record { size = m.size; none_larger = λ k. omega (arith, m.none_larger k) }
