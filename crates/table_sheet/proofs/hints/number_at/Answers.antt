-- `table_sheet::hints::number_at` meets its contract: the two numbers it reads are the definition's.
use Prim.Native.Nat.{ℕ}
use mathlib.Core.Path.{ap₂}
use lib.Bits.{bit_xor}
use Rattle.table_sheet.specs.Hints.{moved, number_at}
use Rattle.table_sheet.proofs.hints.number_at.Goals as goal

pub returns : goal.returns
unfolding number_at
returns c = ap₂ (λ (x y : ℕ). bit_xor x (moved y 3)) c.eight_at.ensures c.eight_at-back.ensures
