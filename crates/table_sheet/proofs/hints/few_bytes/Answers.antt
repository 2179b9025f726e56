-- `table_sheet::hints::few_bytes` meets its contract: the three bytes it reads are the definition's.
use Prim.Native.Nat.{ℕ, ◌+◌, ◌-◌, ◌*◌, ◌/◌}
use mathlib.Core.Path.{ap₂}
use lib.Bits.{bit_or}
use lib.ListN.{length}
use Rattle.table_sheet.specs.Hints.{moved, few_bytes}
use Rattle.table_sheet.proofs.hints.few_bytes.Goals as goal

pub returns : goal.returns
unfolding few_bytes
returns c =
    let n = length c.args.tag.now in
    ap₂ (λ (x y : ℕ). bit_or x (moved y 56))
    (ap₂ (λ (x y : ℕ). bit_or (moved x (64 - 8 * n)) (moved y (64 - 8 * n + 8 * (n / 2)))) c.from-2.ensures c.from.ensures)
    c.from-3.ensures
